use Rattle.std.proofs.Common.{refl}
use Rattle.std.proofs.lemmas.Result.{on_ok_weaker}
use Rattle.esm_tree.specs.Syntax as x
use Rattle.esm_rows.specs.Rows.{Operation as o}
use Rattle.esm_rows.specs.Locals.{names_of}
use Rattle.esm_rows.proofs.Steps.{leaf}
use Rattle.esm_rows.proofs.exprs.put_part.Goals as goal

pub returns-in-Some : goal.returns-in-Some
returns-in-Some c = λ whole leads. c.put_node.ensures c.args.tree.now.exprs whole leads c.in-Some.ensures (c.in_ok-left.ensures leads.row leads.told)

pub returns-in-None : goal.returns-in-None
returns-in-None c = λ whole leads. on_ok_weaker c.put.result (leaf (names_of c.args.blocks.now) c.args.tree.now.exprs c.args.tasks.now.items c.args.id x.Undefined leads c.in-None.ensures) (c.put.ensures leads.row o.Undefined leads.told refl)
