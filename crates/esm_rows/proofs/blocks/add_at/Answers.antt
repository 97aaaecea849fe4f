use Rattle.std.proofs.Common.{ap, sym, ◌∙◌, ◌++◌}
use Rattle.std.proofs.lemmas.List.{append-nil}
use Rattle.std.proofs.lemmas.Result.{on_ok_weaker}
use Rattle.esm_env.specs.Declarations.{declares}
use Rattle.esm_rows.specs.Locals.{declared}
use Rattle.esm_rows.proofs.blocks.add_at.Goals as goal

pub returns-in-Some : goal.returns-in-Some
returns-in-Some c = on_ok_weaker c.add_declared.result (λ e. e ∙ ap (λ ds. declared c.args.names.now.items ++ ds) (ap declares (sym c.in-Some.ensures) ∙ sym (append-nil _))) (c.add_declared.ensures c.args.tree.now.exprs c.args.tree.now.stmts)

pub returns-in-None : goal.returns-in-None
returns-in-None c = rw c.in-None.ensures (sym (append-nil (declared c.args.names.now.items)))
