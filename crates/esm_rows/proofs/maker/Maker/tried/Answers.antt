use Rattle.std.proofs.Common.{◌∷◌, refl, ap, ◌∙◌}
use Rattle.esm_tree.specs.Flat.{stmt_part, stmt_parts}
use Rattle.esm_env.specs.Declarations.{declared_in}
use Rattle.esm_rows.specs.Rows.{stmts_row}
use Rattle.esm_rows.specs.Rows.{Operation as o}
use Rattle.esm_rows.specs.Locals.{declared, names_of}
use Rattle.esm_rows.specs.Working.{first_block}
use Rattle.esm_rows.proofs.Worked.{owed_as, tried_same}
use Rattle.esm_rows.proofs.maker.Maker.tried.Goals as goal

pub returns : goal.returns
returns c = λ made owes.
    let s = c.first_ids-ids.ensures in
    let d = c.in_ok-block.ensures ∙ ap declared_in s in
    let m = c.in_ok-many.ensures in
    let k = c.in_ok-handler.ensures owes.row owes.told in
    c.open.ensures c.args.tree.now.exprs c.args.tree.now.stmts made (λ texts. refl) (λ texts. refl) (owed_as c.args.tree.now.exprs c.args.tree.now.stmts owes (λ r. o.Try c.in_ok-many.many c.in_ok-handler.handler ∷ stmts_row (declared c.in_ok-block.block ∷ names_of c.args.self.now.blocks.items) (stmt_parts c.args.tree.now.stmts c.first_ids-ids.result.now) (o.EndTry c.in_ok-many.many c.args.left ∷ r)) (tried_same (names_of c.args.self.now.blocks.items) (first_block (stmt_part c.args.tree.now.stmts c.args.id)) (declared c.in_ok-block.block) (stmt_parts c.args.tree.now.stmts c.first_ids-ids.result.now) d s c.in_ok-handler.handler c.in_ok-many.many c.args.left c.args.left owes.row k m refl))
