use Rattle.std.proofs.Common.{[], ◌∷◌, length, refl, ap, sym, ◌∙◌}
use Rattle.esm_tree.specs.Flat.{stmt_parts}
use Rattle.esm_env.specs.Declarations.{declared_in}
use Rattle.esm_rows.specs.Rows.{stmts_row}
use Rattle.esm_rows.specs.Rows.{Operation as o}
use Rattle.esm_rows.specs.Locals.{declared, names_of}
use Rattle.esm_rows.specs.Working.{amid}
use Rattle.esm_rows.specs.declared.op.Op.TheVariants as op
use Rattle.esm_rows.specs.declared.works.Work.TheVariants as w
use Rattle.esm_rows.proofs.Worked.{shift, block_same}
use Rattle.esm_rows.proofs.maker.Maker.block.Goals as goal

pub returns : goal.returns
returns c = λ made ss is owes.
    let s = sym is in
    let d = c.in_ok-block.ensures ∙ ap declared_in s in
    let m = c.in_ok-many.ensures in
    let l = c.in_ok-left.ensures owes.row owes.told in
    c.open.ensures c.args.tree.now.exprs c.args.tree.now.stmts made (λ texts. refl) (λ texts. refl) (shift c.args.tree.now.exprs c.args.tree.now.stmts (w.Put op.Step ∷ []) owes (λ r. o.Enter c.in_ok-many.many ∷ stmts_row (declared c.in_ok-block.block ∷ names_of c.args.self.now.blocks.items) (stmt_parts c.args.tree.now.stmts c.args.ids.now) (o.Leave c.in_ok-many.many c.in_ok-left.left ∷ r)) owes.row owes.told (ap (λ r. amid (names_of c.args.self.now.blocks.items) (o.Step ∷ r)) (block_same (names_of c.args.self.now.blocks.items) ss (declared c.in_ok-block.block) (stmt_parts c.args.tree.now.stmts c.args.ids.now) d s c.in_ok-many.many c.in_ok-left.left (length owes.row) owes.row m l)) ((λ texts. refl), tt) _ c.in_ok-push_work.ensures)
