use Rattle.std.proofs.Common.{[], ◌∷◌, refl, ap, sym, ◌∙◌}
use Rattle.std.specs.Prelude.{false}
use Rattle.esm_tree.specs.Flat.{stmt_parts}
use Rattle.esm_env.specs.Declarations.{declared_in}
use Rattle.esm_rows.specs.Rows.{stmts_row}
use Rattle.esm_rows.specs.Rows.{Operation as o}
use Rattle.esm_rows.specs.Locals.{declared, names_of}
use Rattle.esm_rows.specs.Working.{amid, tried_row}
use Rattle.esm_rows.specs.declared.op.Op.TheVariants as op
use Rattle.esm_rows.specs.declared.works.Work.TheVariants as w
use Rattle.esm_rows.proofs.Worked.{shift, handler_same}
use Rattle.esm_rows.proofs.maker.Maker.attempt.Goals as goal

pub returns : goal.returns
returns c = λ made ss handler is hs owes.
    let s = sym hs in
    let d = c.in_ok-block.ensures ∙ ap declared_in s in
    let m = c.in_ok-many.ensures in
    let l = c.in_ok-left.ensures owes.row owes.told in
    let same = handler_same (names_of c.args.self.now.blocks.items) handler (declared c.in_ok-block.block) (stmt_parts c.args.tree.now.stmts c.args.handler.now) d s c.in_ok-many.many c.in_ok-left.left owes.row m l in
    c.open.ensures c.args.tree.now.exprs c.args.tree.now.stmts made (λ texts. refl) (λ texts. refl) (shift c.args.tree.now.exprs c.args.tree.now.stmts (w.Put op.Step ∷ w.Tried c.args.id c.in_ok-left.left ∷ []) owes (λ r. o.Caught false c.in_ok-many.many ∷ stmts_row (declared c.in_ok-block.block ∷ names_of c.args.self.now.blocks.items) (stmt_parts c.args.tree.now.stmts c.args.handler.now) (o.Leave c.in_ok-many.many c.in_ok-left.left ∷ r)) owes.row owes.told (λ i. amid (names_of c.args.self.now.blocks.items) (o.Step ∷ tried_row (names_of c.args.self.now.blocks.items) (is i) (l i) (same i))) ((λ texts. refl), (tt, tt)) _ c.in_ok-push_two.ensures)
