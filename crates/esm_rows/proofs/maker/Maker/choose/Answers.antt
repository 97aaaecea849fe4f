use Rattle.std.proofs.Common.{[], ◌∷◌, refl}
use Rattle.std.proofs.lemmas.Result.{on_ok_weaker}
use Rattle.esm_tree.specs.Flat.{part}
use Rattle.esm_rows.specs.Rows.{expr_row}
use Rattle.esm_rows.specs.Rows.{Operation as o}
use Rattle.esm_rows.specs.Locals.{names_of}
use Rattle.esm_rows.specs.Working.{amid, first_row}
use Rattle.esm_rows.specs.declared.op.Op.TheVariants as op
use Rattle.esm_rows.specs.declared.works.Work.TheVariants as w
use Rattle.esm_rows.proofs.Worked.{shift}
use Rattle.esm_rows.proofs.maker.Maker.choose.Goals as goal

pub returns : goal.returns
returns c = λ exprs stmts made ss is owes.
    let l = c.in_ok-left.ensures owes.row owes.told in
    on_ok_weaker c.push_if.result (shift exprs stmts (w.Put op.Step ∷ w.Value c.args.value ∷ w.First c.args.id c.in_ok-left.left ∷ []) owes (λ r. r) (o.Enter 0 ∷ o.Leave 0 c.in_ok-left.left ∷ owes.row) (c.in_ok-put-2.ensures (o.Leave 0 c.in_ok-left.left ∷ owes.row) (o.Enter 0) (c.in_ok-put.ensures owes.row (o.Leave 0 c.in_ok-left.left) owes.told refl) refl) (λ i. amid (names_of c.args.self.now.blocks.items) (o.Step ∷ expr_row (names_of c.args.self.now.blocks.items) (part exprs c.args.value) (first_row (names_of c.args.self.now.blocks.items) (is i) (l i) (o.Enter 0 ∷ o.Leave 0 (l i) ∷ owes.row)))) ((λ texts. refl), (tt, (tt, tt))) _) c.push_if.ensures
