use Rattle.std.proofs.Common.{◌≤◌, ◌-◌, length, subst, arith}
use Rattle.std.proofs.Math.ListN.{drop_of_length-le}
use Rattle.esm_rows.specs.Drafts.{IsDraft}
use Rattle.esm_rows.specs.Locals.{names_of}
use Rattle.esm_rows.proofs.Entered.{binding_goes}
use Rattle.esm_rows.proofs.simple.put_bindings.Goals as goal

pub loop-at-init : goal.loop-at-init
loop-at-init c = λ row told.
    let all : length c.args.bindings.now ≤ length c.args.bindings.now = omega arith in
    rw (drop_of_length-le c.args.bindings.now all) told

pub loop-at-preserved : goal.loop-at-preserved
loop-at-preserved c =
    let a = c.loop-at.auto.at in
    let b = c.loop-at-test.true in
    λ row told. subst (λ r. IsDraft c.put_declared.new.draft r) (binding_goes (names_of c.args.blocks.now) c.args.tree.now.exprs c.args.bindings.now (c.loop-at.at - 1) c.loop-at.at c.index-bindings-at.result row c.index-bindings-at.is (omega (arith, b)) (omega (arith, a, b))) (rw c.as_str.ensures.value at (c.in_ok-put_declared.ensures _ (c.loop-at.invariant row told)))
