use Rattle.std.proofs.Common.{[], ◌-◌, length, arith}
use Rattle.std.specs.Arc.{arc_value}
use Rattle.esm_body.proofs.Levels.{binding_need, bindings_go}
use Rattle.esm_body.proofs.blocks.does_bindings.Goals as goal

pub does_init-requires-clause-value : goal.does_init-requires-clause-value
does_init-requires-clause-value c =
    let a = c.loop-place.auto.place in
    let b = c.loop-place-test.true in
    binding_need c.args.bindings.now (c.loop-place.place - 1) _ (length (arc_value c.args.tree.now).exprs) c.requires.value (omega (arith, a, b))

pub loop-place-preserved : goal.loop-place-preserved
loop-place-preserved c =
    let a = c.loop-place.auto.place in
    let b = c.loop-place-test.true in
    record {
      levels = (c.in-Ok.ensures.front []).2;
      begun = λ stmts named. bindings_go stmts c.args.id (arc_value c.args.tree.now).exprs c.args.bindings.now (c.loop-place.place - 1) c.loop-place.place _ c.args.levels.now.items c.loop-place.levels.items _ (omega (arith, b)) (omega (arith, a, b)) named (c.loop-place.invariant.begun stmts named) (rw c.index-bindings-place.is at (c.in-Ok.ensures.front stmts));
      sound = λ n h all. c.in-Ok.ensures.sound n h (c.loop-place.invariant.sound n h all);
    }
