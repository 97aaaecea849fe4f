use Rattle.std.proofs.Common.{arith}
use Rattle.esm_env.proofs.MakesLemmas.{function_goes, functions_end}
use Rattle.esm_env.proofs.makes.declare_functions.Goals as goal

pub returns : goal.returns
returns c = rw (← c.items-items.ensures.items) (functions_end c.args.m c.args.tree.now.stmts _ c.loop-item.item-index c.loop-item.index _ _ c.loop-item-test.false c.loop-item.invariant.left)

pub loop-item-preserved : goal.loop-item-preserved
loop-item-preserved c =
    let room = c.in_ok-index.ensures.room in
    let i = c.loop-item.invariant.index in
    let next = rw c.item-item.is at c.in_ok-index.ensures.next c.args.tree.now.stmts in
    record {
      index = omega (arith, room, i);
      few = c.loop-item.invariant.few;
      left = rw (c.in_ok-index.ensures.added c.args.tree.now.stmts, c.item-item.is) (function_goes c.args.m c.args.tree.now.stmts _ c.loop-item.item-index c.loop-item.index _ _ _ _ c.loop-item-test.true next c.loop-item.invariant.left);
    }
