use Rattle.esm_env.proofs.MakesLemmas.{item_goes, items_end, need_at}
use Rattle.esm_env.proofs.makes.declare_body.Goals as goal

pub declare_item-requires : goal.declare_item-requires
declare_item-requires c = rw c.item-item.is (need_at _ _ c.loop-item.item-index _ c.items-items.ensures.below c.loop-item-test.true)

pub loop-item-preserved : goal.loop-item-preserved
loop-item-preserved c = rw (c.in_ok-declare_item.ensures, c.item-item.is) (item_goes c.args.tree.now.stmts _ c.loop-item.item-index _ _ _ c.loop-item-test.true c.loop-item.invariant)

pub returns : goal.returns
returns c = rw (← c.items-items.ensures.items) (items_end c.args.tree.now.stmts _ c.loop-item.item-index _ _ c.loop-item-test.false c.loop-item.invariant)
