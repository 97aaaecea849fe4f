use Rattle.std.proofs.Common.{◌+◌, drop, arith}
use Rattle.esm_tree.specs.Flat.{items_of}
use Rattle.esm_env.specs.FunctionPlaces.{places_from}
use Rattle.esm_env.proofs.FunctionLemmas.{places_goes, places_end}
use Rattle.esm_env.proofs.functions.function_places.Goals as goal

pub loop-at-init : goal.loop-at-init
loop-at-init c = rw (c.new-places.ensures.items, c.items-items.ensures.items)

pub loop-at-preserved : goal.loop-at-preserved
loop-at-preserved c =
    let later = places_from (c.loop-at.at + 1) (items_of c.args.tree.now.stmts (drop (c.loop-at.at + 1) c.items-items.result.now)) in
    places_goes c.args.tree.now.stmts c.items-items.result.now c.loop-at.at _ _ _ _ c.loop-at-test.true (rw c.index-items-at.is at c.in_ok-add_place.ensures c.args.tree.now.stmts later) c.loop-at.invariant

pub returns : goal.returns
returns c = places_end c.args.tree.now.stmts c.items-items.result.now c.loop-at.at _ _ (omega (arith, c.loop-at-test.false)) c.loop-at.invariant
