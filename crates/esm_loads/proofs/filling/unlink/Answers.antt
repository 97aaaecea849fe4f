-- Each module becomes Unlinked in its turn.
use Rattle.std.proofs.Common.{◌<◌, ◌∙◌, ap, sym, subst, length, arith}
use Rattle.std.specs.Prelude.{◌||◌, slice_index_or}
use Rattle.esm_realm.specs.Sound.{records_of}
use Rattle.esm_loads.specs.LoadsView.{is_in, is_unlinked, urls_of}
use Rattle.esm_loads.specs.Inner.Filling.{AreIdsBelow}
use Rattle.esm_loads.proofs.Places.{get_at, get_within}
use Rattle.esm_loads.proofs.Unlinks as lists
use Rattle.esm_loads.proofs.FillFacts as facts
use Rattle.esm_loads.proofs.KnownPlaces.{known_same, targets_stale}
use Rattle.esm_loads.proofs.filling.unlink.Goals as goal

pub unlink_one-requires-clause-below : goal.unlink_one-requires-clause-below
unlink_one-requires-clause-below c = subst (AreIdsBelow c.args.urls.now.slots) (sym (lists.long_stale (records_of c.args.realm.now) (records_of c.loop-i.realm) c.loop-i.invariant.same)) c.requires.below

pub unlink_one-requires-clause-known : goal.unlink_one-requires-clause-known
unlink_one-requires-clause-known c =
    let v = c.args.urls.now in
    let first = records_of c.args.realm.now in
    let R = records_of c.loop-i.realm in
    known_same (urls_of v.slots) v.starts v.places first R (targets_stale first R c.loop-i.invariant.same) c.requires.known

pub unlink_one-requires-clause-id : goal.unlink_one-requires-clause-id
unlink_one-requires-clause-id c =
    let below = c.requires.ids c.loop-i.i 0 c.loop-i-test.true in
    let long = lists.long_stale (records_of c.args.realm.now) (records_of c.loop-i.realm) c.loop-i.invariant.same in
    omega (arith, below, long)

pub loop-i-preserved : goal.loop-i-preserved
loop-i-preserved c =
    let first = records_of c.args.realm.now in
    let R = records_of c.loop-i.realm in
    let new = records_of c.unlink_one.new.realm in
    let ss = c.args.urls.now.slots in
    let id = slice_index_or c.args.ids.now c.loop-i.i 0 in
    let below = c.requires.ids c.loop-i.i 0 c.loop-i-test.true in
    let long = lists.long_stale first R c.loop-i.invariant.same in
    let inside : id < length R = omega (arith, below, long) in
    let r = get_within R id inside in
    let u = c.unlink_one.ensures.unlinks r.0 r.1 in
    record {
      same = facts.same_after ss id r.0 R new r.1 u ∙ c.loop-i.invariant.same;
      unlinked = lists.one_more first R new c.args.ids.now c.loop-i.i id c.loop-i.invariant.unlinked (get_at c.args.ids.now c.loop-i.i 0 c.loop-i-test.true) (facts.more_after ss id r.0 R new r.1 u);
      stay = facts.stay_after ss id r.0 R new r.1 u first c.loop-i.invariant.stay;
      fills = facts.fills_after ss id r.0 R new r.1 u first c.loop-i.invariant.fills;
      sound = c.unlink_one.ensures.sound;
    }

pub returns-clause-unlinked : goal.returns-clause-unlinked
returns-clause-unlinked c id =
    c.loop-i.invariant.unlinked id ∙ ap (λ ids. is_unlinked (records_of c.args.realm.now) id || is_in ids id) (lists.take_whole c.args.ids.now c.loop-i.i (omega arith))
