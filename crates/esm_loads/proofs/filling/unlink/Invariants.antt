-- The modules before are Unlinked.
use Rattle.std.proofs.Common.{◌≡◌, take, map, ℕ}
use Rattle.std.specs.Prelude.{◌||◌}
use Rattle.esm_realm.specs.Sound.{IsSound, records_of}
use Rattle.esm_loads.specs.LoadsView.{is_in, is_unlinked, before_linking}
use Rattle.esm_loads.specs.Loaded.{PastNewStay}
use Rattle.esm_loads.specs.Inner.Filling.{FillsNew}
use Rattle.esm_loads.proofs.filling.unlink.Given as goal

abbrev pub invariant-loop-i : goal.invariant-loop-i
invariant-loop-i l = record {
  same : map before_linking (records_of l.realm) ≡ map before_linking (records_of l.fn.realm);
  unlinked : (id : ℕ) → is_unlinked (records_of l.realm) id ≡ (is_unlinked (records_of l.fn.realm) id || is_in (take l.i l.ids) id);
  stay : PastNewStay (records_of l.fn.realm) (records_of l.realm);
  fills : FillsNew l.urls.slots (records_of l.fn.realm) (records_of l.realm);
  sound : IsSound (records_of l.realm);
}
