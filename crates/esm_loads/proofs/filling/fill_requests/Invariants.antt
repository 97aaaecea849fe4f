-- The requests before have loaded their modules.
use Rattle.std.proofs.Common.{◌≡◌, length, Some}
use Rattle.std.specs.Prelude.{slice_get}
use Rattle.esm_realm.specs.Sound.{RecordParts, IsSound, records_of}
use Rattle.esm_loads.specs.Inner.Filling.{Fills}
use Rattle.esm_loads.proofs.filling.fill_requests.Given as goal

abbrev pub invariant-loop-request : goal.invariant-loop-request
invariant-loop-request l = record {
  fills : (r : RecordParts) → slice_get (records_of l.fn.realm) l.id.0 ≡ Some r → Fills l.urls.slots l.request l.id.0 r (records_of l.fn.realm) (records_of l.realm);
  sound : IsSound (records_of l.realm);
  long : length (records_of l.realm) ≡ length (records_of l.fn.realm);
}
