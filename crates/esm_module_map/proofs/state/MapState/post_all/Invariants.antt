use Rattle.std.proofs.Common.{◌≡◌, length}
use Rattle.std.specs.Vec.Iter.{into_iter_items, into_iter_len}
use Rattle.esm_module_map.proofs.Posting.{IsPosting}
use Rattle.esm_module_map.proofs.state.MapState.post_all.Given as goal

abbrev pub invariant-loop-one : goal.invariant-loop-one
invariant-loop-one g l = record {
  len : into_iter_len l.one-iterator ≡ length (into_iter_items l.one-iterator);
  posting : IsPosting g.P.Payload.weight g.P.Payload.fits l.caller l.initial.self.events.items l.fn.filled.items l.self.events.items (into_iter_items l.one-iterator);
  callers : l.self.callers ≡ l.initial.self.callers;
}
