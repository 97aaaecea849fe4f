use Rattle.std.proofs.Common.{◌≡◌, ◌≤◌, ◌+◌, length, vec_len}
use Rattle.std.specs.Vec.{vec_capacity}
use Rattle.std.specs.Vec.Iter.{into_iter_items, into_iter_len}
use Rattle.esm_module_map.proofs.Turns.{IsMidway}
use Rattle.esm_module_map.proofs.state.MapState.ask_each.Given as goal

abbrev pub invariant-loop-wish : goal.invariant-loop-wish
invariant-loop-wish g l = record {
  len : into_iter_len l.wish-iterator ≡ length (into_iter_items l.wish-iterator);
  midway : IsMidway g.P.Payload.weight l.caller l.initial.self.events.items l.fn.wishes.items l.asked.items l.self.events.items (into_iter_items l.wish-iterator);
  callers : l.self.callers ≡ l.initial.self.callers;
  room : vec_len l.asked + length (into_iter_items l.wish-iterator) ≤ vec_capacity l.asked;
}
