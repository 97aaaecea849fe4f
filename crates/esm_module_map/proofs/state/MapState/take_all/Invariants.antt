use Rattle.std.proofs.Common.{◌≡◌, ◌≤◌, ◌+◌, ◌-◌, [], string_bytes, vec_len}
use Rattle.std.specs.Prelude.{All}
use Rattle.std.specs.Vec.{vec_capacity}
use Rattle.esm_module_map.proofs.Batches.{LeadsOn}
use Rattle.esm_module_map.proofs.state.MapState.take_all.Given as goal

abbrev pub invariant-loop-rooms : goal.invariant-loop-rooms
invariant-loop-rooms g l = record {
  leads : LeadsOn g.P.Payload.weight l.caller l.initial.self.events.items l.most l.orders.items l.self.events.items (l.most - vec_len l.orders);
  callers : l.self.callers ≡ l.initial.self.callers;
  empty : All (λ r. string_bytes r ≡ []) l.rooms.items;
  each : vec_len l.rooms + vec_len l.orders ≡ vec_len l.initial.rooms;
  room : vec_len l.rooms + vec_len l.orders ≤ vec_capacity l.orders;
}

abbrev pub decreases-loop-rooms : goal.decreases-loop-rooms
decreases-loop-rooms g l = l.most - vec_len l.orders
