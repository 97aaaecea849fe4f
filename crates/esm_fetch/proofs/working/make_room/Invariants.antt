use Rattle.std.proofs.Common.{◌≡◌, ◌≤◌, ◌+◌, ◌-◌, [], vec_len, string_bytes}
use Rattle.std.specs.Prelude.{All}
use Rattle.std.specs.Vec.{vec_capacity}
use Rattle.esm_fetch.proofs.working.make_room.Given as goal

abbrev pub invariant-loop-alloc : goal.invariant-loop-alloc
invariant-loop-alloc l = record {
  empty : All (λ r. string_bytes r ≡ []) l.rooms.items;
  few : vec_len l.rooms + l.taken ≤ 4;
  room : 4 ≤ vec_capacity l.rooms;
}

abbrev pub decreases-loop-alloc : goal.decreases-loop-alloc
decreases-loop-alloc l = 4 - vec_len l.rooms
