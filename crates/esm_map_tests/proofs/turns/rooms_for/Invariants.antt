use Rattle.std.proofs.Common.{◌≡◌, [], string_bytes}
use Rattle.std.specs.Prelude.{All}
use Rattle.esm_map_tests.proofs.turns.rooms_for.Given as goal

abbrev pub invariant-loop : goal.invariant-loop
invariant-loop l = All (λ r. string_bytes r ≡ []) l.rooms.items
