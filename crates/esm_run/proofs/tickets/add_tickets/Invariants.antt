use Rattle.std.proofs.Common.{◌≡◌, ◌≤◌, ◌+◌, length, map, Some, slice_get}
use Rattle.std.specs.Prelude.{All}
use Rattle.esm_module_map.specs.Replay.{replay}
use Rattle.esm_module_map.specs.Replies.{number_in}
use Rattle.esm_fetch.specs.Serving.{weight}
use Rattle.esm_run.specs.Inner.Leading.{HasTicket, History}
use Rattle.esm_run.proofs.tickets.add_tickets.Given as goal

abbrev pub invariant-loop-at : goal.invariant-loop-at
invariant-loop-at l = record {
  tickets : (h : History) → map (λ a. slice_get (replay weight h).urls (number_in a)) l.asked ≡ map Some l.urls → All (HasTicket h) l.initial.tickets.items → All (HasTicket h) l.tickets.items;
  few : length l.tickets.items ≤ length l.initial.tickets.items + l.at;
}
