use Rattle.std.proofs.Common.{◌≡◌, ◌-◌, vec_len}
use Rattle.std.specs.Vec.{vec_capacity}
use Rattle.esm_module_map.specs.Hearing.{HearsPosts}
use Rattle.esm_module_map.proofs.state.MapState.hear.Given as goal

abbrev pub invariant-loop-found : goal.invariant-loop-found
invariant-loop-found g l = record {
  heard : HearsPosts g.P.Payload.weight l.self.events.items l.initial.known l.initial.heard.items l.known l.heard.items;
  room : vec_capacity l.heard ≡ vec_capacity l.initial.heard;
}

abbrev pub decreases-loop-found : goal.decreases-loop-found
decreases-loop-found g l = vec_capacity l.heard - vec_len l.heard
