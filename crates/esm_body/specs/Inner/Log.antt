-- Steps and the log, with their limits, as the code keeps them.
use Rattle.std.specs.Prelude.{◌≡◌, ℕ, ◌+◌, ◌<◌, ◌≤◌, List, [], ◌∷◌, ◌++◌, length, Some, Result, Ok, Err, string_bytes}
use Rattle.esm_base.specs.declared.limits.Limit.TheVariants.{L1, L2, L3, L4, L5}
use Rattle.esm_base.specs.declared.limits.TheConstants.{MAX_STEPS, MAX_LOG_BYTES}
use Rattle.esm_body.specs.declared.log.Log.{Log}
use Rattle.esm_rewriting.specs.declared.stop.Stop.{Stop}
use Rattle.esm_rewriting.specs.declared.stop.Stop.TheVariants as stops

-- exactly where more than MAX_STEPS would be taken
abbrev pub TookSteps : Log → ℕ → Result (Unit {0}) Stop → Log → Type 0
TookSteps old n (Ok u) new = (old.steps + n ≤ MAX_STEPS) × (new ≡ record old { steps = old.steps + n })
TookSteps old n (Err (stops.Limit L3)) new = (MAX_STEPS < old.steps + n) × (new ≡ record old { stopped = Some L3 })
TookSteps old n (Err (stops.Limit L1)) new = ⊥
TookSteps old n (Err (stops.Limit L2)) new = ⊥
TookSteps old n (Err (stops.Limit L4)) new = ⊥
TookSteps old n (Err (stops.Limit L5)) new = ⊥
TookSteps old n (Err stops.Memory) new = ⊥

-- exactly where there would be more than MAX_LOG_BYTES
abbrev pub AddedLine : Log → List ℕ → Result (Unit {0}) Stop → Log → Type 0
AddedLine old line (Ok u) new = (length (string_bytes old.text) + length line + 1 ≤ MAX_LOG_BYTES) × (new.steps ≡ old.steps)
    × (new.stopped ≡ old.stopped) × (string_bytes new.text ≡ string_bytes old.text ++ line ++ 10 ∷ [])
AddedLine old line (Err (stops.Limit L5)) new = (MAX_LOG_BYTES < length (string_bytes old.text) + length line + 1)
    × (new ≡ record old { stopped = Some L5 })
AddedLine old line (Err (stops.Limit L1)) new = ⊥
AddedLine old line (Err (stops.Limit L2)) new = ⊥
AddedLine old line (Err (stops.Limit L3)) new = ⊥
AddedLine old line (Err (stops.Limit L4)) new = ⊥
AddedLine old line (Err stops.Memory) new = Unit {0}
