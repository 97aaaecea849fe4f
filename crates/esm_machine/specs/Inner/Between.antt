-- What holds of a machine between two turns.
use Rattle.std.specs.Prelude.{◌≡◌, Option, Some, None}
use Rattle.esm_loads.specs.Arrival.{next}
use Rattle.esm_machine.specs.Represents.{TurnEnd}
use Rattle.esm_machine.specs.Inner.Parts.{AreSound, seen_in}
use Rattle.esm_machine.specs.declared.parts.Parts.{Parts}

-- the parts are those of a world of a run, and no pending request of a fetched URL is left. After a refusal nothing is said
abbrev pub IsBetweenTurns : Option TurnEnd → Parts → Type 0
IsBetweenTurns None p = AreSound p × (next (seen_in p).loading ≡ None)
IsBetweenTurns (Some end) p = Unit {0}
