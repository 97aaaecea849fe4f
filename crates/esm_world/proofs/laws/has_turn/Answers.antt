use Rattle.esm_world.proofs.HasTurns.{turns_end}
use Rattle.esm_world.proofs.ToldWorld.{stays_told, stays_complete}
use Rattle.esm_world.specs.Sound.{IsSound}
use Rattle.esm_world.proofs.HasTurnSteps.{steps_have_outcomes}
use Rattle.esm_world.proofs.laws.has_turn.Goals as goal

pub returns : goal.returns
returns c = turns_end IsSound (steps_have_outcomes c.shared_set.ensures.agrees c.shared_set.ensures.ends stays_told stays_complete)
