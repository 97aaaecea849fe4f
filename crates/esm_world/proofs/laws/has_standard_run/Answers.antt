use Rattle.esm_world.proofs.ToldWorld.{stays_told, stays_complete}
use Rattle.esm_world.specs.Sound.{IsSound}
use Rattle.esm_world.proofs.HasTurnSteps.{steps_have_outcomes}
use Rattle.esm_world.proofs.LastLines.{has_standard_run}
use Rattle.esm_world.proofs.laws.has_standard_run.Goals as goal

pub returns : goal.returns
returns c =
    has_standard_run IsSound (steps_have_outcomes c.shared_set.ensures.agrees c.shared_set.ensures.ends stays_told stays_complete) (λ w f. f.ready.fit)
    c.shared_set.ensures.agrees c.shared_set.ensures.ends
