-- Each world of a run that no limit has stopped is sound.
use Rattle.esm_resolve.specs.SharedSet.{SharedSetAgrees, SharedSetEnds}
use Rattle.esm_world.specs.RunLaws.{HoldsOfRuns, RunsFit}
use Rattle.esm_world.proofs.HasTurns.{run_fits}
use Rattle.esm_world.specs.Sound.{IsSound}
use Rattle.esm_world.proofs.HasTurnSteps.{steps_have_outcomes}
use Rattle.esm_world.proofs.ToldWorld.{stays_told, stays_complete}

module _ (agrees : SharedSetAgrees) (ends : SharedSetEnds) where
  pub runs_sound : HoldsOfRuns IsSound
  runs_sound maps built entry trace ds w r live = run_fits IsSound (steps_have_outcomes agrees ends stays_told stays_complete) maps built entry trace ds w r live

  pub runs_fit : RunsFit
  runs_fit = record {
    fits = λ maps built entry trace ds w r live. (runs_sound maps built entry trace ds w r live).ready.fit;
    loading = λ maps built entry trace ds w r live. (runs_sound maps built entry trace ds w r live).ready.loading;
    unlinked = λ maps built entry trace ds w r live. (runs_sound maps built entry trace ds w r live).ready.unlinked;
  }
