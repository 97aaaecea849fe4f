use Rattle.esm_world.proofs.ToldWorld.{stays_told, stays_complete}
use Rattle.esm_world.proofs.HasTurnSteps.{worlds_stay_sound}
use Rattle.esm_world.proofs.SomeReaction.{links_stay_ready}
use Rattle.esm_world.proofs.RunsSound.{runs_sound}
use Rattle.esm_world.proofs.fits.worlds_stay_sound.Goals as goal

pub returns-clause-steps : goal.returns-clause-steps
returns-clause-steps c = worlds_stay_sound c.shared_set.ensures.agrees c.shared_set.ensures.ends stays_told stays_complete

pub returns-clause-links : goal.returns-clause-links
returns-clause-links c = links_stay_ready c.shared_set.ensures.agrees c.shared_set.ensures.ends

pub returns-clause-runs : goal.returns-clause-runs
returns-clause-runs c = runs_sound c.shared_set.ensures.agrees c.shared_set.ensures.ends
