use Rattle.esm_world.proofs.StartsOnce.{lawful}
use Rattle.esm_world.proofs.FitEvaluation.{evaluated, resumed}
use Rattle.esm_world.proofs.fits.has_fit_outcomes.Goals as goal

pub returns-clause-evaluation : goal.returns-clause-evaluation
returns-clause-evaluation c linked entries h = evaluated linked entries h c.shared_set.ensures.agrees c.shared_set.ensures.ends lawful

pub returns-clause-resumption : goal.returns-clause-resumption
returns-clause-resumption c linked entries h w m t how f k e q = resumed linked entries h c.shared_set.ensures.agrees c.shared_set.ensures.ends w m t how f k e q
