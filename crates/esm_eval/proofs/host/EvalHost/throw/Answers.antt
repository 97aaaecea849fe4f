use Rattle.std.proofs.Common.{refl}
use Rattle.esm_eval.proofs.host.EvalHost.throw.Goals as goal

pub returns-in-Ok-clause-throws : goal.returns-in-Ok-clause-throws
returns-in-Ok-clause-throws g c = (refl, c.in-Ok.ensures.world)

pub returns-in-Ok-clause-fits : goal.returns-in-Ok-clause-fits
returns-in-Ok-clause-fits g c = (c.in-Ok.ensures.fits, c.in-Ok.ensures.known)
