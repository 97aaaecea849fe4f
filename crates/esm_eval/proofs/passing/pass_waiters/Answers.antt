use Rattle.std.proofs.Common.{refl, ◌∙◌}
use Rattle.esm_eval.proofs.passing.pass_waiters.Goals as goal

pub loop-i-init : goal.loop-i-init
loop-i-init c = record { same = refl; kept = λ stamps k. k }

pub loop-i-preserved : goal.loop-i-preserved
loop-i-preserved c = record { same = c.pass_one.ensures.same ∙ c.loop-i.invariant.same; kept = λ stamps k. c.pass_one.ensures.kept stamps (c.loop-i.invariant.kept stamps k) }
