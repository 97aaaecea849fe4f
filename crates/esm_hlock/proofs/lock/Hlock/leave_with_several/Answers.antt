-- Several entries more: the number and the numbers stay.
use Rattle.std.proofs.Common.{inr, ◌∙◌}
use Rattle.esm_hlock.proofs.Keeps.Growing.{number_kept, numbers_kept}
use Rattle.esm_hlock.proofs.lock.Hlock.leave_with_several.Goals as goal

pub put_back-requires-clause-grows : goal.put_back-requires-clause-grows
put_back-requires-clause-grows g c = inr c.requires.steps

pub returns-clause-number : goal.returns-clause-number
returns-clause-number g c = c.put_back.ensures.number ∙ number_kept g.T.Story.maker _ _ c.requires.steps.has _

pub returns-clause-numbers : goal.returns-clause-numbers
returns-clause-numbers g c = c.put_back.ensures.numbers ∙ numbers_kept g.T.Story.maker _ _ _ c.requires.steps.has _
