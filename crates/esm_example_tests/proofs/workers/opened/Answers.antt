use Rattle.std.proofs.Common.{◌∙◌}
use Rattle.esm_example_tests.proofs.Guided.{begun}
use Rattle.esm_example_tests.proofs.workers.opened.Goals as goal

pub enrolled-requires-clause-guide : goal.enrolled-requires-clause-guide
enrolled-requires-clause-guide g c = begun _ _ c.in_ok-modules.ensures.seen (c.in_ok-guide.ensures.ok ∙ c.empty.ensures)
