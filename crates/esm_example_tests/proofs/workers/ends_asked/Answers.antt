use Rattle.esm_module_map.specs.Views.{view_in}
use Rattle.esm_example_tests.proofs.Guided.{as_given}
use Rattle.esm_example_tests.proofs.workers.ends_asked.Goals as goal

pub worker-end-requires-clause-guide : goal.worker-end-requires-clause-guide
worker-end-requires-clause-guide g c = as_given (view_in c.args.job.caller.pass).seen c.args.guide.now c.requires.guide.0 c.requires.guide.1
