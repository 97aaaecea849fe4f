use Rattle.esm_module_map.specs.Views.{view_in}
use Rattle.esm_example_tests.proofs.Served.{serves_new}
use Rattle.esm_example_tests.proofs.workers.job.Goals as goal

pub returns-clause-job : goal.returns-clause-job
returns-clause-job g c = (c.requires.own, c.requires.share, c.requires.numbers, serves_new (g.S.Source.holds c.args.source) (g.S.Source.asked c.args.source) c.args.caller.number (view_in c.args.caller.pass).seen c.requires.unasked c.requires.fresh)
