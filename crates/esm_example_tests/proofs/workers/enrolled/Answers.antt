use Rattle.esm_hlock.specs.Words.{knows}
use Rattle.esm_import_map.specs.ImportMap.{no_maps}
use Rattle.esm_module_map.specs.Views.{view_in}
use Rattle.esm_example_tests.proofs.Guided.{begins_on}
use Rattle.esm_example_tests.proofs.workers.enrolled.Goals as goal

pub returns-in-Ok-clause-guide : goal.returns-in-Ok-clause-guide
returns-in-Ok-clause-guide g c =
    let told = c.in-Ok.ensures.seen in
    c.guide_stays.ensures no_maps (knows c.args.pass).seen (view_in c.in-Ok.caller.pass).seen
    (begins_on (knows c.args.pass).seen told.0 (view_in c.in-Ok.caller.pass).seen (told.1.1.0, told.1.1.1) (_, told.2.1)) c.requires.guide
