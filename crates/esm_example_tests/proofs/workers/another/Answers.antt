use Rattle.esm_hlock.specs.Words.{knows}
use Rattle.esm_module_map.specs.Views.{view_in}
use Rattle.esm_example_tests.proofs.Guided.{same_guide}
use Rattle.esm_example_tests.proofs.workers.another.Goals as goal

pub enrolled-requires-clause-guide : goal.enrolled-requires-clause-guide
enrolled-requires-clause-guide g c = same_guide (view_in c.args.caller.now.pass).seen (knows c.split-pass.result).seen c.split-pass.ensures.seen.1 c.requires.guide

pub returns-in-Ok-clause-guide : goal.returns-in-Ok-clause-guide
returns-in-Ok-clause-guide g c = same_guide (view_in c.args.caller.now.pass).seen (view_in c.split-pass.new.caller.pass).seen c.split-pass.ensures.seen.0 c.requires.guide

pub returns-in-Err-clause-guide : goal.returns-in-Err-clause-guide
returns-in-Err-clause-guide g c = same_guide (view_in c.args.caller.now.pass).seen (view_in c.split-pass.new.caller.pass).seen c.split-pass.ensures.seen.0 c.requires.guide
