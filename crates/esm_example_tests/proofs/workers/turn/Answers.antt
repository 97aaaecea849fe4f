use Rattle.std.proofs.Common.{◌∙◌, ap, sym, ◌∷◌, []}
use Rattle.esm_import_map.specs.ImportMap.{no_maps}
use Rattle.esm_module_map.specs.Views.{view_in}
use Rattle.esm_example_tests.proofs.Guided.{as_given}
use Rattle.esm_example_tests.proofs.Served.{served_next}
use Rattle.esm_example_tests.proofs.workers.turn.Goals as goal

pub fetch_one-requires-clause-guide : goal.fetch_one-requires-clause-guide
fetch_one-requires-clause-guide g c = as_given (view_in c.args.job.now.caller.pass).seen c.args.guide.now c.requires.guide.0 c.requires.guide.1

pub returns-in-Ok-clause-job : goal.returns-in-Ok-clause-job
returns-in-Ok-clause-job g c = (
  c.fetch_one.ensures.own,
  c.fetch_one.ensures.same.0.1 ∙ c.requires.job.1,
  c.fetch_one.ensures.same.0.2 ∙ c.requires.job.2 ∙ ap (λ n. n ∷ []) (sym c.fetch_one.ensures.same.1),
  served_next (g.S.Source.holds c.args.job.now.source) (g.S.Source.holds c.fetch_one.new.source) (g.S.Source.asked c.fetch_one.new.source) c.args.job.now.caller.number c.fetch_one.new.caller.number (view_in c.fetch_one.new.caller.pass).seen c.fetch_one.ensures.holds c.fetch_one.ensures.same.1 c.in-Ok.ensures.served,
)

pub returns-in-Ok-clause-guide : goal.returns-in-Ok-clause-guide
returns-in-Ok-clause-guide g c = c.guide_stays.ensures no_maps (view_in c.args.job.now.caller.pass).seen (view_in c.fetch_one.new.caller.pass).seen c.fetch_one.ensures.begins c.requires.guide.1
