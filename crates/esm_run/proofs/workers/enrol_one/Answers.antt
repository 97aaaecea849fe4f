use Rattle.std.proofs.Common.{◌∙◌, ap, ◌∷◌}
use Rattle.esm_hlock.specs.Words.{knows}
use Rattle.esm_module_map.specs.Views.{view_in}
use Rattle.esm_run.proofs.LeadLemmas.{begins_on}
use Rattle.esm_run.proofs.workers.enrol_one.Goals as goal

pub returns-in-Ok-clause-begins : goal.returns-in-Ok-clause-begins
returns-in-Ok-clause-begins g c =
    let told = c.in-Ok.ensures.seen in
    begins_on (knows c.args.pass).seen told.0 (view_in c.in-Ok.caller.pass).seen (told.1.1.0, told.1.1.1) (_, told.2.1)

pub returns-in-Ok-clause-new : goal.returns-in-Ok-clause-new
returns-in-Ok-clause-new g c = record {
  own = c.in-Ok.ensures.numbers ∙ ap (λ l. c.in-Ok.caller.number ∷ l) c.requires.numbers;
  unasked = c.in-Ok.ensures.fresh.2;
  untaken = c.in-Ok.ensures.fresh.0;
  unanswered = c.in-Ok.ensures.fresh.1;
}
