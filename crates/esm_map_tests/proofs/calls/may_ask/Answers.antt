use Rattle.std.proofs.Common.{◌≡◌, ◌∙◌, ap, sym, subst, true, is_some}
use Rattle.std.specs.Prelude.{IfSome}
use Rattle.std.specs.Arc.{arc_value}
use Rattle.esm_module_map.specs.Histories.{IsPostIn}
use Rattle.esm_module_map.specs.Leading.{leads_to}
use Rattle.esm_module_map.specs.Replay.{replay, is_posted}
use Rattle.esm_module_map.specs.Views.{view_in}
use Rattle.esm_map_tests.proofs.LeadLemmas.{posted_leads}
use Rattle.esm_map_tests.proofs.calls.may_ask.Goals as goal

pub returns-in-Ok-Some-clause-leads : goal.returns-in-Ok-Some-clause-leads
returns-in-Ok-Some-clause-leads g c = λ _ to.
    let weight = g.P.Payload.weight in let seen = (view_in c.entry.new.caller.pass).seen in let n = c.in-Ahead.number in let found = c.in-Ok-Some in
    let posted : is_posted (replay weight seen) n ≡ true = sym found.ensures.exact ∙ ap is_some found.field-0-is in
    let post = subst (λ o. IfSome o (λ p. IsPostIn seen n (arc_value p))) found.field-0-is found.ensures.posted in
    subst (λ why. leads_to g.P.Payload.leads seen why to ≡ true) (sym c.in-Ahead.is) (posted_leads weight g.P.Payload.leads c.requires.any seen n (arc_value found._payload) c.entry.new.caller.legal posted post to)
