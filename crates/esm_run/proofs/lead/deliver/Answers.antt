use Rattle.std.proofs.Common.{◌∙◌, ap, sym, subst}
use Rattle.std.specs.Arc.{arc_value}
use Rattle.std.proofs.lemmas.List.{map-append}
use Rattle.esm_ast.specs.Outcome.{outcome_view}
use Rattle.esm_fetch.specs.declared.posted.Posted.{Posted}
use Rattle.esm_machine.specs.Machine.{state_of}
use Rattle.esm_machine.specs.Represents.{RepresentsOn}
use Rattle.esm_record.specs.Delivered.{deliveries_of, delivery_of}
use Rattle.esm_run.specs.Inner.Leading.{IsResolved, IsLedShort}
use Rattle.esm_run.proofs.LeadLemmas.{led_more, short_of}
use Rattle.esm_run.proofs.lead.deliver.Goals as goal

pub hand_over-requires-clause-targets : goal.hand_over-requires-clause-targets
hand_over-requires-clause-targets c = subst (λ (p : Posted). IsResolved (state_of c.args.machine.now) c.args.chosen.ticket.url p) (sym c.deref-2.ensures) c.requires

pub returns-then-not-is_open : goal.returns-then-not-is_open
returns-then-not-is_open c = λ maps entry trace n h ticket post led. led

pub returns-in_default : goal.returns-in_default
returns-in_default c = λ maps entry trace n h ticket post led. short_of maps entry trace n h c.args.machine.now (deliveries_of c.args.taken.now.items) led

pub returns-in_default-hand_over : goal.returns-in_default-hand_over
returns-in_default-hand_over c = λ maps entry trace n h ticket post led. short_of maps entry trace n h c.args.machine.now (deliveries_of c.args.taken.now.items) led

pub returns-in_default-push : goal.returns-in_default-push
returns-in_default-push c = λ maps entry trace n h ticket post led.
    subst (λ l. IsLedShort maps entry trace n h (deliveries_of l)) (sym c.in_default-push.ensures.items) (short_of maps entry trace n h c.args.machine.now (deliveries_of c.args.taken.now.items) led)

pub returns : goal.returns
returns c = λ maps entry trace n h ticket post led.
    let p = arc_value c.args.chosen.payload in
    let turn = subst (λ (q : Posted). RepresentsOn (state_of c.args.machine.now) c.args.chosen.ticket.url (outcome_view q.outcome) (state_of c.hand_over.new.machine)) c.deref-2.ensures c.in-Ok-hand_over.ensures in
    let read = c.in-Ok.ensures ∙ ap (λ (q : Posted). outcome_view q.outcome) c.deref.ensures in
    led_more c.asks_stay.ensures c.has_standard_run.ensures maps entry trace n h c.args.machine.now c.hand_over.new.machine (deliveries_of c.args.taken.now.items) (deliveries_of c.push.new.self.items) c.args.chosen.ticket.url c.args.chosen.ticket.number p (outcome_view c.in-Ok.outcome)
    (subst (λ o. RepresentsOn (state_of c.args.machine.now) c.args.chosen.ticket.url o (state_of c.hand_over.new.machine)) (sym read) turn) ticket post (sym read)
    (ap deliveries_of c.in-Ok-push.ensures.items ∙ map-append delivery_of c.args.taken.now.items _) led
