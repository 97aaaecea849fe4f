use Rattle.std.proofs.Common.{◌∙◌, ap, sym, subst, refl, inl, arith, length}
use Rattle.std.specs.Prelude.{All}
use Rattle.std.specs.Arc.{arc_value}
use Rattle.std.proofs.lemmas.List.Elements.{All-nil}
use Rattle.esm_module_map.specs.Views.{view_in}
use Rattle.esm_record.specs.Delivered.{deliveries_of}
use Rattle.esm_machine.specs.Machine.{state_of}
use Rattle.esm_run.specs.Inner.Leading.{HasTicket, IsHeard, IsLed, IsLedShort}
use Rattle.esm_run.proofs.LeadLemmas.{led_new, short_new, serves_next, served_next}
use Rattle.esm_run.proofs.lead.drive.Goals as goal

pub returns-in_default-clause-served : goal.returns-in_default-clause-served
returns-in_default-clause-served g c = inl c.requires.served

pub returns-in_default-clause-ends : goal.returns-in_default-clause-ends
returns-in_default-clause-ends g c = short_new _ _ _ _ _ _ (ap deliveries_of c.requires.nothing) c.requires.unasked

pub loop-init : goal.loop-init
loop-init g c = record {
  own = c.requires.own;
  same = (refl, refl, refl);
  number = refl;
  holds = refl;
  served = c.requires.served;
  guide = c.requires.guide;
  tickets = subst (All (HasTicket (view_in c.args.caller.now.pass).seen)) (sym c.new-queue.ensures.0) (All-nil (HasTicket (view_in c.args.caller.now.pass).seen));
  posted = subst (All (IsHeard (view_in c.args.caller.now.pass).seen)) (sym c.new-queue.ensures.1) (All-nil (IsHeard (view_in c.args.caller.now.pass).seen));
  window = (let e = ap length c.new-queue.ensures.0 in omega (arith, e));
  led = led_new _ _ _ _ _ c.in-Ok.machine _ c.in-Ok.ensures (ap deliveries_of c.requires.nothing) c.requires.unasked;
}

pub advance-requires-clause-maps : goal.advance-requires-clause-maps
advance-requires-clause-maps g c = λ live. c.keeps_its_map.ensures (arc_value c.args.settings.now.import_map.now) c.args.entry.now c.args.trace (state_of c.loop.machine) (deliveries_of c.loop.taken.items) c.loop.invariant.led.driven.represents live

pub loop-preserved : goal.loop-preserved
loop-preserved g c =
    let inv = c.loop.invariant in let n0 = c.args.caller.now.number in
    let M = arc_value c.args.settings.now.import_map.now in let E = c.args.entry.now in
    let old = (view_in c.loop.caller.pass).seen in let new = (view_in c.advance.new.caller.pass).seen in
    record {
      own = c.advance.ensures.own;
      same = (c.advance.ensures.same.0.0 ∙ inv.same.0, c.advance.ensures.same.0.1 ∙ inv.same.1, c.advance.ensures.same.0.2 ∙ inv.same.2);
      number = c.advance.ensures.same.1 ∙ inv.number;
      holds = c.advance.ensures.holds ∙ inv.holds;
      served = serves_next (g.S.Source.holds c.loop.source) (g.S.Source.holds c.advance.new.source) (g.S.Source.asked c.advance.new.source) c.loop.caller.number c.advance.new.caller.number new c.advance.ensures.holds c.advance.ensures.same.1 c.in-Ok-advance.ensures.served;
      guide = c.guide_stays.ensures M old new c.advance.ensures.begins inv.guide;
      tickets = c.in-Ok-advance.ensures.tickets;
      posted = c.in-Ok-advance.ensures.posted;
      window = c.advance.ensures.window inv.window;
      led = subst (λ m. IsLed M E c.args.trace m new c.advance.new.machine (deliveries_of c.advance.new.taken.items)) inv.number
          (c.in-Ok-advance.ensures.led M E c.args.trace (subst (λ m. IsLed M E c.args.trace m old c.loop.machine (deliveries_of c.loop.taken.items)) (sym inv.number) inv.led));
    }

pub returns-then-has_no_ask-clause-served : goal.returns-then-has_no_ask-clause-served
returns-then-has_no_ask-clause-served g c = inl (serves_next (g.S.Source.holds c.loop.source) (g.S.Source.holds c.args.source.now) (g.S.Source.asked c.loop.source) c.loop.caller.number c.args.caller.now.number (view_in c.loop.caller.pass).seen (sym c.loop.invariant.holds) (sym c.loop.invariant.number) c.loop.invariant.served)

pub returns-in_default-advance-clause-same : goal.returns-in_default-advance-clause-same
returns-in_default-advance-clause-same g c =
    let inv = c.loop.invariant in
    ((c.advance.ensures.same.0.0 ∙ inv.same.0, c.advance.ensures.same.0.1 ∙ inv.same.1, c.advance.ensures.same.0.2 ∙ inv.same.2), c.advance.ensures.same.1 ∙ inv.number)

pub returns-in_default-advance-clause-served : goal.returns-in_default-advance-clause-served
returns-in_default-advance-clause-served g c = served_next (g.S.Source.holds c.args.source.now) (g.S.Source.holds c.loop.source) (g.S.Source.asked c.advance.new.source) c.args.caller.now.number c.loop.caller.number (view_in c.advance.new.caller.pass).seen c.loop.invariant.holds c.loop.invariant.number c.in_default-advance.ensures.served

pub returns-in_default-advance-clause-ends : goal.returns-in_default-advance-clause-ends
returns-in_default-advance-clause-ends g c =
    let inv = c.loop.invariant in
    let M = arc_value c.args.settings.now.import_map.now in let E = c.args.entry.now in
    let old = (view_in c.loop.caller.pass).seen in let new = (view_in c.advance.new.caller.pass).seen in
    subst (λ m. IsLedShort M E c.args.trace m new (deliveries_of c.advance.new.taken.items)) inv.number
    (c.in_default-advance.ensures.led M E c.args.trace (subst (λ m. IsLed M E c.args.trace m old c.loop.machine (deliveries_of c.loop.taken.items)) (sym inv.number) inv.led))
