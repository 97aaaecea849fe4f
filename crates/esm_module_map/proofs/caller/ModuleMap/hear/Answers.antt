use Rattle.std.proofs.Common.{arith, ap, ◌∙◌, sym, subst, refl, ◌≡◌, ◌<◌, Some, true, nat_lt}
use Rattle.esm_hlock.specs.Makers.{Continues, times}
use Rattle.esm_module_map.specs.Views.{view_in}
use Rattle.esm_module_map.specs.Replay.{replay, is_legal, maker_of}
use Rattle.esm_module_map.specs.Leading.{is_led}
use Rattle.esm_module_map.specs.Fitting.{are_fit}
use Rattle.esm_module_map.proofs.Replays.{lt_true}
use Rattle.esm_module_map.specs.Hearing.{HearsPosts}
use Rattle.esm_module_map.proofs.Calls.{in_found, continues_as, own_after, numbers_kept}
use Rattle.esm_module_map.proofs.Says.{same_says}
use Rattle.esm_module_map.proofs.caller.ModuleMap.hear.Goals as goal

pub invariant_of-caller-clause-own : goal.invariant_of-caller-clause-own
invariant_of-caller-clause-own g c =
    let caller = c.args.caller.now in let n = caller.number in let W = g.P.Payload.weight in let old = c.state.result.now in
    let v = ap view_in (sym c.take.ensures.value ∙ c.in-Some.is) in
    let q = continues_as W old.events.items c.in-Some.pass.seat.me.0 (view_in caller.pass) n v caller.listed (subst (λ s. Continues maker_of s.events.items c.in-Some.pass.seat.me.0.seen c.in-Some.pass.seat.me.0.numbers) (sym c.state.ensures.now) c.enter-held.ensures.seen) in
    c.leave.ensures.number ∙ own_after maker_of _ n _ (c.enter-held.ensures.numbers.0 ∙ ap (λ w. w.number) (sym v) ∙ caller.own)

pub invariant_of-caller-clause-listed : goal.invariant_of-caller-clause-listed
invariant_of-caller-clause-listed g c =
    let caller = c.args.caller.now in let n = caller.number in let W = g.P.Payload.weight in let old = c.state.result.now in
    let v = ap view_in (sym c.take.ensures.value ∙ c.in-Some.is) in
    let q = continues_as W old.events.items c.in-Some.pass.seat.me.0 (view_in caller.pass) n v caller.listed (subst (λ s. Continues maker_of s.events.items c.in-Some.pass.seat.me.0.seen c.in-Some.pass.seat.me.0.numbers) (sym c.state.ensures.now) c.enter-held.ensures.seen) in
    subst (λ l. 0 < times n l) (sym (c.leave.ensures.numbers ∙ numbers_kept maker_of _ n _ _ (c.enter-held.ensures.numbers.0 ∙ ap (λ w. w.number) (sym v) ∙ caller.own) ∙ c.enter-held.ensures.numbers.1 ∙ ap (λ w. w.numbers) (sym v))) caller.listed

pub invariant_of-caller-clause-legal : goal.invariant_of-caller-clause-legal
invariant_of-caller-clause-legal g c = subst (λ l. is_legal g.P.Payload.weight l ≡ true) (sym c.leave.ensures.seen) c.state.result.now.legal

pub invariant_of-caller-clause-enrolled : goal.invariant_of-caller-clause-enrolled
invariant_of-caller-clause-enrolled g c =
    let caller = c.args.caller.now in let n = caller.number in let W = g.P.Payload.weight in let old = c.state.result.now in
    let v = ap view_in (sym c.take.ensures.value ∙ c.in-Some.is) in
    let q = continues_as W old.events.items c.in-Some.pass.seat.me.0 (view_in caller.pass) n v caller.listed (subst (λ s. Continues maker_of s.events.items c.in-Some.pass.seat.me.0.seen c.in-Some.pass.seat.me.0.numbers) (sym c.state.ensures.now) c.enter-held.ensures.seen) in
    let h = in_found W (view_in caller.pass).seen old.events.items (Some n) n q caller.enrolled in let e1 : old.callers ≡ (replay W old.events.items).callers = ap (λ r. r.callers) old.replayed in let e3 : c.state.result.now.callers ≡ (replay W c.state.result.now.events.items).callers = ap (λ r. r.callers) c.state.result.now.replayed in
    subst (λ l. nat_lt n (replay W l).callers ≡ true) (sym c.leave.ensures.seen) (lt_true n (replay W c.state.result.now.events.items).callers (omega arith))

pub invariant_of-caller-clause-led : goal.invariant_of-caller-clause-led
invariant_of-caller-clause-led g c = subst (λ l. is_led g.P.Payload.leads l ≡ true) (sym c.leave.ensures.seen) c.state.result.now.led

pub invariant_of-caller-clause-fit : goal.invariant_of-caller-clause-fit
invariant_of-caller-clause-fit g c = subst (λ l. are_fit g.P.Payload.weight g.P.Payload.fits l ≡ true) (sym c.leave.ensures.seen) c.state.result.now.fit

pub returns-clause-call : goal.returns-clause-call
returns-clause-call g c =
    let caller = c.args.caller.now in let n = caller.number in let W = g.P.Payload.weight in let old = c.state.result.now in
    let v = ap view_in (sym c.take.ensures.value ∙ c.in-Some.is) in
    let q = continues_as W old.events.items c.in-Some.pass.seat.me.0 (view_in caller.pass) n v caller.listed (subst (λ s. Continues maker_of s.events.items c.in-Some.pass.seat.me.0.seen c.in-Some.pass.seat.me.0.numbers) (sym c.state.ensures.now) c.enter-held.ensures.seen) in
    (old.events.items, (old.legal, q), subst (λ l. l ≡ old.events.items) (sym c.leave.ensures.seen) refl)

pub returns-clause-says : goal.returns-clause-says
returns-clause-says g c =
    let caller = c.args.caller.now in let n = caller.number in let W = g.P.Payload.weight in let old = c.state.result.now in
    let v = ap view_in (sym c.take.ensures.value ∙ c.in-Some.is) in
    let q = continues_as W old.events.items c.in-Some.pass.seat.me.0 (view_in caller.pass) n v caller.listed (subst (λ s. Continues maker_of s.events.items c.in-Some.pass.seat.me.0.seen c.in-Some.pass.seat.me.0.numbers) (sym c.state.ensures.now) c.enter-held.ensures.seen) in
    same_says W n (view_in caller.pass).seen c.leave.result.seat.me.0.seen (old.events.items, (old.legal, q), subst (λ l. l ≡ old.events.items) (sym c.leave.ensures.seen) refl)

pub returns-clause-heard : goal.returns-clause-heard
returns-clause-heard g c = subst (λ h. HearsPosts g.P.Payload.weight h c.args.known.now c.args.heard.now.items c.hear-reply.new.known c.hear-reply.new.heard.items) (sym c.leave.ensures.seen) c.hear-reply.ensures.heard
