use Rattle.std.proofs.Common.{arith, ap, ◌∙◌, sym, subst, ◌≡◌, ◌<◌, ◌++◌, Some, true, nat_lt, vec_len}
use Rattle.esm_hlock.specs.Makers.{Continues, times}
use Rattle.esm_module_map.specs.Views.{view_in}
use Rattle.esm_module_map.specs.Replay.{replay, is_legal, maker_of}
use Rattle.esm_module_map.specs.Leading.{is_led}
use Rattle.esm_module_map.specs.Fitting.{are_fit}
use Rattle.esm_module_map.specs.Batches.{TakesUpTo, posts_of}
use Rattle.esm_module_map.proofs.Replays.{lt_true, lt_from}
use Rattle.esm_module_map.proofs.Calls.{in_found, continues_as}
use Rattle.esm_module_map.proofs.Posting.{filled_found}
use Rattle.esm_module_map.proofs.Batches.{batch_grown, batch_says, batch_shut}
use Rattle.esm_module_map.proofs.Turns.{grown_steps}
use Rattle.esm_module_map.proofs.caller.ModuleMap.post_and_take_all.Goals as goal

pub invariant_of-caller-clause-own : goal.invariant_of-caller-clause-own
invariant_of-caller-clause-own g c =
    let caller = c.args.caller.now in let n = caller.number in let W = g.P.Payload.weight in let old = c.state.result.now in
    let v = ap view_in (sym c.take.ensures.value ∙ c.in-Some.is) in
    let q = continues_as W old.events.items c.in-Some.pass.seat.me.0 (view_in caller.pass) n v caller.listed (subst (λ s. Continues maker_of s.events.items c.in-Some.pass.seat.me.0.seen c.in-Some.pass.seat.me.0.numbers) (sym c.state.ensures.now) c.enter-held.ensures.seen) in
    c.leave_with_several.ensures.number ∙ (c.enter-held.ensures.numbers.0 ∙ ap (λ w. w.number) (sym v) ∙ caller.own)

pub invariant_of-caller-clause-listed : goal.invariant_of-caller-clause-listed
invariant_of-caller-clause-listed g c =
    let caller = c.args.caller.now in let n = caller.number in let W = g.P.Payload.weight in let old = c.state.result.now in
    let v = ap view_in (sym c.take.ensures.value ∙ c.in-Some.is) in
    let q = continues_as W old.events.items c.in-Some.pass.seat.me.0 (view_in caller.pass) n v caller.listed (subst (λ s. Continues maker_of s.events.items c.in-Some.pass.seat.me.0.seen c.in-Some.pass.seat.me.0.numbers) (sym c.state.ensures.now) c.enter-held.ensures.seen) in
    subst (λ l. 0 < times n l) (sym (c.leave_with_several.ensures.numbers ∙ c.enter-held.ensures.numbers.1 ∙ ap (λ w. w.numbers) (sym v))) caller.listed

pub invariant_of-caller-clause-legal : goal.invariant_of-caller-clause-legal
invariant_of-caller-clause-legal g c = subst (λ l. is_legal g.P.Payload.weight l ≡ true) (sym c.leave_with_several.ensures.seen) c.post_and_take_all-reply.new.self.legal

pub invariant_of-caller-clause-enrolled : goal.invariant_of-caller-clause-enrolled
invariant_of-caller-clause-enrolled g c =
    let caller = c.args.caller.now in let n = caller.number in let W = g.P.Payload.weight in let old = c.state.result.now in
    let v = ap view_in (sym c.take.ensures.value ∙ c.in-Some.is) in
    let q = continues_as W old.events.items c.in-Some.pass.seat.me.0 (view_in caller.pass) n v caller.listed (subst (λ s. Continues maker_of s.events.items c.in-Some.pass.seat.me.0.seen c.in-Some.pass.seat.me.0.numbers) (sym c.state.ensures.now) c.enter-held.ensures.seen) in
    let h = in_found W (view_in caller.pass).seen old.events.items (Some n) n q caller.enrolled in let e1 : old.callers ≡ (replay W old.events.items).callers = ap (λ r. r.callers) old.replayed in let e2 = c.post_and_take_all-reply.ensures.callers in let e3 : c.post_and_take_all-reply.new.self.callers ≡ (replay W c.post_and_take_all-reply.new.self.events.items).callers = ap (λ r. r.callers) c.post_and_take_all-reply.new.self.replayed in
    subst (λ l. nat_lt n (replay W l).callers ≡ true) (sym c.leave_with_several.ensures.seen) (lt_true n (replay W c.post_and_take_all-reply.new.self.events.items).callers (omega arith))

pub invariant_of-caller-clause-led : goal.invariant_of-caller-clause-led
invariant_of-caller-clause-led g c = subst (λ l. is_led g.P.Payload.leads l ≡ true) (sym c.leave_with_several.ensures.seen) c.post_and_take_all-reply.new.self.led

pub invariant_of-caller-clause-fit : goal.invariant_of-caller-clause-fit
invariant_of-caller-clause-fit g c = subst (λ l. are_fit g.P.Payload.weight g.P.Payload.fits l ≡ true) (sym c.leave_with_several.ensures.seen) c.post_and_take_all-reply.new.self.fit

pub post_and_take_all-reply-requires-clause-is_in : goal.post_and_take_all-reply-requires-clause-is_in
post_and_take_all-reply-requires-clause-is_in g c =
    let caller = c.args.caller.now in let n = caller.number in let W = g.P.Payload.weight in let old = c.state.result.now in
    let v = ap view_in (sym c.take.ensures.value ∙ c.in-Some.is) in
    let q = continues_as W old.events.items c.in-Some.pass.seat.me.0 (view_in caller.pass) n v caller.listed (subst (λ s. Continues maker_of s.events.items c.in-Some.pass.seat.me.0.seen c.in-Some.pass.seat.me.0.numbers) (sym c.state.ensures.now) c.enter-held.ensures.seen) in
    in_found W (view_in caller.pass).seen old.events.items (Some n) n q caller.enrolled

pub post_and_take_all-reply-requires-clause-filled : goal.post_and_take_all-reply-requires-clause-filled
post_and_take_all-reply-requires-clause-filled g c =
    let caller = c.args.caller.now in let n = caller.number in let W = g.P.Payload.weight in let old = c.state.result.now in
    let v = ap view_in (sym c.take.ensures.value ∙ c.in-Some.is) in
    let q = continues_as W old.events.items c.in-Some.pass.seat.me.0 (view_in caller.pass) n v caller.listed (subst (λ s. Continues maker_of s.events.items c.in-Some.pass.seat.me.0.seen c.in-Some.pass.seat.me.0.numbers) (sym c.state.ensures.now) c.enter-held.ensures.seen) in
    filled_found W g.P.Payload.fits n (view_in caller.pass).seen old.events.items c.args.filled.items caller.legal (lt_from n (replay W (view_in caller.pass).seen).callers caller.enrolled) old.legal q c.requires.filled

pub leave_with_several-requires-clause-steps : goal.leave_with_several-requires-clause-steps
leave_with_several-requires-clause-steps g c =
    let caller = c.args.caller.now in let n = caller.number in let W = g.P.Payload.weight in let old = c.state.result.now in
    let v = ap view_in (sym c.take.ensures.value ∙ c.in-Some.is) in
    grown_steps n c.enter-held.result.seat.me.0.number c.enter-held.result.seat.me.0.seen old.events.items c.post_and_take_all-reply.new.self.events.items (c.enter-held.ensures.numbers.0 ∙ ap (λ w. w.number) (sym v) ∙ caller.own) (ap (λ s. s.events.items) c.state.ensures.now ∙ sym c.enter-held.ensures.found)
    (batch_grown W n old.events.items c.args.filled.items (vec_len c.args.rooms.now) c.post_and_take_all-reply.new.orders.items c.post_and_take_all-reply.result c.post_and_take_all-reply.new.self.events.items c.post_and_take_all-reply.ensures.reply)

pub returns-clause-call : goal.returns-clause-call
returns-clause-call g c =
    let caller = c.args.caller.now in let n = caller.number in let W = g.P.Payload.weight in let old = c.state.result.now in
    let v = ap view_in (sym c.take.ensures.value ∙ c.in-Some.is) in
    let q = continues_as W old.events.items c.in-Some.pass.seat.me.0 (view_in caller.pass) n v caller.listed (subst (λ s. Continues maker_of s.events.items c.in-Some.pass.seat.me.0.seen c.in-Some.pass.seat.me.0.numbers) (sym c.state.ensures.now) c.enter-held.ensures.seen) in
    (old.events.items, (old.legal, q), subst (λ l. TakesUpTo W n (old.events.items ++ posts_of n c.args.filled.items) (vec_len c.args.rooms.now) c.post_and_take_all-reply.new.orders.items c.post_and_take_all-reply.result l) (sym c.leave_with_several.ensures.seen) c.post_and_take_all-reply.ensures.reply)

pub returns-clause-says : goal.returns-clause-says
returns-clause-says g c =
    let caller = c.args.caller.now in let n = caller.number in let W = g.P.Payload.weight in let old = c.state.result.now in
    let v = ap view_in (sym c.take.ensures.value ∙ c.in-Some.is) in
    let q = continues_as W old.events.items c.in-Some.pass.seat.me.0 (view_in caller.pass) n v caller.listed (subst (λ s. Continues maker_of s.events.items c.in-Some.pass.seat.me.0.seen c.in-Some.pass.seat.me.0.numbers) (sym c.state.ensures.now) c.enter-held.ensures.seen) in
    batch_says W g.P.Payload.fits n (view_in caller.pass).seen old.events.items c.args.filled.items (vec_len c.args.rooms.now) c.post_and_take_all-reply.new.orders.items c.post_and_take_all-reply.result c.leave_with_several.result.seat.me.0.seen
    (subst (λ l. is_legal W l ≡ true) (sym c.leave_with_several.ensures.seen) c.post_and_take_all-reply.new.self.legal) q c.requires.filled
    (subst (λ l. TakesUpTo W n (old.events.items ++ posts_of n c.args.filled.items) (vec_len c.args.rooms.now) c.post_and_take_all-reply.new.orders.items c.post_and_take_all-reply.result l) (sym c.leave_with_several.ensures.seen) c.post_and_take_all-reply.ensures.reply)

pub returns-clause-shut : goal.returns-clause-shut
returns-clause-shut g c =
    let caller = c.args.caller.now in let n = caller.number in let W = g.P.Payload.weight in let old = c.state.result.now in
    batch_shut W n (old.events.items ++ posts_of n c.args.filled.items) (vec_len c.args.rooms.now) c.post_and_take_all-reply.new.orders.items c.post_and_take_all-reply.result c.leave_with_several.result.seat.me.0.seen
    (subst (λ l. TakesUpTo W n (old.events.items ++ posts_of n c.args.filled.items) (vec_len c.args.rooms.now) c.post_and_take_all-reply.new.orders.items c.post_and_take_all-reply.result l) (sym c.leave_with_several.ensures.seen) c.post_and_take_all-reply.ensures.reply)
