use Rattle.std.proofs.Common.{ap, ◌∙◌, sym, subst, ◌≡◌, ◌<◌, true, Some}
use Rattle.esm_module_map.specs.Views.{view_in}
use Rattle.esm_module_map.specs.Replay.{replay, is_legal, maker_of}
use Rattle.esm_module_map.proofs.Calls.{continues_as, in_found, longer_legal, listed_left}
use Rattle.esm_module_map.proofs.Replays.{lt_true}
use Rattle.esm_module_map.proofs.Says.{listed_says}
use Rattle.esm_module_map.proofs.Tally.{taken_once_by}
use Rattle.esm_hlock.specs.Words.{knows}
use Rattle.esm_hlock.specs.Makers.{Continues, times}
use Rattle.esm_module_map.proofs.caller.ModuleMap.meet.Goals as goal
use Rattle.esm_module_map.specs.Leading.{is_led}
use Rattle.esm_module_map.specs.Fitting.{are_fit}
use Rattle.esm_module_map.proofs.Led.{longer_led}
use Rattle.esm_module_map.proofs.Fits.{longer_fit}

pub returns-clause-one : goal.returns-clause-one
returns-clause-one g c = subst (λ w. Continues maker_of c.join.result.seat.me.0.seen w.seen w.numbers) (sym (ap view_in c.in-Some-Some.is-0)) c.join.ensures.one

pub returns-clause-other : goal.returns-clause-other
returns-clause-other g c = subst (λ w. Continues maker_of c.join.result.seat.me.0.seen w.seen w.numbers) (sym (ap view_in c.in-Some-Some.is-1)) c.join.ensures.other

pub invariant_of-result-clause-listed : goal.invariant_of-result-clause-listed
invariant_of-result-clause-listed g c = subst (λ l. 0 < times c.args.one.number l) (sym c.join.ensures.numbers.1) (listed_left c.args.one.number _ _ (subst (λ w. 0 < times c.args.one.number w.numbers) (ap view_in c.in-Some-Some.is-0) c.args.one.listed))

pub invariant_of-result-clause-own : goal.invariant_of-result-clause-own
invariant_of-result-clause-own g c = c.join.ensures.numbers.0 ∙ ap (λ w. w.number) (sym (ap view_in c.in-Some-Some.is-0)) ∙ c.args.one.own

pub invariant_of-result-clause-legal : goal.invariant_of-result-clause-legal
invariant_of-result-clause-legal g c = subst (λ l. is_legal g.P.Payload.weight l ≡ true) (sym c.join.ensures.seen)
    (longer_legal g.P.Payload.weight (knows c.in-Some-Some.pass).seen (knows c.in-Some-Some.second).seen (subst (λ w. is_legal g.P.Payload.weight w.seen ≡ true) (ap view_in c.in-Some-Some.is-0) c.args.one.legal) (subst (λ w. is_legal g.P.Payload.weight w.seen ≡ true) (ap view_in c.in-Some-Some.is-1) c.args.other.legal))

pub invariant_of-result-clause-enrolled : goal.invariant_of-result-clause-enrolled
invariant_of-result-clause-enrolled g c = let v = ap view_in c.in-Some-Some.is-0 in let q = continues_as g.P.Payload.weight c.join.result.seat.me.0.seen _ (view_in c.args.one.pass) c.args.one.number v c.args.one.listed c.join.ensures.one in
    lt_true c.args.one.number (replay g.P.Payload.weight c.join.result.seat.me.0.seen).callers (in_found g.P.Payload.weight (view_in c.args.one.pass).seen c.join.result.seat.me.0.seen (Some c.args.one.number) c.args.one.number q c.args.one.enrolled)

pub returns-clause-once : goal.returns-clause-once
returns-clause-once g c = λ shares. taken_once_by g.P.Payload.weight c.join.result.seat.me.0.numbers c.join.result.seat.me.0.seen (c.join.ensures.makers shares)
    (subst (λ l. is_legal g.P.Payload.weight l ≡ true) (sym c.join.ensures.seen)
    (longer_legal g.P.Payload.weight (knows c.in-Some-Some.pass).seen (knows c.in-Some-Some.second).seen (subst (λ w. is_legal g.P.Payload.weight w.seen ≡ true) (ap view_in c.in-Some-Some.is-0) c.args.one.legal) (subst (λ w. is_legal g.P.Payload.weight w.seen ≡ true) (ap view_in c.in-Some-Some.is-1) c.args.other.legal)))

pub returns-clause-says_one : goal.returns-clause-says_one
returns-clause-says_one g c = listed_says g.P.Payload.weight (view_in c.args.one.pass).numbers (view_in c.args.one.pass).seen c.join.result.seat.me.0.seen (subst (λ w. Continues maker_of c.join.result.seat.me.0.seen w.seen w.numbers) (sym (ap view_in c.in-Some-Some.is-0)) c.join.ensures.one)

pub returns-clause-says_other : goal.returns-clause-says_other
returns-clause-says_other g c = listed_says g.P.Payload.weight (view_in c.args.other.pass).numbers (view_in c.args.other.pass).seen c.join.result.seat.me.0.seen (subst (λ w. Continues maker_of c.join.result.seat.me.0.seen w.seen w.numbers) (sym (ap view_in c.in-Some-Some.is-1)) c.join.ensures.other)

pub invariant_of-result-clause-led : goal.invariant_of-result-clause-led
invariant_of-result-clause-led g c = subst (λ l. is_led g.P.Payload.leads l ≡ true) (sym c.join.ensures.seen)
    (longer_led g.P.Payload.leads (knows c.in-Some-Some.pass).seen (knows c.in-Some-Some.second).seen (subst (λ w. is_led g.P.Payload.leads w.seen ≡ true) (ap view_in c.in-Some-Some.is-0) c.args.one.led) (subst (λ w. is_led g.P.Payload.leads w.seen ≡ true) (ap view_in c.in-Some-Some.is-1) c.args.other.led))

pub invariant_of-result-clause-fit : goal.invariant_of-result-clause-fit
invariant_of-result-clause-fit g c = subst (λ l. are_fit g.P.Payload.weight g.P.Payload.fits l ≡ true) (sym c.join.ensures.seen)
    (longer_fit g.P.Payload.weight g.P.Payload.fits (knows c.in-Some-Some.pass).seen (knows c.in-Some-Some.second).seen (subst (λ w. are_fit g.P.Payload.weight g.P.Payload.fits w.seen ≡ true) (ap view_in c.in-Some-Some.is-0) c.args.one.fit) (subst (λ w. are_fit g.P.Payload.weight g.P.Payload.fits w.seen ≡ true) (ap view_in c.in-Some-Some.is-1) c.args.other.fit))
