-- Each job leaves less: of steps, or else of reactions and of what stands at an await.
use Rattle.std.proofs.Common.{◌≡◌, ℕ, ◌+◌, ◌-◌, ◌<◌, ◌≤◌, Bool, true, false, List, [], ◌∷◌, ◌++◌, Option, Some, None, refl, ap, subst, sym, ◌∙◌, arith}
use Rattle.std.specs.Prelude.{Result, Ok, Err, nat_lt, length}
use Rattle.esm_base.specs.declared.limits.Limit.{Limit}
use Rattle.esm_base.specs.declared.limits.Limit.TheVariants.{L3}
use Rattle.esm_base.specs.declared.limits.TheConstants.{MAX_STEPS, MAX_LOG_BYTES}
use Rattle.esm_base.specs.Urls.{Url, same_url}
use Rattle.esm_values.specs.Value.{Value, Undefined, Truth, Text, Func, Error, Namespace, Promise}
use Rattle.esm_values.specs.Ran.{Ran}
use Rattle.esm_expr_eval.specs.Sizes.{size}
use Rattle.esm_promise.specs.Promises.{Settled, Fulfilled, Rejected, Job, settle, make_fulfilled, next_promise, next_job}
use Rattle.esm_promise.specs.Reactions.{Reaction, Await, EntryDone, Evaluated}
use Rattle.esm_env.specs.Declarations.{body_of}
use Rattle.esm_loads.specs.Loading.{Loading, body}
use Rattle.esm_loads.specs.ImportCall.{BeginsImport}
use Rattle.esm_eval.specs.Nodes.{Call, CallAnswer, Start, Run, module_of}
use Rattle.esm_eval.specs.BodyEnd.{Fulfills}
use Rattle.esm_rewriting.specs.Acts.{modules_of}
use Rattle.esm_rewriting.specs.Rest.{fill_rest}
use Rattle.esm_rewriting.specs.State.{State, AnswerWith, Event, Begins, Ends, Throws, note, note_by, line_by, add_line, event_behind, event_line}
use Rattle.esm_rewriting.specs.Segment.{Ended, Normal, Thrown, Awaiting, Stopped}
use Rattle.esm_rewriting.specs.Bodies.{StartsBody, RunsBody, ResumesBody, segment_end, settle_done, body_end, ran_by, await_on, without_standing, given_by, url_in, whole_body}
use Rattle.esm_world.specs.World.{World, modules_in, body_state, with_state, stopped}
use Rattle.esm_world.specs.Layers.{CallsForBody, evaluation, with_linked, with_promises}
use Rattle.esm_world.specs.Jobs.{EvaluatesLoad, Reacts, when_evaluated}
use Rattle.esm_world.specs.Jobs.Reacts.{entry_linked, entry_fault, entry_refused, entry_ended, entry_threw, linked, fault, refused, evaluated, threw, body_ended, body_threw, resumes}
use Rattle.esm_world.specs.Measure.{JobsLower, Queue, left, queue, standing_weight, weight_of, weight_rest}
use Rattle.esm_world.proofs.BodyFalls.{Counted, Waiting, counted, waiting, same_weight, CalmState, FallsEnd, segment_falls}
use Rattle.esm_world.proofs.StepsWithin.{Within, within_same, segment_within}
use Rattle.esm_world.proofs.StartsRise.{HasFirst, entries_first, Risen, whole_rises}
use Rattle.esm_world.proofs.EvalFalls.{LastsLive, evaluates_live, fulfills_live, rejects_live}
use Rattle.esm_world.proofs.EvalStops.{evaluates_stop, fulfills_stop}
use Rattle.esm_world.proofs.BodyStops.{resumes_body_stop}
use Rattle.esm_world.proofs.StartsOnce.{IsOk, ok_unit, ok_some, IsStopped, IsStoppedState, stops_call, stops_state, none_stopped}
use Rattle.esm_world.proofs.Counting.{settle_queue, register_queue, make_queue, fulfilled_queue, next_queue, standing_on, taken_is}
use Rattle.esm_world.proofs.TurnsEnd.{Lower}

abbrev S : Type 0
S = State Url Loading

abbrev Told : Type 0 → Type 0
Told A = AnswerWith A S

abbrev told : {A : Type 0} → Told A → Counted Url
told t = counted t.1

-- the reactions that are still to run, and what remains of the bodies at an await
abbrev of_waiting : Waiting Url → ℕ
of_waiting p = queue p.0 + standing_weight p.1

abbrev rest_of : S → ℕ
rest_of s = of_waiting (waiting s)

abbrev Calm : S → S → Type 0
Calm = CalmState same_url modules_in BeginsImport

abbrev Falls : ℕ → S → Ended Url → S → Type 0
Falls = FallsEnd same_url modules_in BeginsImport

err_ok : {A : Type 0} {limit : Limit} {a : A} → ◌≡◌ {A = Result A Limit} (Err limit) (Ok a) → ⊥
err_ok e = cc

lt_is : (a b : ℕ) → nat_lt a b ≡ true → a < b
lt_is a b e = grind (arith, e)

as_much : (a b : ℕ) → nat_lt a b ≡ false → a ≤ b → b ≡ a
as_much a b e l = grind (arith, e, l)

room : (m a b : ℕ) → a < b → b ≤ m → m - b < m - a
room m a b p q = omega (arith, p, q)

room_left : (m a b : ℕ) → a ≤ b → m - b ≤ m - a
room_left m a b p = omega (arith, p)

-- ---- starts and ends of bodies

by_line : (w : S) (text : List ℕ) (b : Bool) → told (line_by b w text) ≡ counted w
by_line w text true = refl
by_line w text false = refl

behind : (event : Event Url) (r : Result (Unit {0}) Limit) (w : S) → told (event_behind event (r, w)) ≡ counted w
behind event (Ok done) w = refl
behind event (Err limit) w = refl

by_note : (url : Url → List ℕ) (w : S) (event : Event Url) (b : Bool) → told (note_by b url w event) ≡ counted w
by_note url w event true =
    let t = add_line w (event_line url event) in
    behind event t.0 t.1 ∙ by_line w (event_line url event) (nat_lt MAX_LOG_BYTES (length w.engine.log + length (event_line url event) + 1))
by_note url w event false = refl

noted : (url : Url → List ℕ) (w : S) (event : Event Url) → told (note url w event) ≡ counted w
noted url w event = by_note url w event w.engine.trace

calm_noted : (v late u : S) → Calm v late → counted u ≡ counted late → Calm v u
calm_noted v late u c e = record {
  grows = let g = c.grows in let f = ap (λ t. t.0) e in omega (arith, g, f);
  quiet = λ h. ap (λ t. t.1) e ∙ c.quiet (sym (ap (λ t. t.0) e) ∙ h);
}

-- a segment has ended without a stop, of what had this weight
record Goes (s : ℕ) (v after : S) : Type 0 where
  grows : v.engine.steps ≤ after.engine.steps
  quiet : after.engine.steps ≡ v.engine.steps → rest_of after ≤ rest_of v + s

settled : (p : ℕ) (how : Settled (Value Url)) (r : Result (Unit {0}) Limit) (u : S) (s : ℕ) (v after : S) → Calm v u → settle_done p how (r, u) ≡ (Ok tt, after) → Goes s v after
settled p how (Ok done) u s v after c e =
    let d : u.engine.steps ≡ after.engine.steps = ap (λ t. t.1.engine.steps) e in
    let q = settle_queue u.outer.promises p how in
    let l : queue (settle u.outer.promises p how) + standing_weight u.engine.standing ≡ rest_of after = ap (λ t. rest_of t.1) e in
    record {
      grows = let g = c.grows in omega (arith, g, d);
      quiet = λ h. let w = ap of_waiting (c.quiet (d ∙ h)) in omega (arith, q, l, w);
    }
settled p how (Err why) u s v after c e = absurd (err_ok (ap (λ t. t.0) e))

await_queue : (ps : Queue) (v : Value Url) (m : Url) → queue (await_on ps v m) ≤ queue ps + 1
await_queue ps (Promise p) m = register_queue ps p (Await m)
await_queue ps Undefined m = let r = register_queue (make_fulfilled ps Undefined) (next_promise ps) (Await m) in let f = fulfilled_queue ps Undefined in omega (arith, r, f)
await_queue ps (Truth b) m = let r = register_queue (make_fulfilled ps (Truth b)) (next_promise ps) (Await m) in let f = fulfilled_queue ps (Truth b) in omega (arith, r, f)
await_queue ps (Text t) m = let r = register_queue (make_fulfilled ps (Text t)) (next_promise ps) (Await m) in let f = fulfilled_queue ps (Text t) in omega (arith, r, f)
await_queue ps (Func n i) m = let r = register_queue (make_fulfilled ps (Func n i)) (next_promise ps) (Await m) in let f = fulfilled_queue ps (Func n i) in omega (arith, r, f)
await_queue ps (Error i) m = let r = register_queue (make_fulfilled ps (Error i)) (next_promise ps) (Await m) in let f = fulfilled_queue ps (Error i) in omega (arith, r, f)
await_queue ps (Namespace n) m = let r = register_queue (make_fulfilled ps (Namespace n)) (next_promise ps) (Await m) in let f = fulfilled_queue ps (Namespace n) in omega (arith, r, f)

end_goes : (url : Url → List ℕ) (m : Url) (done : ℕ) (s : ℕ) (v late : S) (how : Ended Url) (after : S) → Falls s v how late → segment_end url m done how late ≡ (Ok tt, after) → Goes s v after
end_goes url m done s v late Normal after c e =
    let t = note url late (Ends m) in
    settled done (Fulfilled Undefined) t.0 t.1 s v after (calm_noted v late t.1 c (noted url late (Ends m))) e
end_goes url m done s v late (Thrown u) after c e =
    let t = note url late (Throws m) in
    settled done (Rejected u) t.0 t.1 s v after (calm_noted v late t.1 c (noted url late (Throws m))) e
end_goes url m done s v late (Awaiting u rest) after c e =
    let d : late.engine.steps ≡ after.engine.steps = ap (λ t. t.1.engine.steps) e in
    let l : queue (await_on late.outer.promises u m) + standing_weight (late.engine.standing ++ record { at = m; done = done; rest = rest } ∷ []) ≡ rest_of after = ap (λ t. rest_of t.1) e in
    let a = await_queue late.outer.promises u m in
    let o = standing_on late.engine.standing (record { at = m; done = done; rest = rest } ∷ []) in
    record {
      grows = let g = c.0.grows in omega (arith, g, d);
      quiet = λ h. let w = ap of_waiting (c.0.quiet (d ∙ h)) in let k = c.1 (d ∙ h) in omega (arith, l, a, o, w, k);
    }
end_goes url m done s v late (Stopped why) after c e = absurd (err_ok (ap (λ t. t.0) e))

done_steps : (p : ℕ) (how : Settled (Value Url)) (r : Result (Unit {0}) Limit) (w : S) → (settle_done p how (r, w)).1.engine.steps ≡ w.engine.steps
done_steps p how (Ok done) w = refl
done_steps p how (Err why) w = refl

end_steps : (url : Url → List ℕ) (m : Url) (p : ℕ) (how : Ended Url) (w : S) → (segment_end url m p how w).1.engine.steps ≡ w.engine.steps
end_steps url m p Normal w = let t = note url w (Ends m) in done_steps p (Fulfilled Undefined) t.0 t.1 ∙ ap (λ t. t.0) (noted url w (Ends m))
end_steps url m p (Thrown v) w = let t = note url w (Throws m) in done_steps p (Rejected v) t.0 t.1 ∙ ap (λ t. t.0) (noted url w (Throws m))
end_steps url m p (Awaiting v rest) w = refl
end_steps url m p (Stopped why) w = refl

-- ---- calls for bodies

within_to : {k l m n : ℕ} → l ≡ k → n ≡ m → Within l m → Within k n
within_to {k} {l} {m} {n} e f p = λ h. subst (λ n. n ≤ MAX_STEPS) (sym f) (p (subst (λ k. k ≤ MAX_STEPS) (sym e) h))

note_counted : (url : Url → List ℕ) (w : S) (event : Event Url) (r : Result (Unit {0}) Limit) (mid : S) → note url w event ≡ (r, mid) → counted mid ≡ counted w
note_counted url w event r mid h = sym (ap (λ t. told t) h) ∙ noted url w event

-- a body that awaits takes a step where it begins
record Starts (v w : S) : Type 0 where
  rises : v.engine.steps < w.engine.steps
  within : Within v.engine.steps w.engine.steps

risen_ok : (url : Url → List ℕ) (m : Url) (done n : ℕ) (late w : S) (how : Ended Url) → Risen same_url modules_in BeginsImport n how late → segment_end url m done how late ≡ (Ok tt, w) → n < late.engine.steps
risen_ok url m done n late w Normal h e = h
risen_ok url m done n late w (Thrown u) h e = h
risen_ok url m done n late w (Awaiting u rest) h e = h
risen_ok url m done n late w (Stopped why) h e = absurd (err_ok (ap (λ t. t.0) e))

starts_rise : {v : S} {m : Url} {done : ℕ} {end : Result (Unit {0}) Limit} {w : S} → HasFirst (body_of ((modules_of modules_in v).tree m)) → StartsBody same_url modules_in BeginsImport v m done end w → end ≡ Ok tt → Starts v w
starts_rise first (StartsBody.stopped h) e = absurd (err_ok e)
starts_rise {v} {m = m} {done = done} {w = w} first (StartsBody.segment {mid = mid} {late = late} {how = how} h p f) e =
    let url = url_in same_url modules_in BeginsImport v in
    let n = ap (λ t. t.0) (note_counted url v (Begins m) (Ok tt) mid h) in
    let r = risen_ok url m done mid.engine.steps late w how (whole_rises same_url modules_in BeginsImport (body_of ((modules_of modules_in v).tree m)) first p) (f ∙ ap (λ r. (r, w)) e) in
    let l : w.engine.steps ≡ late.engine.steps = sym (ap (λ t. t.1.engine.steps) f) ∙ end_steps url m done how late in
    record { rises = omega (arith, r, n, l); within = within_to n l (segment_within same_url modules_in BeginsImport p) }

-- where a body that doesn't await has ended
abbrev IsRan : S → Option (Told (Ran (Value Url))) → Type 0
IsRan w None = Unit {0}
IsRan w (Some t) = told t ≡ counted w

ran_counted : (how : Ran (Value Url)) (r : Result (Unit {0}) Limit) (u w : S) → counted u ≡ counted w → IsRan w (ran_by how (r, u))
ran_counted how (Ok done) u w e = e
ran_counted how (Err why) u w e = e

body_counted : (url : Url → List ℕ) (m : Url) (how : Ended Url) (w : S) → IsRan w (body_end url m how w)
body_counted url m Normal w = let t = note url w (Ends m) in ran_counted _ t.0 t.1 w (noted url w (Ends m))
body_counted url m (Thrown v) w = let t = note url w (Throws m) in ran_counted _ t.0 t.1 w (noted url w (Throws m))
body_counted url m (Awaiting v rest) w = tt
body_counted url m (Stopped why) w = refl

ran_is : (w : S) (o : Option (Told (Ran (Value Url)))) (t : Told (Ran (Value Url))) → o ≡ Some t → IsRan w o → told t ≡ counted w
ran_is w o t e h = subst (λ o. IsRan w o) e h

some_err : {A : Type 0} {limit : Limit} {w u : S} {a : A} → ◌≡◌ {A = Option (Told A)} (Some (Err limit, w)) (Some (Ok a, u)) → ⊥
some_err {A} e = err_ok (ap (λ o. by o) e)
  where
    by : Option (Told A) → Result A Limit
    by None = Err L3
    by (Some t) = t.0

none_some : {A : Type 0} {a : A} → ◌≡◌ {A = Option A} None (Some a) → ⊥
none_some e = cc

ran_calm : (url : Url → List ℕ) (m : Url) (s : ℕ) (v late : S) (how : Ended Url) (a : Ran (Value Url)) (after : S) → Falls s v how late → body_end url m how late ≡ Some (Ok a, after) → Calm v late
ran_calm url m s v late Normal a after c e = c
ran_calm url m s v late (Thrown u) a after c e = c
ran_calm url m s v late (Awaiting u rest) a after c e = absurd (none_some e)
ran_calm url m s v late (Stopped why) a after c e = absurd (some_err e)

record Runs (v w : S) : Type 0 where
  calm : Calm v w
  within : Within v.engine.steps w.engine.steps

calm_from : (v mid w : S) → counted mid ≡ counted v → Calm mid w → Calm v w
calm_from v mid w e c = record {
  grows = let g = c.grows in let f = ap (λ t. t.0) e in omega (arith, g, f);
  quiet = λ h. c.quiet (h ∙ sym (ap (λ t. t.0) e)) ∙ ap (λ t. t.1) e;
}

runs_calm : {v : S} {m : Url} {end : Result (Ran (Value Url)) Limit} {w : S} → RunsBody same_url modules_in BeginsImport v m end w → (a : Ran (Value Url)) → end ≡ Ok a → Runs v w
runs_calm (RunsBody.stopped h) a e = absurd (err_ok e)
runs_calm {v} {m = m} {w = w} (RunsBody.segment {mid = mid} {late = late} {how = how} {end = end} h p f) a e =
    let url = url_in same_url modules_in BeginsImport v in
    let n = note_counted url v (Begins m) (Ok tt) mid h in
    let g = ran_calm url m (weight_rest (whole_body same_url modules_in BeginsImport v m) + 0) mid late how a w (segment_falls same_url modules_in BeginsImport p) (f ∙ ap (λ r. Some (r, w)) e) in
    let l = ran_is late (body_end url m how late) (end, w) f (body_counted url m how late) in
    record {
      calm = calm_noted v late w (calm_from v mid late n g) l;
      within = within_to (ap (λ t. t.0) n) (ap (λ t. t.0) l) (segment_within same_url modules_in BeginsImport p);
    }

-- ---- evaluation

pub record CalmWorld (v w : World) : Type 0 where
  pub steps : v.engine.steps ≤ w.engine.steps
  pub within : Within v.engine.steps w.engine.steps
  pub quiet : w.engine.steps ≡ v.engine.steps → left w ≤ left v

calm_on : {u v w : World} → CalmWorld u v → CalmWorld v w → CalmWorld u w
calm_on p q = record {
  steps = let a = p.steps in let b = q.steps in omega (arith, a, b);
  within = λ h. q.within (p.within h);
  quiet = λ e.
      let a = p.steps in let b = q.steps in
      let x = p.quiet (omega (arith, a, b, e)) in
      let y = q.quiet (omega (arith, a, b, e)) in
      omega (arith, x, y);
}

calm_same : (w : World) → CalmWorld w w
calm_same w = record { steps = omega arith; within = λ h. h; quiet = λ e. omega arith }

-- promises alone are changed
calm_promises : (w : World) (ps : Queue) → queue ps ≤ queue w.promises → CalmWorld w (with_promises w ps)
calm_promises w ps q = record { steps = omega arith; within = λ h. h; quiet = λ e. omega (arith, q) }

abbrev IsStart : Call Url → Type 0
IsStart (Start m done) = Unit {0}
IsStart (Run m) = ⊥

abbrev IsRun : Call Url → Type 0
IsRun (Start m done) = ⊥
IsRun (Run m) = Unit {0}

ran_world : (v : World) (s : S) → Runs (body_state v) s → CalmWorld v (with_state v s)
ran_world v s p = record { steps = p.calm.grows; within = p.within; quiet = λ e. let w = ap of_waiting (p.calm.quiet e) in omega (arith, w) }

begin_calm : (v : World) (m : Url) {ps : Queue} {c : Call Url} {r : Result (CallAnswer (Value Url) c) Limit} {w : World} → evaluation.awaits v m ≡ true → module_of c ≡ m → CallsForBody (with_promises v ps) c r w → IsStart c → IsOk r → CalmWorld v w
begin_calm v m {w = w} o q (CallsForBody.start {m = x} {end = end} {s = s} p) at h =
    let k = starts_rise (entries_first (body v.loading x) (ap (λ u. evaluation.awaits v u) q ∙ o)) p (ok_unit end h) in
    let l = k.rises in
    record { steps = omega (arith, l); within = k.within; quiet = λ e. absurd (omega (arith, l, e)) }
begin_calm v m o q (CallsForBody.run p) at h = absurd at

run_calm : {v w : World} {c : Call Url} {r : Result (CallAnswer (Value Url) c) Limit} → CallsForBody v c r w → IsRun c → IsOk r → CalmWorld v w
run_calm (CallsForBody.start p) at h = absurd at
run_calm {v} (CallsForBody.run {end = end} {s = s} p) at h = let k = ok_some end h in ran_world v s (runs_calm p k.0 k.1)

abbrev Keep : World → World → Type 0
Keep v w = CalmWorld v w

lasts : LastsLive evaluation CallsForBody Keep
lasts = record {
  same = λ w. calm_same w;
  on = λ p q. calm_on p q;
  put = λ w x n. record { steps = omega arith; within = λ h. h; quiet = λ e. omega arith };
  stamp = λ w x. record { steps = omega arith; within = λ h. h; quiet = λ e. omega arith };
  make = λ w. let q = make_queue w.promises [] in calm_promises w _ (omega (arith, q));
  fulfill = λ w p. calm_promises w _ (settle_queue w.promises p (Fulfilled Undefined));
  reject = λ w p v. calm_promises w _ (settle_queue w.promises p (Rejected v));
  stamp_awaits = λ w x. refl;
  start = λ {v} {w} {m} o p. begin_calm v m o refl p tt tt;
  run = λ {v} {w} {m} p. run_calm p tt tt;
}

-- ---- bodies that go on behind an await

given_one : (how : Settled (Value Url)) → size (given_by how) ≡ 1
given_one (Fulfilled v) = refl
given_one (Rejected v) = refl

record ResumesCalm (v w : S) : Type 0 where
  grows : v.engine.steps ≤ w.engine.steps
  within : Within v.engine.steps w.engine.steps
  quiet : w.engine.steps ≡ v.engine.steps → rest_of w ≤ rest_of v

resumes_calm : {v w : S} {m : Url} {how : Settled (Value Url)} {end : Result (Unit {0}) Limit} → ResumesBody same_url modules_in BeginsImport v m how end w → end ≡ Ok tt → ResumesCalm v w
resumes_calm {v} {w} {m} {how} p e =
    let rest = p.taken.standing.rest in
    let url = url_in same_url modules_in BeginsImport v in
    let from = without_standing same_url modules_in BeginsImport v p.taken.others in
    let g = end_goes url m p.taken.standing.done (weight_rest (fill_rest (given_by how) rest) + 0) from p.late p.ended w (segment_falls same_url modules_in BeginsImport p.runs) (p.ends ∙ ap (λ r. (r, w)) e) in
    let l : w.engine.steps ≡ p.late.engine.steps = sym (ap (λ t. t.1.engine.steps) p.ends) ∙ end_steps url m p.taken.standing.done p.ended p.late in
    let s = same_weight (given_by how) (given_one how) rest in
    let t = taken_is v.engine.standing m p.taken p.stands in
    record {
      grows = g.grows;
      within = within_to refl l (segment_within same_url modules_in BeginsImport p.runs);
      quiet = λ h. let q = g.quiet h in omega (arith, q, s, t);
    }

-- ---- reactions

live_not : (w : World) → IsStopped w → stopped w ≡ None → ⊥
live_not w h live = none_stopped (stopped w) h live

-- a reaction of this weight has run
pub record Less (n : ℕ) (v mid : World) : Type 0 where
  pub steps : v.engine.steps ≤ mid.engine.steps
  pub within : Within v.engine.steps mid.engine.steps
  pub quiet : mid.engine.steps ≡ v.engine.steps → left mid < left v + n

less_of : (n : ℕ) {v w : World} → 1 ≤ n → CalmWorld v w → Less n v w
less_of n one c = record { steps = c.steps; within = c.within; quiet = λ e. let q = c.quiet e in omega (arith, q, one) }

-- where promises alone are changed, and what bodies and evaluation don't write
less_promises : (n : ℕ) (v w : World) → 1 ≤ n → w.engine ≡ v.engine → queue w.promises ≤ queue v.promises → Less n v w
less_promises n v w one e q =
    let s = ap (λ e. e.steps) e in
    let l = ap (λ e. standing_weight e.standing) e in
    record {
      steps = omega (arith, s);
      within = within_same s;
      quiet = λ f. omega (arith, q, l, one);
    }

-- an evaluation, with the reaction to it
load_less : {v w : World} {s : ℕ} (a : Result ℕ Limit) → EvaluatesLoad v s a w → (r : Reaction Url) → weight_of r ≡ 1 → stopped (when_evaluated w r a) ≡ None → Less 2 v (when_evaluated w r a)
load_less {v} {w} (Ok p) e r one live =
    let q = register_queue w.promises p r in
    let c : CalmWorld (with_linked v e.linked) w = evaluates_live evaluation CallsForBody Keep lasts (with_linked v e.linked) e.root e.evaluates in
    record { steps = c.steps; within = c.within; quiet = λ f. let k = c.quiet f in omega (arith, q, k, one) }
load_less {v} {w} (Err limit) e r one live = absurd (live_not w (evaluates_stop evaluation CallsForBody IsStopped stops_call (with_linked v e.linked) e.root e.evaluates) live)

fulfills_less : {v w : World} {m : Url} (a : Result (Unit {0}) Limit) → Fulfills evaluation CallsForBody v m a w → stopped w ≡ None → Less 1 v w
fulfills_less {v} {w} (Ok tt) p live = less_of 1 (omega arith) (fulfills_live evaluation CallsForBody Keep lasts p)
fulfills_less {v} {w} (Err limit) p live = absurd (live_not w (fulfills_stop evaluation CallsForBody IsStopped stops_call p) live)

resumes_less : {v : World} {m : Url} {how : Settled (Value Url)} (end : Result (Unit {0}) Limit) {s : S} → ResumesBody same_url modules_in BeginsImport (body_state v) m how end s → stopped (with_state v s) ≡ None → Less 1 v (with_state v s)
resumes_less {v} (Ok tt) {s} p live =
    let c = resumes_calm p refl in
    record { steps = c.grows; within = c.within; quiet = λ f. let q = c.quiet f in omega (arith, q) }
resumes_less {v} (Err limit) {s} p live = absurd (live_not (with_state v s) (resumes_body_stop BeginsImport IsStoppedState stops_state same_url modules_in p) live)

pub reacts_less : {v : World} {r : Reaction Url} {how : Settled (Value Url)} {w : World} → Reacts v r how w → stopped w ≡ None → Less (weight_of r) v w
reacts_less (entry_linked {answer = a} p) live = load_less a p EntryDone refl live
reacts_less {v} {w = w} (entry_fault root f ls l) live = less_promises 2 v w (omega arith) refl (omega arith)
reacts_less {v} {w = w} entry_refused live = less_promises 2 v w (omega arith) refl (omega arith)
reacts_less {v} {w = w} entry_ended live = less_promises 1 v w (omega arith) refl (omega arith)
reacts_less {v} {w = w} entry_threw live = less_promises 1 v w (omega arith) refl (omega arith)
reacts_less (linked {s = s} {answer = a} p) live = load_less a p (Evaluated s) refl live
reacts_less {v} {w = w} (fault p root f ls n l) live = less_promises 2 v w (omega arith) refl (settle_queue v.promises p _)
reacts_less {v} {w = w} (refused p n) live = less_promises 2 v w (omega arith) refl (settle_queue v.promises p _)
reacts_less {v} {w = w} (evaluated p root n o) live = less_promises 1 v w (omega arith) refl (settle_queue v.promises p _)
reacts_less {v} {w = w} (threw p n) live = less_promises 1 v w (omega arith) refl (settle_queue v.promises p _)
reacts_less (body_ended {end = a} p) live = fulfills_less a p live
reacts_less (body_threw p) live = less_of 1 (omega arith) (rejects_live evaluation CallsForBody Keep lasts p)
reacts_less {v} (resumes {end = a} p) live = resumes_less a p live

-- ---- counts

-- steps that may still be taken
abbrev pub steps_left : World → ℕ
steps_left w = MAX_STEPS - w.engine.steps

abbrev pub IsLower : World → World → Type 0
IsLower = Lower steps_left left

-- a job leaves less
pub job_lowers : (w mid : World) (j : Job (Reaction Url)) (rest : Queue) (how : Settled (Value Url)) → w.engine.steps ≤ MAX_STEPS → next_job w.promises ≡ Some (j, rest)
    → Reacts (with_promises w rest) j.reaction how mid → stopped mid ≡ None → IsLower mid w
job_lowers w mid j rest how few e p live = by (nat_lt w.engine.steps mid.engine.steps) refl
  where
    l : Less (weight_of j.reaction) (with_promises w rest) mid
    l = reacts_less p live

    within : mid.engine.steps ≤ MAX_STEPS
    within = l.within few

    by : (b : Bool) → nat_lt w.engine.steps mid.engine.steps ≡ b → IsLower mid w
    by true f = Lower.first (room MAX_STEPS w.engine.steps mid.engine.steps (lt_is w.engine.steps mid.engine.steps f) within)
    by false f =
        let a = l.steps in
        let q = l.quiet (as_much w.engine.steps mid.engine.steps f a) in
        let n = next_queue w.promises rest j e in
        Lower.second (room_left MAX_STEPS w.engine.steps mid.engine.steps a) (omega (arith, q, n))

-- and no more steps than may be
pub job_within : (w mid : World) (r : Reaction Url) (rest : Queue) (how : Settled (Value Url)) → w.engine.steps ≤ MAX_STEPS → Reacts (with_promises w rest) r how mid → stopped mid ≡ None → mid.engine.steps ≤ MAX_STEPS
job_within w mid r rest how few p live = (reacts_less p live).within few

-- as a law
pub jobs_lower : JobsLower
jobs_lower = record {
  steps = λ w after how d live. (reacts_less d.reacts live).steps;
  within = λ w after how d live few. (reacts_less d.reacts live).within few;
  less = λ w after how d live e. let q = (reacts_less d.reacts live).quiet e in let n = next_queue w.promises d.left d.job d.first in omega (arith, q, n);
}
