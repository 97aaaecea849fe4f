-- Each call of evaluation has an outcome.
use Rattle.std.proofs.Common.{◌≡◌, ℕ, zero, suc, ◌+◌, ◌≤◌, ◌<◌, Bool, true, false, List, [], ◌∷◌, Option, Some, None, refl, ap, subst, sym, ◌∙◌, inl, inr, arith}
use Rattle.std.specs.Prelude.{◌⊎◌, ◌≢◌, All, IfSome, Result, Ok, Err}
use Rattle.std.proofs.lemmas.List.Elements.{All-nil}
use Rattle.esm_base.specs.Lists.{is_in}
use Rattle.esm_realm.proofs.Components.{none_open}
use Rattle.esm_realm.proofs.HasWalks.{walks_inside}
use Rattle.esm_realm.proofs.Urls.{not_both}
use Rattle.esm_realm.proofs.Lists.{either, in_cons}
use Rattle.esm_eval.specs.Nodes.{Phase, NotEntered, Evaluating, EvaluatingAsync, Evaluated, BodyCalls}
use Rattle.esm_eval.specs.Evaluation.{Evaluation, IsLawful, phase, waiters, root_of, fulfill_kept, reject_kept}
use Rattle.esm_eval.specs.Evaluate.{WalkEnd, Ends, Throws, Stops, keep, fulfill_by, ExecutesAsync, Executes, Walks, EvaluatesRoot}
use Rattle.esm_eval.specs.BodyEnd.{finish, refuse, Rejects, RejectsAll, GoOn, Fulfills}
use Rattle.esm_eval.specs.Keeping.{CanEvaluate, HasEvaluation}
use Rattle.esm_eval.proofs.Marked.{visits_marked}
use Rattle.esm_eval.proofs.HasMarks as marks
use Rattle.esm_eval.proofs.HasMarks.{first_has, others_have}
use Rattle.esm_eval.proofs.HasReady.{ready_among}
use Rattle.esm_eval.proofs.Puts.{put_at}

is_over : (p : Phase) → (p ≡ Evaluated) ⊎ (p ≢ Evaluated)
is_over NotEntered = inr (λ e. cc)
is_over Evaluating = inr (λ e. cc)
is_over EvaluatingAsync = inr (λ e. cc)
is_over Evaluated = inl refl

-- 1 where it isn't over
abbrev open_one : Phase → ℕ
open_one Evaluated = 0
open_one _ = 1

module _ {N V W S : Type 0} (E : Evaluation N V W) (acts : BodyCalls N V W S) (Fits : W → Type 0) (IsModule : N → Type 0) (IsKnown : V → Type 0)
    (L : IsLawful E) (C : CanEvaluate E acts Fits IsModule IsKnown) where
  keep_fits : (w : W) (m : N) → Fits w → IsModule m → Fits (keep E w m)
  keep_fits w m f k =
      let g = C.node w f m in
      C.put (E.make_promise w) m _ (C.make_promise w f) k (record { error = g.error; root = g.root; waits = g.waits; waiters = g.waiters })

  fulfill_fits : (w : W) (p : ℕ) (h : Phase) → Fits w → Fits (fulfill_by E w p h)
  fulfill_fits w p NotEntered f = f
  fulfill_fits w p Evaluating f = f
  fulfill_fits w p EvaluatingAsync f = f
  fulfill_fits w p Evaluated f = C.fulfill w p f

  -- ---- Evaluate

  abbrev HasRoot : W → N → Type 0
  HasRoot w m = (a : Result ℕ S) × (after : W) × EvaluatesRoot E acts w m a after × Fits after

  root_walks : (w : W) (m : N) → Fits w → IsModule m → (E.node w m).promise ≡ None → (E.node w m).error ≡ None → HasRoot w m
  root_walks w m f k p e =
      let c = C.entered w f in
      let walk = walks_inside E.same L.names.own L.names.equal (E.targets w) C.modules IsModule (C.targets w f) C.among c.0 m k in
      let marked = visits_marked E.same L.names.own L.names.equal (E.targets w) IsModule (C.targets w f) walk.2 k in
      let over = none_open E.same L.names.own L.names.equal (E.targets w) c.0 m walk.0 (walk.1, walk.2) in
      let r = marks.marks_have E acts Fits IsModule IsKnown L C (E.targets w) (C.targets w f) walk.0 [] marked (All-nil IsModule) over (keep E w m) (keep_fits w m f k) in
      by r.0 r.1 (record { closed = c.0; closed_is = c.1; marks = walk.0; walk = (walk.1, walk.2); leads = r.2 }) r.3 r.4
    where
      by : (end : WalkEnd V S) (after : W) → Walks E acts w m (keep E w m) end after → Fits after
          → marks.KnownEnd E acts Fits IsModule IsKnown L C end → HasRoot w m
      by Ends after h g t = (Ok (E.next_promise w), fulfill_by E after (E.next_promise w) (phase E after m), EvaluatesRoot.walks p e h, fulfill_fits after (E.next_promise w) (phase E after m) g)
      by (Throws v) after h g t = (Ok (E.next_promise w), E.reject after (E.next_promise w) v, EvaluatesRoot.throws v p e h, C.reject after (E.next_promise w) v g t)
      by (Stops why) after h g t = (Err why, after, EvaluatesRoot.stops why p e h, g)

  root_has : (w : W) (m : N) → Fits w → IsModule m → HasRoot w m
  root_has w m f k = by (E.node w m).promise refl (E.node w m).error refl
    where
      by : (p : Option ℕ) → (E.node w m).promise ≡ p → (e : Option V) → (E.node w m).error ≡ e → HasRoot w m
      by (Some p) h e j = (Ok p, w, EvaluatesRoot.kept p h, f)
      by None h (Some v) j =
          let known : IsKnown v = subst (λ o. IfSome o IsKnown) j (C.node w f m).error in
          (Ok (E.next_promise w), E.reject (keep E w m) (E.next_promise w) v, EvaluatesRoot.thrown v h j, C.reject (keep E w m) (E.next_promise w) v (keep_fits w m f k) known)
      by None h None j = root_walks w m f k h j

  -- ---- what follows the end of a body

  kept_fits : (w : W) (p : Option ℕ) → Fits w → Fits (fulfill_kept E w p)
  kept_fits w None f = f
  kept_fits w (Some p) f = C.fulfill w p f

  rejected_fits : (w : W) (p : Option ℕ) (v : V) → Fits w → IsKnown v → Fits (reject_kept E w p v)
  rejected_fits w None v f k = f
  rejected_fits w (Some p) v f k = C.reject w p v f k

  finish_fits : (w : W) (x : N) → Fits w → IsModule x → Fits (finish E w x)
  finish_fits w x f m =
      let g = C.node w f x in
      kept_fits _ (E.node w x).promise (C.put w x _ f m (record { error = g.error; root = g.root; waits = g.waits; waiters = g.waiters }))

  refuse_fits : (w : W) (x : N) (v : V) → Fits w → IsModule x → IsKnown v → Fits (refuse E w x v)
  refuse_fits w x v f m k =
      let g = C.node w f x in
      rejected_fits _ (E.node w x).promise v (C.put w x _ f m (record { error = k; root = g.root; waits = g.waits; waiters = g.waiters })) k

  -- ---- AsyncModuleExecutionRejected

  -- how many of these modules aren't over
  abbrev open_count : W → List N → ℕ
  open_count w [] = 0
  open_count w (x ∷ xs) = open_one (phase E w x) + open_count w xs

  -- no module of the one world is open that isn't in the other
  abbrev NoMore : W → W → Type 0
  NoMore w v = (y : N) → open_one (phase E v y) ≤ open_one (phase E w y)

  count_less : (w v : W) (xs : List N) → NoMore w v → open_count v xs ≤ open_count w xs
  count_less w v [] h = omega arith
  count_less w v (x ∷ xs) h = let a = h x in let b = count_less w v xs h in omega arith

  phase_back : (w v : W) (y : N) (p : Phase) → phase E w y ≡ p → phase E v y ≡ p → open_one (phase E v y) ≤ open_one (phase E w y)
  phase_back w v y p a b = subst (λ n. open_one n ≤ open_one (phase E w y)) (a ∙ sym b) (omega arith)

  refused_phase : (w : W) (x : N) (v : V) (y : N)
      → ((y ≡ x) × (phase E (refuse E w x v) y ≡ Evaluated)) ⊎ ((E.same y x ≡ false) × (phase E (refuse E w x v) y ≡ phase E w y))
  refused_phase w x v y = by (E.node w x).promise (put_at E L w x (record (E.node w x) { phase = Evaluated; error = Some v; done = true }) y)
    where
      mid : W
      mid = E.put w x (record (E.node w x) { phase = Evaluated; error = Some v; done = true })

      kept : (p : Option ℕ) → phase E (reject_kept E mid p v) y ≡ phase E mid y
      kept None = refl
      kept (Some p) = ap (λ n. n.phase) ((L.reject mid p v).far.nodes y)

      by : (p : Option ℕ) → ((y ≡ x) × (E.node mid y ≡ record (E.node w x) { phase = Evaluated; error = Some v; done = true })) ⊎ ((E.same y x ≡ false) × (E.node mid y ≡ E.node w y))
          → ((y ≡ x) × (phase E (reject_kept E mid p v) y ≡ Evaluated)) ⊎ ((E.same y x ≡ false) × (phase E (reject_kept E mid p v) y ≡ phase E w y))
      by p (inl h) = inl (h.0, kept p ∙ ap (λ n. n.phase) h.1)
      by p (inr h) = inr (h.0, kept p ∙ ap (λ n. n.phase) h.1)

  one_of : (p : Phase) → p ≢ Evaluated → open_one p ≡ 1
  one_of NotEntered n = refl
  one_of Evaluating n = refl
  one_of EvaluatingAsync n = refl
  one_of Evaluated n = absurd (n refl)

  refused_less : (w : W) (x : N) (v : V) → NoMore w (refuse E w x v)
  refused_less w x v y = either (refused_phase w x v y)
      (λ h. subst (λ p. open_one p ≤ open_one (phase E w y)) (sym h.1) (omega arith))
      (λ h. subst (λ p. open_one p ≤ open_one (phase E w y)) (sym h.1) (omega arith))

  refused_own : (w : W) (x : N) (v : V) → open_one (phase E (refuse E w x v) x) ≡ 0
  refused_own w x v = either (refused_phase w x v x) (λ h. ap open_one h.1) (λ h. absurd (not_both (E.same x x) (L.names.own x) h.0))

  count_strictly : (w v : W) (x : N) (xs : List N) → is_in E.same xs x ≡ true → NoMore w v → open_one (phase E v x) ≡ 0
      → open_one (phase E w x) ≡ 1 → open_count v xs < open_count w xs
  count_strictly w v x [] i h z o = cc
  count_strictly w v x (y ∷ ys) i h z o = either (in_cons E.same L.names.own L.names.equal y ys x i)
      (λ e. let a = subst (λ m. open_one (phase E v m) ≡ 0) e z in let b = subst (λ m. open_one (phase E w m) ≡ 1) e o in let c = count_less w v ys h in omega arith)
      (λ k. let a = h y in let b = count_strictly w v x ys k h z o in omega arith)

  abbrev left : W → ℕ
  left w = open_count w C.modules

  abbrev HasReject : W → N → V → Type 0
  HasReject w x v = (after : W) × Rejects E w x v after × Fits after × (left after ≤ left w)

  abbrev HasRejects : W → List N → V → Type 0
  HasRejects w xs v = (after : W) × RejectsAll E w xs v after × Fits after × (left after ≤ left w)

  abbrev RejectsBelow : ℕ → V → Type 0
  RejectsBelow k v = (w : W) (x : N) → left w ≤ k → Fits w → IsModule x → HasReject w x v

  all_rejected : (k : ℕ) (v : V) → RejectsBelow k v → (xs : List N) (w : W) → left w ≤ k → Fits w → All IsModule xs → HasRejects w xs v
  all_rejected k v each [] w le f ms = (w, RejectsAll.none, f, omega arith)
  all_rejected k v each (x ∷ xs) w le f ms =
      let one = each w x le f (first_has IsModule x xs ms) in
      let rest = all_rejected k v each xs one.0 (omega arith) one.2 (others_have IsModule x xs ms) in
      (rest.0, RejectsAll.next one.1 rest.1, rest.2, omega arith)

  refused_fewer : (w : W) (x : N) (v : V) → IsModule x → phase E w x ≢ Evaluated → left (refuse E w x v) < left w
  refused_fewer w x v m n = count_strictly w (refuse E w x v) x C.modules (C.among x m) (refused_less w x v) (refused_own w x v) (one_of (phase E w x) n)

  rejected : (k : ℕ) (v : V) → IsKnown v → RejectsBelow k v
  rejected zero v known w x le f m = either (is_over (phase E w x)) (λ e. (w, Rejects.over e, f, omega arith))
      (λ n. let lt = refused_fewer w x v m n in absurd (omega arith))
  rejected (suc k) v known w x le f m = by (is_over (phase E w x)) (rejected k v known)
    where
      by : (phase E w x ≡ Evaluated) ⊎ (phase E w x ≢ Evaluated) → RejectsBelow k v → HasReject w x v
      by (inl e) each = (w, Rejects.over e, f, omega arith)
      by (inr n) each =
          let lt = refused_fewer w x v m n in
          let r = all_rejected k v each (waiters E w x) (refuse E w x v) (omega arith) (refuse_fits w x v f m known) (C.node w f x).waiters in
          (r.0, Rejects.rejects n r.1, r.2, omega arith)

  -- ---- AsyncModuleExecutionFulfilled

  abbrev HasGone : W → List N → Type 0
  HasGone w xs = (a : Result (Unit {0}) S) × (after : W) × GoOn E acts w xs a after × Fits after

  abbrev Gone : List N → Type 0
  Gone xs = (w : W) → Fits w → HasGone w xs

  go_start : (w : W) (x : N) (xs : List N) → phase E w x ≢ Evaluated → E.awaits w x ≡ true
      → {end : WalkEnd V S} {mid : W} → ExecutesAsync E acts w x end mid → Fits mid → Gone xs → HasGone w (x ∷ xs)
  go_start w x xs n a (ExecutesAsync.starts {after = mid} h) f rest = let r = rest mid f in (r.0, r.1, GoOn.starts n a (ExecutesAsync.starts h) r.2, r.3)
  go_start w x xs n a (ExecutesAsync.stops {after = mid} why h) f rest = (Err why, mid, GoOn.start_stops why n a (ExecutesAsync.stops why h), f)

  go_run : (w : W) (x : N) (xs : List N) → phase E w x ≢ Evaluated → E.awaits w x ≡ false → IsModule x
      → (end : WalkEnd V S) (mid : W) → Executes E acts w x end mid → Fits mid → marks.KnownEnd E acts Fits IsModule IsKnown L C end → Gone xs → HasGone w (x ∷ xs)
  go_run w x xs n a m Ends mid h f k rest = let r = rest (finish E mid x) (finish_fits mid x f m) in (r.0, r.1, GoOn.runs n a h r.2, r.3)
  go_run w x xs n a m (Stops why) mid h f k rest = (Err why, mid, GoOn.run_stops why n a h, f)
  go_run w x xs n a m (Throws v) mid h f k rest =
      let j = rejected (left mid) v k mid x (omega arith) f m in
      let r = rest j.0 j.2 in
      (r.0, r.1, GoOn.throws v n a h j.1 r.2, r.3)

  go_on : (xs : List N) → All IsModule xs → Gone xs
  go_on [] ms w f = (Ok tt, w, GoOn.none, f)
  go_on (x ∷ xs) ms w f = by (is_over (phase E w x)) (E.awaits w x) refl (go_on xs (others_have IsModule x xs ms))
    where
      m : IsModule x
      m = first_has IsModule x xs ms

      by : (phase E w x ≡ Evaluated) ⊎ (phase E w x ≢ Evaluated) → (a : Bool) → E.awaits w x ≡ a → Gone xs → HasGone w (x ∷ xs)
      by (inl e) a b rest = let r = rest w f in (r.0, r.1, GoOn.skips e r.2, r.3)
      by (inr n) true b rest = let r = marks.executes_async E acts Fits IsModule IsKnown L C w x f m b in go_start w x xs n b r.2 r.3 rest
      by (inr n) false b rest = let r = marks.executes E acts Fits IsModule IsKnown L C w x f m b in go_run w x xs n b m r.0 r.1 r.2 r.3 r.4 rest

  fulfilled : (w : W) (m : N) → Fits w → IsModule m → (a : Result (Unit {0}) S) × (after : W) × Fulfills E acts w m a after × Fits after
  fulfilled w m f k = by (is_over (phase E w m))
    where
      by : (phase E w m ≡ Evaluated) ⊎ (phase E w m ≢ Evaluated) → (a : Result (Unit {0}) S) × (after : W) × Fulfills E acts w m a after × Fits after
      by (inl e) = (Ok tt, w, Fulfills.over e, f)
      by (inr n) =
          let late = finish_fits w m f k in
          let xs = ready_among E L (finish E w m) IsModule (E.stamps (finish E w m)) (C.stamps (finish E w m) late) in
          let r = go_on xs.0 xs.2 (finish E w m) late in
          (r.0, r.1, Fulfills.goes_on n xs.1 r.2, r.3)

pub has_evaluation : {N V W S : Type 0} (E : Evaluation N V W) (acts : BodyCalls N V W S) (Fits : W → Type 0) (IsModule : N → Type 0) (IsKnown : V → Type 0) → HasEvaluation E acts Fits IsModule IsKnown
has_evaluation E acts Fits IsModule IsKnown L C = record {
  evaluates = λ w m f k. root_has E acts Fits IsModule IsKnown L C w (root_of E w m) f (marks.root_is E acts Fits IsModule IsKnown L C w m f k);
  fulfills = fulfilled E acts Fits IsModule IsKnown L C;
  rejects = λ w m v f k known. let r = rejected E acts Fits IsModule IsKnown L C (left E acts Fits IsModule IsKnown L C w) v known w m (omega arith) f k in (r.0, r.1, r.2);
}
