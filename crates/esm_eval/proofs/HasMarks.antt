-- Each call of evaluation has an outcome.
use Rattle.std.proofs.Common.{◌≡◌, ℕ, suc, Bool, true, false, List, [], ◌∷◌, ◌++◌, Option, Some, None, refl, subst, sym, ◌∙◌, arith}
use Rattle.std.specs.Prelude.{slice_get, All, IfSome, Result, Ok, Err}
use Rattle.std.specs.Option.{unwrap_or, option_or}
use Rattle.std.proofs.lemmas.List.Elements.{All-nil, All-cons, All-append}
use Rattle.esm_values.specs.Ran.{Ran, Normal, Thrown}
use Rattle.esm_realm.specs.Walk.{Mark}
use Rattle.esm_base.specs.Lists.{is_in}
use Rattle.esm_realm.specs.Walk.Mark.{Enter, Pass, Leave}
use Rattle.esm_realm.specs.Components.{closes, before_by, onwards_by, opened_before, opened_from, open_behind, opened_after}
use Rattle.esm_eval.specs.Nodes.{Phase, NotEntered, Evaluating, EvaluatingAsync, Evaluated, Node, Start, Run, BodyCalls}
use Rattle.esm_eval.specs.Evaluation.{Evaluation, IsLawful, phase, waits, is_stamped, is_done, root_of, error_of, wait_by, wait_on, put_wait, put_waiter, add_wait}
use Rattle.esm_eval.specs.Evaluate.{WalkEnd, Ends, Throws, Stops, enter, closed_phase, close, fail, ExecutesAsync, Executes, Leaves, Marks}
use Rattle.esm_eval.specs.Evaluate.Marks.{done, enters, passes, pass_throws, stays, component, leave_throws, leave_stops}
use Rattle.esm_eval.specs.Keeping.{IsNodeOf, throws_known, CanEvaluate}
use Rattle.esm_eval.proofs.Marked.{AreMarked}

module _ {N : Type 0} (P : N → Type 0) where
  pub first_has : (x : N) (xs : List N) → All P (x ∷ xs) → P x
  first_has x xs h = h 0 x (omega arith)

  pub others_have : (x : N) (xs : List N) → All P (x ∷ xs) → All P xs
  others_have x xs h k d lt = h (suc k) d (omega arith)

  pub one_has : (x : N) → P x → All P (x ∷ [])
  one_has x h = All-cons P x [] h (All-nil P)

-- members of a list that is cut in two
module _ {N : Type 0} (same : N → N → Bool) (P : N → Type 0) where
  all_before : (xs : List N) (x : N) → All P xs → All P (opened_before same xs x)
  all_before [] x h = h
  all_before (y ∷ ys) x h = by (same y x) (all_before ys x (others_have P y ys h))
    where
      by : (b : Bool) → All P (opened_before same ys x) → All P (before_by {N = N} same b y (opened_before same ys x))
      by true rest = All-nil P
      by false rest = All-cons P y _ (first_has P y ys h) rest

  all_from : (xs : List N) (x : N) → All P xs → All P (opened_from same xs x)
  all_from [] x h = h
  all_from (y ∷ ys) x h = by (same y x) (all_from ys x (others_have P y ys h))
    where
      by : (b : Bool) → All P (opened_from same ys x) → All P (onwards_by {N = N} same b (y ∷ ys) (opened_from same ys x))
      by true rest = h
      by false rest = rest

module _ {N V W S : Type 0} (E : Evaluation N V W) (acts : BodyCalls N V W S) (Fits : W → Type 0) (IsModule : N → Type 0) (IsKnown : V → Type 0)
    (L : IsLawful E) (C : CanEvaluate E acts Fits IsModule IsKnown) where
  abbrev IsGood : Node N V → Type 0
  IsGood = IsNodeOf IsModule IsKnown

  good : (w : W) → Fits w → (x : N) → IsGood (E.node w x)
  good w f x = C.node w f x

  enter_fits : (w : W) (x : N) → Fits w → IsModule x → Fits (enter E w x)
  enter_fits w x f m = let g = good w f x in C.put w x _ f m (record { error = g.error; root = g.root; waits = g.waits; waiters = g.waiters })

  close_fits : (x : N) (ys : List N) (w : W) → Fits w → IsModule x → All IsModule ys → Fits (close E w x ys)
  close_fits x [] w f m ms = f
  close_fits x (y ∷ ys) w f m ms =
      let g = good w f y in
      close_fits x ys (E.put w y (record (E.node w y) { phase = closed_phase E (is_stamped E w y); cycle_root = Some x }))
      (C.put w y _ f (first_has IsModule y ys ms) (record { error = g.error; root = m; waits = g.waits; waiters = g.waiters })) m (others_have IsModule y ys ms)

  fail_fits : (v : V) (ys : List N) (w : W) → Fits w → IsKnown v → All IsModule ys → Fits (fail E w v ys)
  fail_fits v [] w f k ms = f
  fail_fits v (y ∷ ys) w f k ms =
      let g = good w f y in
      fail_fits v ys (E.put w y (record (E.node w y) { phase = Evaluated; error = Some v }))
      (C.put w y _ f (first_has IsModule y ys ms) (record { error = k; root = g.root; waits = g.waits; waiters = g.waiters })) k (others_have IsModule y ys ms)

  wait_fits : (w : W) (x y : N) → Fits w → IsModule x → IsModule y → Fits (put_waiter E (put_wait E w x y) x y)
  wait_fits w x y f m k =
      let g = good w f x in
      let late : Fits (put_wait E w x y) = C.put w x _ f m (record { error = g.error; root = g.root; waits = All-append IsModule _ (y ∷ []) g.waits (one_has IsModule y k); waiters = g.waiters }) in
      let h = good (put_wait E w x y) late y in
      C.put _ y _ late k (record { error = h.error; root = h.root; waits = h.waits; waiters = All-append IsModule _ (x ∷ []) h.waiters (one_has IsModule x m) })

  pub root_is : (w : W) (x : N) → Fits w → IsModule x → IsModule (root_of E w x)
  root_is w x f m = by (E.node w x).cycle_root (good w f x).root
    where
      by : (r : Option N) → IfSome r IsModule → IsModule (unwrap_or r x)
      by None h = m
      by (Some r) h = h

  add_fits : (w : W) (x t : N) → Fits w → IsModule x → IsModule t → Fits (add_wait E w x (wait_on E w t))
  add_fits w x t f m k = by (phase E w t) (is_stamped E w t) (is_stamped E w (root_of E w t)) (is_done E w (root_of E w t))
    where
      by : (p : Phase) (s r d : Bool) → Fits (add_wait E w x (wait_by E t (root_of E w t) p s r d))
      by Evaluating true r d = wait_fits w x t f m k
      by Evaluating false r d = f
      by NotEntered s true false = wait_fits w x (root_of E w t) f m (root_is w t f k)
      by NotEntered s true true = f
      by NotEntered s false d = f
      by EvaluatingAsync s true false = wait_fits w x (root_of E w t) f m (root_is w t f k)
      by EvaluatingAsync s true true = f
      by EvaluatingAsync s false d = f
      by Evaluated s true false = wait_fits w x (root_of E w t) f m (root_is w t f k)
      by Evaluated s true true = f
      by Evaluated s false d = f

  error_known : (w : W) (t : N) → Fits w → IfSome (error_of E w t) IsKnown
  error_known w t f = by (E.node w t).error (good w f t).error
    where
      by : (e : Option V) → IfSome e IsKnown → IfSome (option_or e (E.node w (root_of E w t)).error) IsKnown
      by (Some v) h = h
      by None h = (good w f (root_of E w t)).error

  -- ---- bodies

  abbrev pub KnownEnd : WalkEnd V S → Type 0
  KnownEnd Ends = Unit {0}
  KnownEnd (Throws v) = IsKnown v
  KnownEnd (Stops why) = Unit {0}

  -- what has an outcome that fits
  abbrev pub HasEnd : (WalkEnd V S → W → Type 0) → Type 0
  HasEnd R = (end : WalkEnd V S) × (after : W) × R end after × Fits after × KnownEnd end

  pub executes : (w : W) (m : N) → Fits w → IsModule m → E.awaits w m ≡ false → HasEnd (Executes E acts w m)
  executes w m f k a = by (C.run w m f k a)
    where
      by : (r : Result (Ran V) S) × (after : W) × acts w (Run m) r after × Fits after × throws_known IsKnown r → HasEnd (Executes E acts w m)
      by (Ok Normal, after, h, g, t) = (Ends, after, Executes.ends h, g, tt)
      by (Ok (Thrown v), after, h, g, t) = (Throws v, after, Executes.throws v h, g, t)
      by (Err why, after, h, g, t) = (Stops why, after, Executes.stops why h, g, tt)

  pub executes_async : (w : W) (m : N) → Fits w → IsModule m → E.awaits w m ≡ true → HasEnd (ExecutesAsync E acts w m)
  executes_async w m f k a = by (C.start w m f k a)
    where
      by : (r : Result (Unit {0}) S) × (after : W) × acts (E.make_body_promise w m) (Start m (E.next_promise w)) r after × Fits after → HasEnd (ExecutesAsync E acts w m)
      by (Ok unit, after, h, g) = (Ends, after, ExecutesAsync.starts h, g, tt)
      by (Err why, after, h, g) = (Stops why, after, ExecutesAsync.stops why h, g, tt)

  leaves : (w : W) (x : N) → Fits w → IsModule x → HasEnd (Leaves E acts w x)
  leaves w x f m = by (waits E w x) refl (E.awaits w x) refl
    where
      by : (ws : List N) → waits E w x ≡ ws → (a : Bool) → E.awaits w x ≡ a → HasEnd (Leaves E acts w x)
      by (y ∷ ys) e a b = (Ends, E.add_stamp w x, Leaves.waiting e, C.add_stamp w x f m, tt)
      by [] e false b = let r = executes w x f m b in (r.0, r.1, Leaves.runs e b r.2, r.3, r.4)
      by [] e true b =
          let r = executes_async (E.add_stamp w x) x (C.add_stamp w x f m) m ((L.add_stamp w x).awaits x ∙ b) in
          (r.0, r.1, Leaves.starts e b r.2, r.3, r.4)

  -- ---- the marks of a walk

  module _ (to : N → List N) (inside : (x t : N) → IsModule x → is_in E.same (to x) t ≡ true → IsModule t) where
    abbrev Marked : List (Mark N) → Type 0
    Marked = AreMarked E.same L.names.own L.names.equal to IsModule inside

    abbrev HasMarks : W → List N → List (Mark N) → Type 0
    HasMarks w opened ms = HasEnd (Marks E acts to w opened ms)

    abbrev GoesOn : List N → List (Mark N) → Type 0
    GoesOn opened ms = (w : W) → Fits w → HasMarks w opened ms

    leave_on : (w mid : W) (x : N) (opened : List N) (ms : List (Mark N)) → Leaves E acts w x Ends mid → Fits mid → IsModule x → All IsModule opened
        → (b : Bool) → closes E.same to opened x ≡ b → GoesOn (open_behind E.same b opened x) ms → HasMarks w opened (Leave x ∷ ms)
    leave_on w mid x opened ms l f m all true c rest =
        let r = rest (close E mid x (opened_from E.same opened x)) (close_fits x _ mid f m (all_from E.same IsModule opened x all)) in
        (r.0, r.1, component l c r.2, r.3, r.4)
    leave_on w mid x opened ms l f m all false c rest = let r = rest mid f in (r.0, r.1, stays l c r.2, r.3, r.4)

    leave_by : (w : W) (x : N) (opened : List N) (ms : List (Mark N)) → IsModule x → All IsModule opened
        → HasEnd (Leaves E acts w x) → GoesOn (open_behind E.same (closes E.same to opened x) opened x) ms → HasMarks w opened (Leave x ∷ ms)
    leave_by w x opened ms m all (Ends, mid, l, f, k) rest = leave_on w mid x opened ms l f m all (closes E.same to opened x) refl rest
    leave_by w x opened ms m all (Throws v, mid, l, f, k) rest = (Throws v, fail E mid v opened, leave_throws v l, fail_fits v opened mid f k all, k)
    leave_by w x opened ms m all (Stops why, mid, l, f, k) rest = (Stops why, mid, leave_stops why l, f, tt)

    pass_by : (w : W) (x t : N) (i : ℕ) (opened : List N) (ms : List (Mark N)) → Fits w → IsModule x → IsModule t → All IsModule opened
        → slice_get (to x) i ≡ Some t → (e : Option V) → error_of E w t ≡ e → GoesOn opened ms → HasMarks w opened (Pass x i ∷ ms)
    pass_by w x t i opened ms f m k all s None e rest =
        let r = rest (add_wait E w x (wait_on E w t)) (add_fits w x t f m k) in
        (r.0, r.1, passes s e r.2, r.3, r.4)
    pass_by w x t i opened ms f m k all s (Some v) e rest =
        let known : IsKnown v = subst (λ o. IfSome o IsKnown) e (error_known w t f) in
        (Throws v, fail E w v opened, pass_throws v s e, fail_fits v opened w f known all, known)

    behind : (b : Bool) (opened : List N) (x : N) → All IsModule opened → All IsModule (open_behind E.same b opened x)
    behind true opened x all = all_before E.same IsModule opened x all
    behind false opened x all = all

    pub marks_have : (ms : List (Mark N)) (opened : List N) → Marked ms → All IsModule opened → opened_after E.same to opened ms ≡ [] → GoesOn opened ms
    marks_have [] opened k all e w f = subst (λ o. HasMarks w o []) (sym e) (Ends, w, done, f, tt)
    marks_have (Enter x ∷ ms) opened k all e w f =
        let r = marks_have ms (opened ++ x ∷ []) k.1 (All-append IsModule opened (x ∷ []) all (one_has IsModule x k.0)) e (enter E w x) (enter_fits w x f k.0) in
        (r.0, r.1, enters r.2, r.3, r.4)
    marks_have (Pass x i ∷ ms) opened k all e w f =
        pass_by w x k.1.0 i opened ms f k.0 k.1.2 all k.1.1 (error_of E w k.1.0) refl (marks_have ms opened k.2 all e)
    marks_have (Leave x ∷ ms) opened k all e w f =
        leave_by w x opened ms k.0 all (leaves w x f k.0)
        (marks_have ms (open_behind E.same (closes E.same to opened x) opened x) k.1 (behind (closes E.same to opened x) opened x all) e)
