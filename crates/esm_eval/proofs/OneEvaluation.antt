-- Evaluation has one outcome, where each call for a body has one.
use Rattle.std.proofs.Common.{◌≡◌, ℕ, List, [], ◌∷◌, Option, Some, refl, ap, subst, sym, ◌∙◌}
use Rattle.std.specs.Prelude.{Result, Ok, Err}
use Rattle.esm_realm.specs.Walk.{Mark}
use Rattle.esm_realm.specs.Components.{opened_from}
use Rattle.esm_realm.proofs.OneWalk.{walk_alike}
use Rattle.esm_eval.specs.Nodes.{BodyCalls}
use Rattle.esm_eval.specs.Evaluation.{Evaluation, HasOneOutcome, phase, error_of, add_wait, wait_on}
use Rattle.esm_eval.specs.Evaluate.{WalkEnd, Throws, Stops, ExecutesAsync, Executes, Leaves, Marks, Walks, EvaluatesRoot, Evaluates, close, fail, keep, fulfill_by}
use Rattle.esm_eval.specs.Evaluate.Marks.{done, enters, passes, pass_throws, stays, component, leave_throws, leave_stops}
use Rattle.esm_eval.specs.BodyEnd.{ReadyAmong, Rejects, RejectsAll, GoOn, Fulfills, finish}
use Rattle.esm_eval.specs.Laws.{OneEvaluation}

module _ {N V W : Type 0} (E : Evaluation N V W) where
  ready_one : {w : W} {xs ys zs : List N} → ReadyAmong E w xs ys → ReadyAmong E w xs zs → zs ≡ ys
  ready_one ReadyAmong.none ReadyAmong.none = refl
  ready_one (ReadyAmong.kept {x = x} r p) (ReadyAmong.kept s q) = ap (λ ys. x ∷ ys) (ready_one p q)
  ready_one (ReadyAmong.kept r p) (ReadyAmong.dropped n q) = absurd (n r)
  ready_one (ReadyAmong.dropped n p) (ReadyAmong.kept s q) = absurd (n s)
  ready_one (ReadyAmong.dropped n p) (ReadyAmong.dropped m q) = ready_one p q

  reject_from : {w m a : W} {xs : List N} {v : V} → w ≡ m → RejectsAll E m xs v a → RejectsAll E w xs v a
  reject_from {a = a} {xs = xs} {v = v} e q = subst (λ m. RejectsAll E m xs v a) (sym e) q

  mutual
    pub rejects_one : {w a b : W} {x : N} {v : V} → Rejects E w x v a → Rejects E w x v b → b ≡ a
    rejects_one (Rejects.over h) (Rejects.over k) = refl
    rejects_one (Rejects.over h) (Rejects.rejects n q) = absurd (n h)
    rejects_one (Rejects.rejects n p) (Rejects.over k) = absurd (n k)
    rejects_one (Rejects.rejects n p) (Rejects.rejects m q) = rejects_all_one p q

    rejects_all_one : {w a b : W} {xs : List N} {v : V} → RejectsAll E w xs v a → RejectsAll E w xs v b → b ≡ a
    rejects_all_one RejectsAll.none RejectsAll.none = refl
    rejects_all_one (RejectsAll.next p ps) (RejectsAll.next q qs) = rejects_all_one ps (reject_from (sym (rejects_one p q)) qs)

target_one : {A : Type 0} {o : Option A} {s t : A} → o ≡ Some s → o ≡ Some t → s ≡ t
target_one p q = cc

module _ {N V W S : Type 0} (E : Evaluation N V W) (acts : BodyCalls N V W S) (h : HasOneOutcome E acts) where
  starts_one : {w : W} {m : N} {a b : WalkEnd V S} {x y : W} → ExecutesAsync E acts w m a x → ExecutesAsync E acts w m b y → (b ≡ a) × (y ≡ x)
  starts_one (ExecutesAsync.starts p) (ExecutesAsync.starts q) = (refl, (h.one p q).1)
  starts_one (ExecutesAsync.starts p) (ExecutesAsync.stops why q) = let k = h.one p q in absurd cc
  starts_one (ExecutesAsync.stops why p) (ExecutesAsync.starts q) = let k = h.one p q in absurd cc
  starts_one (ExecutesAsync.stops why p) (ExecutesAsync.stops why' q) = let k = h.one p q in let e : why' ≡ why = cc in (ap (λ why. Stops why) e, k.1)

  runs_one : {w : W} {m : N} {a b : WalkEnd V S} {x y : W} → Executes E acts w m a x → Executes E acts w m b y → (b ≡ a) × (y ≡ x)
  runs_one (Executes.ends p) (Executes.ends q) = (refl, (h.one p q).1)
  runs_one (Executes.ends p) (Executes.throws v q) = let k = h.one p q in absurd cc
  runs_one (Executes.ends p) (Executes.stops why q) = let k = h.one p q in absurd cc
  runs_one (Executes.throws v p) (Executes.ends q) = let k = h.one p q in absurd cc
  runs_one (Executes.throws v p) (Executes.throws v' q) = let k = h.one p q in let e : v' ≡ v = cc in (ap (λ v. Throws v) e, k.1)
  runs_one (Executes.throws v p) (Executes.stops why q) = let k = h.one p q in absurd cc
  runs_one (Executes.stops why p) (Executes.ends q) = let k = h.one p q in absurd cc
  runs_one (Executes.stops why p) (Executes.throws v q) = let k = h.one p q in absurd cc
  runs_one (Executes.stops why p) (Executes.stops why' q) = let k = h.one p q in let e : why' ≡ why = cc in (ap (λ why. Stops why) e, k.1)

  leaves_one : {w : W} {m : N} {a b : WalkEnd V S} {x y : W} → Leaves E acts w m a x → Leaves E acts w m b y → (b ≡ a) × (y ≡ x)
  leaves_one (Leaves.runs n o p) (Leaves.runs m u q) = runs_one p q
  leaves_one (Leaves.runs n o p) (Leaves.starts m u q) = absurd cc
  leaves_one (Leaves.runs n o p) (Leaves.waiting m) = absurd cc
  leaves_one (Leaves.starts n o p) (Leaves.runs m u q) = absurd cc
  leaves_one (Leaves.starts n o p) (Leaves.starts m u q) = starts_one p q
  leaves_one (Leaves.starts n o p) (Leaves.waiting m) = absurd cc
  leaves_one (Leaves.waiting n) (Leaves.runs m u q) = absurd cc
  leaves_one (Leaves.waiting n) (Leaves.starts m u q) = absurd cc
  leaves_one (Leaves.waiting n) (Leaves.waiting m) = (refl, refl)

  module _ (to : N → List N) where
    marks_from : {w v x : W} {opened : List N} {ms : List (Mark N)} {a : WalkEnd V S} → w ≡ v → Marks E acts to v opened ms a x → Marks E acts to w opened ms a x
    marks_from {x = x} {opened = opened} {ms = ms} {a = a} e q = subst (λ w. Marks E acts to w opened ms a x) (sym e) q

    marks_one : {w : W} {opened : List N} {ms : List (Mark N)} {a b : WalkEnd V S} {x y : W} → Marks E acts to w opened ms a x → Marks E acts to w opened ms b y → (b ≡ a) × (y ≡ x)
    marks_one done done = (refl, refl)
    marks_one (enters p) (enters q) = marks_one p q
    marks_one {w} (passes {x = x} t n p) (passes s m q) = let same = target_one t s in marks_one p (marks_from (ap (λ t. add_wait E w x (wait_on E w t)) same) q)
    marks_one {w} (passes {t = t'} t n p) (pass_throws {t = s'} v s m) = let same : t' ≡ s' = target_one t s in let e = ap (λ t. error_of E w t) same in absurd cc
    marks_one {w} (pass_throws {t = t'} v t n) (passes {t = s'} s m q) = let same : t' ≡ s' = target_one t s in let e = ap (λ t. error_of E w t) same in absurd cc
    marks_one {w} {opened} (pass_throws {t = t'} v t n) (pass_throws {t = s'} u s m) = let same : t' ≡ s' = target_one t s in let e = ap (λ t. error_of E w t) same in let f : u ≡ v = cc in (ap (λ v. Throws v) f, ap (λ v. fail E w v opened) f)
    marks_one (stays l c p) (stays k d q) = marks_one p (marks_from (sym (leaves_one l k).1) q)
    marks_one (stays l c p) (component k d q) = absurd cc
    marks_one (stays l c p) (leave_throws v k) = let e = (leaves_one l k).0 in absurd cc
    marks_one (stays l c p) (leave_stops why k) = let e = (leaves_one l k).0 in absurd cc
    marks_one (component l c p) (stays k d q) = absurd cc
    marks_one (component {x = x} {opened = opened} l c p) (component k d q) = marks_one p (marks_from (ap (λ w. close E w x (opened_from E.same opened x)) (sym (leaves_one l k).1)) q)
    marks_one (component l c p) (leave_throws v k) = let e = (leaves_one l k).0 in absurd cc
    marks_one (component l c p) (leave_stops why k) = let e = (leaves_one l k).0 in absurd cc
    marks_one (leave_throws v l) (stays k d q) = let e = (leaves_one l k).0 in absurd cc
    marks_one (leave_throws v l) (component k d q) = let e = (leaves_one l k).0 in absurd cc
    marks_one (leave_throws {opened = opened} v l) (leave_throws u k) = let e = leaves_one l k in let f : u ≡ v = cc in (ap (λ v. Throws v) f, λ i. fail E (e.1 i) (f i) opened)
    marks_one (leave_throws v l) (leave_stops why k) = let e = (leaves_one l k).0 in absurd cc
    marks_one (leave_stops why l) (stays k d q) = let e = (leaves_one l k).0 in absurd cc
    marks_one (leave_stops why l) (component k d q) = let e = (leaves_one l k).0 in absurd cc
    marks_one (leave_stops why l) (leave_throws v k) = let e = (leaves_one l k).0 in absurd cc
    marks_one (leave_stops why l) (leave_stops why' k) = let e = leaves_one l k in let f : why' ≡ why = cc in (ap (λ why. Stops why) f, e.1)

  abbrev Leads : W → List (Mark N) → WalkEnd V S → W → W → Type 0
  Leads w ms a start x = Marks E acts (E.targets w) start [] ms a x

  walks_one : {w start : W} {m : N} {a b : WalkEnd V S} {x y : W} → Walks E acts w m start a x → Walks E acts w m start b y → (b ≡ a) × (y ≡ x)
  walks_one {w} {start} {b = b} {y = y} p q = marks_one (E.targets w) p.leads (subst (λ ms. Leads w ms b start y) (walk_alike E.same (E.targets w) (λ z. q.closed_is z ∙ sym (p.closed_is z)) q.walk p.walk) q.leads)

  root_one : {w : W} {m : N} {a b : Result ℕ S} {x y : W} → EvaluatesRoot E acts w m a x → EvaluatesRoot E acts w m b y → (b ≡ a) × (y ≡ x)
  root_one (EvaluatesRoot.kept p k) (EvaluatesRoot.kept p' k') = let e : p' ≡ p = cc in (ap Ok e, refl)
  root_one (EvaluatesRoot.kept p k) (EvaluatesRoot.thrown v k' e) = absurd cc
  root_one (EvaluatesRoot.kept p k) (EvaluatesRoot.walks k' e q) = absurd cc
  root_one (EvaluatesRoot.kept p k) (EvaluatesRoot.throws v k' e q) = absurd cc
  root_one (EvaluatesRoot.kept p k) (EvaluatesRoot.stops why k' e q) = absurd cc
  root_one (EvaluatesRoot.thrown v k e) (EvaluatesRoot.kept p k') = absurd cc
  root_one {w} {m} (EvaluatesRoot.thrown v k e) (EvaluatesRoot.thrown v' k' f) = let same : v' ≡ v = cc in (refl, ap (λ v. E.reject (keep E w m) (E.next_promise w) v) same)
  root_one (EvaluatesRoot.thrown v k e) (EvaluatesRoot.walks k' f q) = absurd cc
  root_one (EvaluatesRoot.thrown v k e) (EvaluatesRoot.throws u k' f q) = absurd cc
  root_one (EvaluatesRoot.thrown v k e) (EvaluatesRoot.stops why k' f q) = absurd cc
  root_one (EvaluatesRoot.walks k e p) (EvaluatesRoot.kept p' k') = absurd cc
  root_one (EvaluatesRoot.walks k e p) (EvaluatesRoot.thrown v k' f) = absurd cc
  root_one {w} {m} (EvaluatesRoot.walks k e p) (EvaluatesRoot.walks k' f q) = (refl, ap (λ after. fulfill_by E after (E.next_promise w) (phase E after m)) (walks_one p q).1)
  root_one (EvaluatesRoot.walks k e p) (EvaluatesRoot.throws u k' f q) = let same = (walks_one p q).0 in absurd cc
  root_one (EvaluatesRoot.walks k e p) (EvaluatesRoot.stops why k' f q) = let same = (walks_one p q).0 in absurd cc
  root_one (EvaluatesRoot.throws v k e p) (EvaluatesRoot.kept p' k') = absurd cc
  root_one (EvaluatesRoot.throws v k e p) (EvaluatesRoot.thrown u k' f) = absurd cc
  root_one (EvaluatesRoot.throws v k e p) (EvaluatesRoot.walks k' f q) = let same = (walks_one p q).0 in absurd cc
  root_one {w} (EvaluatesRoot.throws v k e p) (EvaluatesRoot.throws u k' f q) = let s = walks_one p q in let same : u ≡ v = cc in (refl, λ i. E.reject (s.1 i) (E.next_promise w) (same i))
  root_one (EvaluatesRoot.throws v k e p) (EvaluatesRoot.stops why k' f q) = let same = (walks_one p q).0 in absurd cc
  root_one (EvaluatesRoot.stops why k e p) (EvaluatesRoot.kept p' k') = absurd cc
  root_one (EvaluatesRoot.stops why k e p) (EvaluatesRoot.thrown u k' f) = absurd cc
  root_one (EvaluatesRoot.stops why k e p) (EvaluatesRoot.walks k' f q) = let same = (walks_one p q).0 in absurd cc
  root_one (EvaluatesRoot.stops why k e p) (EvaluatesRoot.throws u k' f q) = let same = (walks_one p q).0 in absurd cc
  root_one (EvaluatesRoot.stops why k e p) (EvaluatesRoot.stops why' k' f q) = let s = walks_one p q in let same : why' ≡ why = cc in (ap Err same, s.1)

  pub evaluates_one : (w : W) (m : N) {a b : Result ℕ S} {x y : W} → Evaluates E acts w m a x → Evaluates E acts w m b y → (b ≡ a) × (y ≡ x)
  evaluates_one w m p q = root_one p q

  takes_from : {w v : W} {xs : List N} {a : Result (Unit {0}) S} {x : W} → w ≡ v → GoOn E acts v xs a x → GoOn E acts w xs a x
  takes_from {xs = xs} {a = a} {x = x} e q = subst (λ w. GoOn E acts w xs a x) (sym e) q

  takes_one : {w : W} {xs : List N} {a b : Result (Unit {0}) S} {x y : W} → GoOn E acts w xs a x → GoOn E acts w xs b y → (b ≡ a) × (y ≡ x)
  takes_one GoOn.none GoOn.none = (refl, refl)
  takes_one (GoOn.skips h p) (GoOn.skips k q) = takes_one p q
  takes_one (GoOn.skips h p) (GoOn.starts n o s q) = absurd (n h)
  takes_one (GoOn.skips h p) (GoOn.runs n o s q) = absurd (n h)
  takes_one (GoOn.skips h p) (GoOn.throws v n o s r q) = absurd (n h)
  takes_one (GoOn.skips h p) (GoOn.start_stops why n o s) = absurd (n h)
  takes_one (GoOn.skips h p) (GoOn.run_stops why n o s) = absurd (n h)
  takes_one (GoOn.starts n o s p) (GoOn.skips k q) = absurd (n k)
  takes_one (GoOn.starts n o s p) (GoOn.starts m u t q) = takes_one p (takes_from (sym (starts_one s t).1) q)
  takes_one (GoOn.starts n o s p) (GoOn.runs m u t q) = absurd cc
  takes_one (GoOn.starts n o s p) (GoOn.throws v m u t r q) = absurd cc
  takes_one (GoOn.starts n o s p) (GoOn.start_stops why m u t) = let e = (starts_one s t).0 in absurd cc
  takes_one (GoOn.starts n o s p) (GoOn.run_stops why m u t) = absurd cc
  takes_one (GoOn.runs n o s p) (GoOn.skips k q) = absurd (n k)
  takes_one (GoOn.runs n o s p) (GoOn.starts m u t q) = absurd cc
  takes_one (GoOn.runs {x = x} n o s p) (GoOn.runs m u t q) = takes_one p (takes_from (ap (λ w. finish E w x) (sym (runs_one s t).1)) q)
  takes_one (GoOn.runs n o s p) (GoOn.throws v m u t r q) = let e = (runs_one s t).0 in absurd cc
  takes_one (GoOn.runs n o s p) (GoOn.start_stops why m u t) = absurd cc
  takes_one (GoOn.runs n o s p) (GoOn.run_stops why m u t) = let e = (runs_one s t).0 in absurd cc
  takes_one (GoOn.throws v n o s r p) (GoOn.skips k q) = absurd (n k)
  takes_one (GoOn.throws v n o s r p) (GoOn.starts m u t q) = absurd cc
  takes_one (GoOn.throws v n o s r p) (GoOn.runs m u t q) = let e = (runs_one s t).0 in absurd cc
  takes_one (GoOn.throws {late = late} {x = x} v n o s r p) (GoOn.throws {mid = mid'} {late = late'} v' m u t r' q) =
      let k = runs_one s t in
      let same : v' ≡ v = cc in
      let r'' : Rejects E _ x v late' = subst (λ w. Rejects E w x v late') k.1 (subst (λ v. Rejects E mid' x v late') same r') in
      takes_one p (takes_from (sym (rejects_one E r r'')) q)
  takes_one (GoOn.throws v n o s r p) (GoOn.start_stops why m u t) = absurd cc
  takes_one (GoOn.throws v n o s r p) (GoOn.run_stops why m u t) = let e = (runs_one s t).0 in absurd cc
  takes_one (GoOn.start_stops why n o s) (GoOn.skips k q) = absurd (n k)
  takes_one (GoOn.start_stops why n o s) (GoOn.starts m u t q) = let e = (starts_one s t).0 in absurd cc
  takes_one (GoOn.start_stops why n o s) (GoOn.runs m u t q) = absurd cc
  takes_one (GoOn.start_stops why n o s) (GoOn.throws v m u t r q) = absurd cc
  takes_one (GoOn.start_stops why n o s) (GoOn.start_stops why' m u t) = let k = starts_one s t in let e : why' ≡ why = cc in (ap Err e, k.1)
  takes_one (GoOn.start_stops why n o s) (GoOn.run_stops why' m u t) = absurd cc
  takes_one (GoOn.run_stops why n o s) (GoOn.skips k q) = absurd (n k)
  takes_one (GoOn.run_stops why n o s) (GoOn.starts m u t q) = absurd cc
  takes_one (GoOn.run_stops why n o s) (GoOn.runs m u t q) = let e = (runs_one s t).0 in absurd cc
  takes_one (GoOn.run_stops why n o s) (GoOn.throws v m u t r q) = let e = (runs_one s t).0 in absurd cc
  takes_one (GoOn.run_stops why n o s) (GoOn.start_stops why' m u t) = absurd cc
  takes_one (GoOn.run_stops why n o s) (GoOn.run_stops why' m u t) = let k = runs_one s t in let e : why' ≡ why = cc in (ap Err e, k.1)

  pub fulfills_one : {w : W} {m : N} {a b : Result (Unit {0}) S} {x y : W} → Fulfills E acts w m a x → Fulfills E acts w m b y → (b ≡ a) × (y ≡ x)
  fulfills_one (Fulfills.over h') (Fulfills.over k) = (refl, refl)
  fulfills_one (Fulfills.over h') (Fulfills.goes_on n r q) = absurd (n h')
  fulfills_one (Fulfills.goes_on n r p) (Fulfills.over k) = absurd (n k)
  fulfills_one {w} {m} {b = b} {y = y} (Fulfills.goes_on n r p) (Fulfills.goes_on n' r' q) = takes_one p (subst (λ xs. GoOn E acts (finish E w m) xs b y) (ready_one E r r') q)

module _ {N V W S : Type 0} (E : Evaluation N V W) (acts : BodyCalls N V W S) where
  pub one_evaluation : OneEvaluation E acts
  one_evaluation h = record {
    evaluates = λ w m a b x y p q. evaluates_one E acts h w m p q;
    fulfills = λ w m a b x y p q. fulfills_one E acts h p q;
    rejects = λ w m v x y p q. rejects_one E p q;
  }
