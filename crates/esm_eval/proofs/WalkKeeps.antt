-- An evaluation keeps what holds between calls.
use Rattle.std.proofs.Common.{◌≡◌, ℕ, true, false, List, [], ◌∷◌, Some, ap, subst, sym, ◌∙◌, inl, inr}
use Rattle.std.specs.Prelude.{◌⊎◌, ◌||◌, Ok}
use Rattle.std.proofs.lemmas.List.{append-nil}
use Rattle.esm_realm.specs.Walk.{Mark}
use Rattle.esm_base.specs.Lists.{is_in}
use Rattle.esm_realm.specs.Components.{opened_from}
use Rattle.esm_realm.proofs.Urls.{cases, not_both}
use Rattle.esm_realm.proofs.Lists.{in_first}
use Rattle.esm_eval.specs.Nodes.{Phase, NotEntered, Evaluating, EvaluatingAsync, Evaluated, was_entered, Node, BodyCalls}
use Rattle.esm_eval.specs.Evaluation.{Evaluation, IsLawful, IsSteady, IsSteadyCall, IsAlike, phase, waits, add_wait, wait_on}
use Rattle.esm_eval.specs.Evaluate.{WalkEnd, Ends, Throws, Stops, ExecutesAsync, Executes, Leaves, Marks, Walks, EvaluatesRoot, Evaluates, enter, close, keep, fulfill_by}
use Rattle.esm_eval.specs.Evaluate.Marks.{done, enters, passes, pass_throws, stays, component, leave_throws, leave_stops}
use Rattle.esm_eval.specs.Waiting.{IsBetweenCalls}
use Rattle.esm_eval.proofs.Fits.{Fits, walk_fits}
use Rattle.esm_eval.proofs.Amid.{Amid, IsLike, HasGrown, of_between, to_between, like_nodes, like_on, grown_on, grown_alike, amid_like, amid_stamp, not_entered}
use Rattle.esm_eval.proofs.Puts.{put_at, put_like, put_grown, amid_enter, amid_close, close_known, amid_fail, amid_pass}

module _ {N V W S : Type 0} (E : Evaluation N V W) (acts : BodyCalls N V W S) (L : IsLawful E) (steady : IsSteady E acts) where
  -- a list of the modules whose evaluation has begun
  abbrev pub Known : W → List N → Type 0
  Known w seen = (y : N) → is_in E.same seen y ≡ was_entered (phase E w y)

  like_call : (w v : W) (m : N) → IsSteadyCall E w m v → IsLike E w v
  like_call w v m s = like_nodes E w v s.nodes

  grown_call : (w v : W) (m : N) → IsSteadyCall E w m v → HasGrown E w v
  grown_call w v m s = record { stamps = s.stamps; begun = s.begun }

  -- a step that leaves what is amid, and which modules have begun
  pub record Step (w v : W) (opened : List N) : Type 0 where
    pub amid : Amid E v opened
    pub known : (y : N) → was_entered (phase E v y) ≡ was_entered (phase E w y)

  run_step : (w v : W) (m : N) (opened : List N) → IsSteadyCall E w m v → Amid E w opened → Step w v opened
  run_step w v m opened s a = record { amid = amid_like E w v opened (like_call w v m s) (grown_call w v m s) a; known = λ y. ap (λ n. was_entered n.phase) (s.nodes y) }

  stamp_step : (w : W) (x y : N) (ys : List N) (opened : List N) → waits E w x ≡ y ∷ ys → was_entered (phase E w x) ≡ true → Amid E w opened → Step w (E.add_stamp w x) opened
  stamp_step w x y ys opened e b a =
      let s = L.add_stamp w x in
      record {
        amid = amid_stamp E w (E.add_stamp w x) opened x L (like_nodes E w (E.add_stamp w x) s.nodes) s.stamps (λ z h. s.begun z ∙ h) b
            (inr (y, subst (λ zs. is_in E.same zs y ≡ true) (sym (ap (λ n. n.waits) (s.nodes x) ∙ e)) (in_first E.same L.names.own L.names.equal y ys))) a;
        known = λ z. ap (λ n. was_entered n.phase) (s.nodes z);
      }

  start_step : (w v : W) (x : N) (opened : List N) → IsSteadyCall E (E.make_body_promise (E.add_stamp w x) x) x v → E.begun v x ≡ true → was_entered (phase E w x) ≡ true → Amid E w opened → Step w v opened
  start_step w v x opened c begins b a =
      let s = L.add_stamp w x in
      let p = L.make_body_promise (E.add_stamp w x) x in
      let nodes : (z : N) → E.node v z ≡ E.node w z = λ z. c.nodes z ∙ p.far.nodes z ∙ s.nodes z in
      record {
        amid = amid_stamp E w v opened x L (like_nodes E w v nodes) (c.stamps ∙ p.far.stamps ∙ s.stamps) (λ z h. c.begun z (p.far.begun z ∙ s.begun z ∙ h)) b (inl begins) a;
        known = λ z. ap (λ n. was_entered n.phase) (nodes z);
      }

  pub leave_step : {w : W} {x : N} {mid : W} (opened : List N) → Leaves E acts w x Ends mid → was_entered (phase E w x) ≡ true → Amid E w opened → Step w mid opened
  leave_step {w} {x} {mid} opened (Leaves.runs n o (Executes.ends p)) b a = run_step w mid x opened (steady.call _ _ _ _ p) a
  leave_step {w} {x} {mid} opened (Leaves.starts n o (ExecutesAsync.starts p)) b a = start_step w mid x opened (steady.call _ _ _ _ p) (steady.starts _ _ _ _ p) b a
  leave_step {w} {x} opened (Leaves.waiting {y = y} {ys = ys} n) b a = stamp_step w x y ys opened n b a

  pub throw_step : {w : W} {x : N} {v : V} {mid : W} (opened : List N) → Leaves E acts w x (Throws v) mid → Amid E w opened → Amid E mid opened
  throw_step {w} {x} {mid = mid} opened (Leaves.runs n o (Executes.throws v p)) a = (run_step w mid x opened (steady.call _ _ _ _ p) a).amid
  throw_step opened (Leaves.starts n o p) a = no_throw p
    where
      no_throw : {w : W} {x : N} {v : V} {mid : W} {C : Type 0} → ExecutesAsync E acts w x (Throws v) mid → C
      no_throw p = elim p [ ]

  abbrev Kept : WalkEnd V S → W → Type 0
  Kept Ends after = Amid E after []
  Kept (Throws v) after = Amid E after []
  Kept (Stops why) after = Unit {0}

  pub known_enter : (w : W) (seen : List N) (x : N) → Known w seen → Known (enter E w x) (x ∷ seen)
  known_enter w seen x k y = by (cases (E.same y x)) (put_at E L w x (record (E.node w x) { phase = Evaluating }) y)
    where
      by : (E.same y x ≡ true) ⊎ (E.same y x ≡ false) → ((y ≡ x) × (E.node (enter E w x) y ≡ record (E.node w x) { phase = Evaluating })) ⊎ ((E.same y x ≡ false) × (E.node (enter E w x) y ≡ E.node w y)) → (E.same y x || is_in E.same seen y) ≡ was_entered (phase E (enter E w x) y)
      by (inl h) (inl q) = ap (λ b. b || is_in E.same seen y) h ∙ sym (ap (λ n. was_entered n.phase) q.1)
      by (inl h) (inr q) = absurd (not_both (E.same y x) h q.0)
      by (inr h) (inl q) = absurd (not_both (E.same y x) (subst (λ z. E.same z x ≡ true) (sym q.0) (L.names.own x)) h)
      by (inr h) (inr q) = ap (λ b. b || is_in E.same seen y) h ∙ k y ∙ sym (ap (λ n. was_entered n.phase) q.1)

  pub known_step : (w v : W) (seen : List N) → ((y : N) → was_entered (phase E v y) ≡ was_entered (phase E w y)) → Known w seen → Known v seen
  known_step w v seen e k y = k y ∙ sym (e y)

  module _ (to : N → List N) where
    abbrev pub Fit : List N → List (Mark N) → Type 0
    Fit = Fits E.same L.names.own L.names.equal to

    pub has : (w : W) (seen : List N) (x : N) → Known w seen → is_in E.same seen x ≡ true → was_entered (phase E w x) ≡ true
    has w seen x k h = sym (k x) ∙ h

    pub marks_keep : {w : W} {opened : List N} {ms : List (Mark N)} {end : WalkEnd V S} {after : W} (seen : List N) → Marks E acts to w opened ms end after → Fit seen ms → Known w seen → Amid E w opened → Kept end after
    marks_keep seen done f k a = a
    marks_keep {w} {opened} seen (enters {x = x} p) f k a =
        marks_keep (x ∷ seen) p f.1 (known_enter w seen x k) (amid_enter E L w opened x (not_entered (phase E w x) (sym (k x) ∙ f.0)) a)
    marks_keep {w} {opened} seen (passes {x = x} {t = t} s n p) f k a =
        let q = amid_pass E L w opened x t (has w seen x k f.0) a in
        marks_keep seen p f.1 (known_step w (add_wait E w x (wait_on E w t)) seen q.1 k) q.0
    marks_keep {w} {opened} seen (pass_throws v s n) f k a = amid_fail E L opened w v a
    marks_keep {w} {opened} seen (stays {mid = mid} {x = x} l c p) f k a =
        let q = leave_step opened l (has w seen x k f.0) a in
        marks_keep seen p f.1 (known_step w mid seen q.known k) q.amid
    marks_keep {w} {opened} seen (component {mid = mid} {x = x} l c p) f k a =
        let q = leave_step opened l (has w seen x k f.0) a in
        marks_keep seen p f.1 (known_step mid (close E mid x (opened_from E.same opened x)) seen (close_known E L mid opened x q.amid) (known_step w mid seen q.known k)) (amid_close E L mid opened x q.amid)
    marks_keep {w} {opened} seen (leave_throws {mid = mid} v l) f k a = amid_fail E L opened mid v (throw_step opened l a)
    marks_keep seen (leave_stops why l) f k a = tt

  pub keep_like : (w : W) (m : N) → IsLike E w (keep E w m)
  keep_like w m =
      let p = L.make_promise w in
      let n : Node N V = record (E.node w m) { promise = Some (E.next_promise w) } in
      like_on E w (E.make_promise w) (keep E w m) (like_nodes E w (E.make_promise w) p.far.nodes)
      (put_like E L (E.make_promise w) m n (sym (ap (λ k. k.phase) (p.far.nodes m))) (sym (ap (λ k. k.error) (p.far.nodes m))) (sym (ap (λ k. k.cycle_root) (p.far.nodes m)))
      (sym (ap (λ k. k.done) (p.far.nodes m))) (sym (ap (λ k. k.waits) (p.far.nodes m))) (sym (ap (λ k. k.waiters) (p.far.nodes m))))

  keep_grown : (w : W) (m : N) → HasGrown E w (keep E w m)
  keep_grown w m = grown_on E w (E.make_promise w) (keep E w m) (grown_alike E w (E.make_promise w) (L.make_promise w)) (put_grown E L (E.make_promise w) m (record (E.node w m) { promise = Some (E.next_promise w) }))

  pub alike_keeps : (w v : W) → IsAlike E w v → Amid E w [] → Amid E v []
  alike_keeps w v l a = amid_like E w v [] (like_nodes E w v l.far.nodes) (grown_alike E w v l) a

  pub keep_keeps : (w : W) (m : N) → Amid E w [] → Amid E (keep E w m) []
  keep_keeps w m a = amid_like E w (keep E w m) [] (keep_like w m) (keep_grown w m) a

  walks_keep : {w : W} {m : N} {end : WalkEnd V S} {after : W} → Walks E acts w m (keep E w m) end after → Amid E w [] → Kept end after
  walks_keep {w} {m} p a = marks_keep (E.targets w) p.closed p.leads
      (subst (λ ms. Fit (E.targets w) p.closed ms) (append-nil p.marks) (walk_fits E.same L.names.own L.names.equal (E.targets w) p.walk.1))
      (λ y. p.closed_is y ∙ sym (ap was_entered ((keep_like w m).phases y))) (keep_keeps w m a)

  fulfill_keeps : (w : W) (p : ℕ) (h : Phase) → Amid E w [] → Amid E (fulfill_by E w p h) []
  fulfill_keeps w p NotEntered a = a
  fulfill_keeps w p Evaluating a = a
  fulfill_keeps w p EvaluatingAsync a = a
  fulfill_keeps w p Evaluated a = alike_keeps w (E.fulfill w p) (L.fulfill w p) a

  root_keeps : {w : W} {m : N} {p : ℕ} {after : W} → EvaluatesRoot E acts w m (Ok p) after → Amid E w [] → Amid E after []
  root_keeps (EvaluatesRoot.kept p h) a = a
  root_keeps {w} {m} (EvaluatesRoot.thrown v h e) a = alike_keeps (keep E w m) (E.reject (keep E w m) (E.next_promise w) v) (L.reject (keep E w m) (E.next_promise w) v) (keep_keeps w m a)
  root_keeps {w} {m} (EvaluatesRoot.walks {after = after} h e p) a = fulfill_keeps after (E.next_promise w) (phase E after m) (walks_keep p a)
  root_keeps {w} (EvaluatesRoot.throws {after = after} v h e p) a = alike_keeps after (E.reject after (E.next_promise w) v) (L.reject after (E.next_promise w) v) (walks_keep p a)

  pub evaluates_keep : (w after : W) (m : N) (p : ℕ) → IsBetweenCalls E w → Evaluates E acts w m (Ok p) after → IsBetweenCalls E after
  evaluates_keep w after m p b h = to_between E after (root_keeps h (of_between E w b))
