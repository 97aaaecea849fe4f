-- No body begins twice: amid a walk.
use Rattle.std.proofs.Common.{◌≡◌, ℕ, true, false, List, [], ◌∷◌, ◌++◌, Option, Some, None, refl, ap, subst, sym, ◌∙◌, inl, inr}
use Rattle.std.specs.Prelude.{◌⊎◌, Result, Ok}
use Rattle.std.proofs.lemmas.List.{append-nil}
use Rattle.esm_realm.specs.Walk.{Mark}
use Rattle.esm_base.specs.Lists.{is_in, EachOnce}
use Rattle.esm_realm.specs.Components.{opened_from}
use Rattle.esm_realm.proofs.Urls.{not_true, not_both}
use Rattle.esm_realm.proofs.Lists as lists
use Rattle.esm_realm.proofs.Lists.{either, in_first, in_later, in_cons}
use Rattle.esm_eval.specs.Nodes.{Phase, NotEntered, Evaluating, EvaluatingAsync, Evaluated, was_entered, Node, BodyCalls}
use Rattle.esm_eval.specs.Evaluation.{Evaluation, IsLawful, IsSteady, IsAlike, phase, is_stamped, add_wait, wait_on, put_wait}
use Rattle.esm_eval.specs.Evaluate.{WalkEnd, Ends, Throws, Stops, ExecutesAsync, Executes, Leaves, Marks, Walks, EvaluatesRoot, Evaluates, enter, close, fail, keep, fulfill_by, closed_phase}
use Rattle.esm_eval.specs.Evaluate.Marks.{done, enters, passes, pass_throws, stays, component, leave_throws, leave_stops}
use Rattle.esm_eval.specs.Begins.{First, BeginsOne, HaveBegunOnce}
use Rattle.esm_eval.proofs.Fits.{Fits, walk_fits}
use Rattle.esm_eval.proofs.Paths.{Paths, walk_path}
use Rattle.esm_eval.proofs.Amid.{In, Amid, of_between, not_entered}
use Rattle.esm_eval.proofs.Puts.{put_at, amid_enter, amid_close, close_known, amid_pass}
use Rattle.esm_eval.proofs.WalkKeeps.{Known, leave_step, known_enter, known_step, keep_like, keep_keeps, evaluates_keep}

module _ {N V W : Type 0} (E : Evaluation N V W) (L : IsLawful E) where
  -- v has the stamps and begun bodies of w
  pub record IsQuiet (w v : W) : Type 0 where
    pub stamps : E.stamps v ≡ E.stamps w
    pub begun : (y : N) → E.begun v y ≡ E.begun w y

  pub quiet_on : (u v w : W) → IsQuiet u v → IsQuiet v w → IsQuiet u w
  quiet_on u v w k l = record { stamps = l.stamps ∙ k.stamps; begun = λ y. l.begun y ∙ k.begun y }

  pub quiet_put : (w : W) (x : N) (n : Node N V) → IsQuiet w (E.put w x n)
  quiet_put w x n = record { stamps = (L.put w x n).stamps; begun = (L.put w x n).begun }

  pub quiet_same : (w : W) → IsQuiet w w
  quiet_same w = record { stamps = refl; begun = λ y. refl }

  pub quiet_alike : (w v : W) → IsAlike E w v → IsQuiet w v
  quiet_alike w v a = record { stamps = a.far.stamps; begun = a.far.begun }

  pub quiet_close : (x : N) (ys : List N) (w : W) → IsQuiet w (close E w x ys)
  quiet_close x [] w = quiet_same w
  quiet_close x (y ∷ ys) w =
      let n : Node N V = record (E.node w y) { phase = closed_phase E (is_stamped E w y); cycle_root = Some x } in
      quiet_on w (E.put w y n) (close E (E.put w y n) x ys) (quiet_put w y n) (quiet_close x ys (E.put w y n))

  quiet_fail : (v : V) (ys : List N) (w : W) → IsQuiet w (fail E w v ys)
  quiet_fail v [] w = quiet_same w
  quiet_fail v (y ∷ ys) w =
      let n : Node N V = record (E.node w y) { phase = Evaluated; error = Some v } in
      quiet_on w (E.put w y n) (fail E (E.put w y n) v ys) (quiet_put w y n) (quiet_fail v ys (E.put w y n))

  pub quiet_wait : (w : W) (x : N) (o : Option N) → IsQuiet w (add_wait E w x o)
  quiet_wait w x None = quiet_same w
  quiet_wait w x (Some y) = quiet_on w (put_wait E w x y) (add_wait E w x (Some y)) (quiet_put w x _) (quiet_put (put_wait E w x y) y _)

  -- where x has begun it still has
  fail_back : (v : V) (ys : List N) (w : W) (z : N) → phase E (fail E w v ys) z ≡ NotEntered → phase E w z ≡ NotEntered
  fail_back v [] w z h = h
  fail_back v (y ∷ ys) w z h =
      let n : Node N V = record (E.node w y) { phase = Evaluated; error = Some v } in
      let k : phase E (E.put w y n) z ≡ NotEntered = fail_back v ys (E.put w y n) z h in
      either (put_at E L w y n z) (λ q. let e = sym (ap (λ m. m.phase) q.1) ∙ k in cc) (λ q. sym (ap (λ m. m.phase) q.1) ∙ k)

  -- amid a walk: the modules of the path, which were entered and aren't left, have no order, and their bodies haven't begun
  pub record Calm (w : W) (path : List N) : Type 0 where
    pub unbegun : (y : N) → phase E w y ≡ NotEntered → E.begun w y ≡ false
    pub unstamped : (y : N) → phase E w y ≡ NotEntered → is_stamped E w y ≡ false
    pub still : (y : N) → In E path y → (E.begun w y ≡ false) × (is_stamped E w y ≡ false)
    pub distinct : EachOnce E.same (E.stamps w)

  stamped_quiet : (w v : W) → E.stamps v ≡ E.stamps w → (y : N) → is_stamped E v y ≡ is_stamped E w y
  stamped_quiet w v e y = ap (λ xs. is_in E.same xs y) e

  calm_on : (w v : W) (path : List N) → IsQuiet w v → ((y : N) → phase E v y ≡ NotEntered → phase E w y ≡ NotEntered) → Calm w path → Calm v path
  calm_on w v path q back c = record {
    unbegun = λ y h. q.begun y ∙ c.unbegun y (back y h);
    unstamped = λ y h. stamped_quiet w v q.stamps y ∙ c.unstamped y (back y h);
    still = λ y h. let k = c.still y h in (q.begun y ∙ k.0, stamped_quiet w v q.stamps y ∙ k.1);
    distinct = subst (λ xs. EachOnce E.same xs) (sym q.stamps) c.distinct;
  }

  back_of : (w v : W) → ((y : N) → was_entered (phase E v y) ≡ was_entered (phase E w y)) → (y : N) → phase E v y ≡ NotEntered → phase E w y ≡ NotEntered
  back_of w v e y h = not_entered (phase E w y) (sym (e y) ∙ ap was_entered h)

  calm_enter : (w : W) (path : List N) (x : N) → phase E w x ≡ NotEntered → Calm w path → Calm (enter E w x) (x ∷ path)
  calm_enter w path x f c = record {
    unbegun = λ y h. q.begun y ∙ c.unbegun y (back y h);
    unstamped = λ y h. stamped_quiet w (enter E w x) q.stamps y ∙ c.unstamped y (back y h);
    still = λ y h. let k = either (in_cons E.same L.names.own L.names.equal x path y h) (λ e. subst (λ z. (E.begun w z ≡ false) × (is_stamped E w z ≡ false)) (sym e) (c.unbegun x f, c.unstamped x f)) (c.still y) in
        (q.begun y ∙ k.0, stamped_quiet w (enter E w x) q.stamps y ∙ k.1);
    distinct = subst (λ xs. EachOnce E.same xs) (sym q.stamps) c.distinct;
  }
    where
      n : Node N V
      n = record (E.node w x) { phase = Evaluating }

      q : IsQuiet w (enter E w x)
      q = quiet_put w x n

      back : (y : N) → phase E (enter E w x) y ≡ NotEntered → phase E w y ≡ NotEntered
      back y h = either (put_at E L w x n y) (λ q. let e = sym (ap (λ m. m.phase) q.1) ∙ h in cc) (λ q. sym (ap (λ m. m.phase) q.1) ∙ h)

  snoc_distinct : (xs : List N) (x : N) → is_in E.same xs x ≡ false → EachOnce E.same xs → EachOnce E.same (xs ++ x ∷ [])
  snoc_distinct [] x h d = (refl, tt)
  snoc_distinct (y ∷ ys) x h d = (lists.out_both E.same L.names.own L.names.equal ys (x ∷ []) y d.0 one, snoc_distinct ys x (not_true (is_in E.same ys x) (λ k. not_both (is_in E.same (y ∷ ys) x) (in_later E.same L.names.own L.names.equal y ys x k) h)) d.1)
    where
      one : is_in E.same (x ∷ []) y ≡ false
      one = not_true (is_in E.same (x ∷ []) y) (λ k. either (in_cons E.same L.names.own L.names.equal x [] y k) (λ e. not_both (is_in E.same (y ∷ ys) x) (subst (λ z. is_in E.same (z ∷ ys) x ≡ true) (sym e) (in_first E.same L.names.own L.names.equal x ys)) h) (λ k. cc))

  -- x is left: it alone may have got an order, and its body alone may have begun
  pub record LeftBy (w v : W) (x : N) : Type 0 where
    pub nodes : (y : N) → E.node v y ≡ E.node w y
    pub begun : (y : N) → E.begun v y ≡ true → (E.begun w y ≡ true) ⊎ (y ≡ x)
    pub stamped : (y : N) → is_stamped E v y ≡ true → (is_stamped E w y ≡ true) ⊎ (y ≡ x)
    pub distinct : EachOnce E.same (E.stamps v)

  pub calm_left : (w v : W) (x : N) (rest : List N) → was_entered (phase E w x) ≡ true → is_in E.same rest x ≡ false → LeftBy w v x → Calm w (x ∷ rest) → Calm v rest
  calm_left w v x rest b out l c = record {
    unbegun = λ y h. not_true (E.begun v y) (λ k. either (l.begun y k) (λ i. not_both (E.begun w y) i (c.unbegun y (back y h))) (λ e. other y h e));
    unstamped = λ y h. not_true (is_stamped E v y) (λ k. either (l.stamped y k) (λ i. not_both (is_stamped E w y) i (c.unstamped y (back y h))) (λ e. other y h e));
    still = λ y h. (
      not_true (E.begun v y) (λ k. either (l.begun y k) (λ i. not_both (E.begun w y) i (c.still y (in_later E.same L.names.own L.names.equal x rest y h)).0) (λ e. apart y h e)),
      not_true (is_stamped E v y) (λ k. either (l.stamped y k) (λ i. not_both (is_stamped E w y) i (c.still y (in_later E.same L.names.own L.names.equal x rest y h)).1) (λ e. apart y h e)),
    );
    distinct = l.distinct;
  }
    where
      back : (y : N) → phase E v y ≡ NotEntered → phase E w y ≡ NotEntered
      back y h = sym (ap (λ m. m.phase) (l.nodes y)) ∙ h

      other : (y : N) → phase E v y ≡ NotEntered → y ≡ x → ⊥
      other y h e = not_both (was_entered (phase E w x)) b (ap (λ z. was_entered (phase E w z)) (sym e) ∙ ap was_entered (back y h))

      apart : (y : N) → In E rest y → y ≡ x → ⊥
      apart y h e = not_both (is_in E.same rest x) (subst (λ z. In E rest z) e h) out

  calm_drop : (w : W) (path : List N) → Calm w path → Calm w []
  calm_drop w path c = record { unbegun = c.unbegun; unstamped = c.unstamped; still = λ y h. cc; distinct = c.distinct }

  calm_fail : (w : W) (v : V) (ys path : List N) → Calm w path → Calm (fail E w v ys) []
  calm_fail w v ys path c = calm_on w (fail E w v ys) [] (quiet_fail v ys w) (fail_back v ys w) (calm_drop w path c)

  calm_close : (w : W) (opened : List N) (x : N) (path : List N) → Amid E w opened → Calm w path → Calm (close E w x (opened_from E.same opened x)) path
  calm_close w opened x path a c =
      let after : W = close E w x (opened_from E.same opened x) in
      calm_on w after path (quiet_close x (opened_from E.same opened x) w) (back_of w after (close_known E L w opened x a)) c

module _ {N V W S : Type 0} (E : Evaluation N V W) (acts : BodyCalls N V W S) (L : IsLawful E) (steady : IsSteady E acts) (one : BeginsOne E acts) where
  pub once_run : {w : W} {x : N} {end : WalkEnd V S} {mid : W} → Executes E acts w x end mid → E.begun w x ≡ false → Executes E (First E acts) w x end mid
  once_run (Executes.ends p) b = Executes.ends (b, p)
  once_run (Executes.throws v p) b = Executes.throws v (b, p)
  once_run (Executes.stops why p) b = Executes.stops why (b, p)

  pub once_start : {w : W} {x : N} {end : WalkEnd V S} {mid : W} → ExecutesAsync E acts w x end mid → E.begun w x ≡ false → ExecutesAsync E (First E acts) w x end mid
  once_start {w} {x} (ExecutesAsync.starts p) b = ExecutesAsync.starts ((L.make_body_promise w x).far.begun x ∙ b, p)
  once_start {w} {x} (ExecutesAsync.stops why p) b = ExecutesAsync.stops why ((L.make_body_promise w x).far.begun x ∙ b, p)

  once_leave : {w : W} {x : N} {end : WalkEnd V S} {mid : W} → Leaves E acts w x end mid → E.begun w x ≡ false → Leaves E (First E acts) w x end mid
  once_leave (Leaves.runs n o r) b = Leaves.runs n o (once_run r b)
  once_leave {w} {x} (Leaves.starts n o r) b = Leaves.starts n o (once_start r ((L.add_stamp w x).begun x ∙ b))
  once_leave (Leaves.waiting n) b = Leaves.waiting n

  -- what a call for the body of x changes
  pub record CallOf (w v : W) (x : N) : Type 0 where
    pub nodes : (y : N) → E.node v y ≡ E.node w y
    pub stamps : E.stamps v ≡ E.stamps w
    pub begun : (y : N) → E.begun v y ≡ true → (E.begun w y ≡ true) ⊎ (y ≡ x)

  pub run_of : {w : W} {x : N} {end : WalkEnd V S} {mid : W} → Executes E acts w x end mid → CallOf w mid x
  run_of (Executes.ends p) = let s = steady.call _ _ _ _ p in record { nodes = s.nodes; stamps = s.stamps; begun = one.call _ _ _ _ p }
  run_of (Executes.throws v p) = let s = steady.call _ _ _ _ p in record { nodes = s.nodes; stamps = s.stamps; begun = one.call _ _ _ _ p }
  run_of (Executes.stops why p) = let s = steady.call _ _ _ _ p in record { nodes = s.nodes; stamps = s.stamps; begun = one.call _ _ _ _ p }

  behind_promise : (w v : W) (x : N) → CallOf (E.make_body_promise w x) v x → CallOf w v x
  behind_promise w v x c =
      let l = L.make_body_promise w x in
      record {
        nodes = λ y. c.nodes y ∙ l.far.nodes y;
        stamps = c.stamps ∙ l.far.stamps;
        begun = λ y h. either (c.begun y h) (λ k. inl (sym (l.far.begun y) ∙ k)) inr;
      }

  pub start_of : {w : W} {x : N} {end : WalkEnd V S} {mid : W} → ExecutesAsync E acts w x end mid → CallOf w mid x
  start_of {w} {x} {mid = mid} (ExecutesAsync.starts p) = let s = steady.call _ _ _ _ p in behind_promise w mid x (record { nodes = s.nodes; stamps = s.stamps; begun = one.call _ _ _ _ p })
  start_of {w} {x} {mid = mid} (ExecutesAsync.stops why p) = let s = steady.call _ _ _ _ p in behind_promise w mid x (record { nodes = s.nodes; stamps = s.stamps; begun = one.call _ _ _ _ p })

  left_stamp : (w : W) (x : N) → is_stamped E w x ≡ false → EachOnce E.same (E.stamps w) → LeftBy E L w (E.add_stamp w x) x
  left_stamp w x u d =
      let s = L.add_stamp w x in
      record {
        nodes = s.nodes;
        begun = λ y h. inl (sym (s.begun y) ∙ h);
        stamped = λ y h. either (lists.in_split E.same L.names.own L.names.equal (E.stamps w) (x ∷ []) y (subst (λ xs. is_in E.same xs y ≡ true) s.stamps h)) inl (λ k. either (in_cons E.same L.names.own L.names.equal x [] y k) inr (λ z. cc));
        distinct = subst (λ xs. EachOnce E.same xs) (sym s.stamps) (snoc_distinct E L (E.stamps w) x u d);
      }

  left_call : (w v : W) (x : N) → CallOf w v x → EachOnce E.same (E.stamps w) → LeftBy E L w v x
  left_call w v x c d = record {
    nodes = c.nodes;
    begun = c.begun;
    stamped = λ y h. inl (sym (stamped_quiet E L w v c.stamps y) ∙ h);
    distinct = subst (λ xs. EachOnce E.same xs) (sym c.stamps) d;
  }

  left_on : (u v w : W) (x : N) → LeftBy E L u v x → LeftBy E L v w x → LeftBy E L u w x
  left_on u v w x k l = record {
    nodes = λ y. l.nodes y ∙ k.nodes y;
    begun = λ y h. either (l.begun y h) (k.begun y) inr;
    stamped = λ y h. either (l.stamped y h) (k.stamped y) inr;
    distinct = l.distinct;
  }

  left_by : {w : W} {x : N} {end : WalkEnd V S} {mid : W} → Leaves E acts w x end mid → is_stamped E w x ≡ false → EachOnce E.same (E.stamps w) → LeftBy E L w mid x
  left_by {w} {x} {mid = mid} (Leaves.runs n o r) u d = left_call w mid x (run_of r) d
  left_by {w} {x} {mid = mid} (Leaves.starts n o r) u d =
      let s = left_stamp w x u d in
      left_on w (E.add_stamp w x) mid x s (left_call (E.add_stamp w x) mid x (start_of r) s.distinct)
  left_by {w} {x} (Leaves.waiting n) u d = left_stamp w x u d

  abbrev KeptCalm : WalkEnd V S → W → Type 0
  KeptCalm Ends after = Calm E L after []
  KeptCalm (Throws v) after = Calm E L after []
  KeptCalm (Stops why) after = Unit {0}

  module _ (to : N → List N) where
    abbrev Fit : List N → List (Mark N) → Type 0
    Fit = Fits E.same L.names.own L.names.equal to

    abbrev Path : List N → List (Mark N) → Type 0
    Path = Paths E.same L.names.own L.names.equal to

    begins : (w : W) (seen : List N) (x : N) → Known E acts L steady w seen → is_in E.same seen x ≡ true → was_entered (phase E w x) ≡ true
    begins w seen x k h = sym (k x) ∙ h

    record Left (w mid : W) (x : N) (opened rest seen : List N) : Type 0 where
      unbegun : E.begun w x ≡ false
      calm : Calm E L mid rest

    leaves : {w mid : W} {x : N} {end : WalkEnd V S} (opened path rest seen : List N) → Leaves E acts w x end mid → path ≡ x ∷ rest → is_in E.same rest x ≡ false → was_entered (phase E w x) ≡ true → Calm E L w path → Left w mid x opened rest seen
    leaves {w} {mid} {x} opened path rest seen l e out b c =
        let c' : Calm E L w (x ∷ rest) = subst (λ p. Calm E L w p) e c in
        let s = c'.still x (in_first E.same L.names.own L.names.equal x rest) in
        record { unbegun = s.0; calm = calm_left E L w mid x rest b out (left_by l s.1 c'.distinct) c' }

    marks_once : {w : W} {opened : List N} {ms : List (Mark N)} {end : WalkEnd V S} {after : W} (seen path : List N) → Marks E acts to w opened ms end after → Fit seen ms → Path path ms → Known E acts L steady w seen → Amid E w opened → Calm E L w path
        → Marks E (First E acts) to w opened ms end after × KeptCalm end after
    marks_once {w} seen path done f ps k a c = (done, calm_drop E L w path c)
    marks_once {w} {opened} seen path (enters {x = x} p) f ps k a c =
        let new : phase E w x ≡ NotEntered = not_entered (phase E w x) (sym (k x) ∙ f.0) in
        let r = marks_once (x ∷ seen) (x ∷ path) p f.1 ps (known_enter E acts L steady w seen x k) (amid_enter E L w opened x new a) (calm_enter E L w path x new c) in
        (enters r.0, r.1)
    marks_once {w} {opened} seen path (passes {x = x} {t = t} s n p) f ps k a c =
        let v : W = add_wait E w x (wait_on E w t) in
        let q = amid_pass E L w opened x t (begins w seen x k f.0) a in
        let r = marks_once seen path p f.1 ps (known_step E acts L steady w v seen q.1 k) q.0 (calm_on E L w v path (quiet_wait E L w x (wait_on E w t)) (back_of E L w v q.1) c) in
        (passes s n r.0, r.1)
    marks_once {w} {opened} seen path (pass_throws v s n) f ps k a c = (pass_throws v s n, calm_fail E L w v opened path c)
    marks_once {w} {opened} seen path (stays {mid = mid} {x = x} l d p) f ps k a c =
        let b = begins w seen x k f.0 in
        let left = leaves opened path ps.0 seen l ps.1 ps.2 b c in
        let q = leave_step E acts L steady opened l b a in
        let r = marks_once seen ps.0 p f.1 ps.3 (known_step E acts L steady w mid seen q.known k) q.amid left.calm in
        (stays (once_leave l left.unbegun) d r.0, r.1)
    marks_once {w} {opened} seen path (component {mid = mid} {x = x} l d p) f ps k a c =
        let b = begins w seen x k f.0 in
        let left = leaves opened path ps.0 seen l ps.1 ps.2 b c in
        let q = leave_step E acts L steady opened l b a in
        let v : W = close E mid x (opened_from E.same opened x) in
        let r = marks_once seen ps.0 p f.1 ps.3 (known_step E acts L steady mid v seen (close_known E L mid opened x q.amid) (known_step E acts L steady w mid seen q.known k)) (amid_close E L mid opened x q.amid) (calm_close E L mid opened x ps.0 q.amid left.calm) in
        (component (once_leave l left.unbegun) d r.0, r.1)
    marks_once {w} {opened} seen path (leave_throws {mid = mid} {x = x} v l) f ps k a c =
        let left = leaves opened path ps.0 seen l ps.1 ps.2 (begins w seen x k f.0) c in
        (leave_throws v (once_leave l left.unbegun), calm_fail E L mid v opened ps.0 left.calm)
    marks_once {w} {opened} seen path (leave_stops {x = x} why l) f ps k a c =
        let left = leaves opened path ps.0 seen l ps.1 ps.2 (begins w seen x k f.0) c in
        (leave_stops why (once_leave l left.unbegun), tt)

  calm_of : (w : W) → HaveBegunOnce E w → Calm E L w []
  calm_of w u = record { unbegun = u.unbegun; unstamped = u.between.unstamped; still = λ y h. cc; distinct = u.distinct }

  calm_alike : (w v : W) → IsAlike E w v → Calm E L w [] → Calm E L v []
  calm_alike w v l c = calm_on E L w v [] (quiet_alike E L w v l) (λ y h. sym (ap (λ n. n.phase) (l.far.nodes y)) ∙ h) c

  calm_keep : (w : W) (m : N) → Calm E L w [] → Calm E L (keep E w m) []
  calm_keep w m c = calm_on E L w (keep E w m) [] (quiet_on E L w (E.make_promise w) (keep E w m) (quiet_alike E L w (E.make_promise w) (L.make_promise w)) (quiet_put E L (E.make_promise w) m (record (E.node w m) { promise = Some (E.next_promise w) })))
      (λ y h. sym ((keep_like E acts L steady w m).phases y) ∙ h) c

  walks_once : {w : W} {m : N} {end : WalkEnd V S} {after : W} → Walks E acts w m (keep E w m) end after → Amid E w [] → Calm E L w [] → Walks E (First E acts) w m (keep E w m) end after × KeptCalm end after
  walks_once {w} {m} p a c =
      let to = E.targets w in
      let r = marks_once to p.closed [] p.leads (subst (λ ms. Fit to p.closed ms) (append-nil p.marks) (walk_fits E.same L.names.own L.names.equal to p.walk.1))
      (subst (λ ms. Path to [] ms) (append-nil p.marks) (walk_path E.same L.names.own L.names.equal to p.walk.1))
      (λ y. p.closed_is y ∙ sym (ap was_entered ((keep_like E acts L steady w m).phases y))) (keep_keeps E acts L steady w m a) (calm_keep w m c) in
      (record { closed = p.closed; closed_is = p.closed_is; marks = p.marks; walk = p.walk; leads = r.0 }, r.1)

  root_once : {w : W} {m : N} {a : Result ℕ S} {after : W} → EvaluatesRoot E acts w m a after → Amid E w [] → Calm E L w [] → EvaluatesRoot E (First E acts) w m a after
  root_once (EvaluatesRoot.kept p h) a c = EvaluatesRoot.kept p h
  root_once (EvaluatesRoot.thrown v h e) a c = EvaluatesRoot.thrown v h e
  root_once (EvaluatesRoot.walks h e p) a c = EvaluatesRoot.walks h e (walks_once p a c).0
  root_once (EvaluatesRoot.throws v h e p) a c = EvaluatesRoot.throws v h e (walks_once p a c).0
  root_once (EvaluatesRoot.stops why h e p) a c = EvaluatesRoot.stops why h e (walks_once p a c).0

  pub evaluates_once : (w after : W) (m : N) (a : Result ℕ S) → HaveBegunOnce E w → Evaluates E acts w m a after → Evaluates E (First E acts) w m a after
  evaluates_once w after m a u p = root_once p (of_between E w u.between) (calm_of w u)

  calm_fulfill : (w : W) (p : ℕ) (h : Phase) → Calm E L w [] → Calm E L (fulfill_by E w p h) []
  calm_fulfill w p NotEntered c = c
  calm_fulfill w p Evaluating c = c
  calm_fulfill w p EvaluatingAsync c = c
  calm_fulfill w p Evaluated c = calm_alike w (E.fulfill w p) (L.fulfill w p) c

  root_calm : {w : W} {m : N} {p : ℕ} {after : W} → EvaluatesRoot E acts w m (Ok p) after → Amid E w [] → Calm E L w [] → Calm E L after []
  root_calm (EvaluatesRoot.kept p h) a c = c
  root_calm {w} {m} (EvaluatesRoot.thrown v h e) a c = calm_alike (keep E w m) (E.reject (keep E w m) (E.next_promise w) v) (L.reject (keep E w m) (E.next_promise w) v) (calm_keep w m c)
  root_calm {w} {m} (EvaluatesRoot.walks {after = after} h e p) a c = calm_fulfill after (E.next_promise w) (phase E after m) (walks_once p a c).1
  root_calm {w} (EvaluatesRoot.throws {after = after} v h e p) a c = calm_alike after (E.reject after (E.next_promise w) v) (L.reject after (E.next_promise w) v) (walks_once p a c).1

  pub evaluates_keeps_unbegun : (w after : W) (m : N) (p : ℕ) → HaveBegunOnce E w → Evaluates E acts w m (Ok p) after → HaveBegunOnce E after
  evaluates_keeps_unbegun w after m p u h =
      let c = root_calm h (of_between E w u.between) (calm_of w u) in
      record { between = evaluates_keep E acts L steady w after m p u.between h; unbegun = c.unbegun; distinct = c.distinct }
