-- What the single writes of evaluation keep.
use Rattle.std.proofs.Common.{◌≡◌, ◌⊎◌, inl, inr, Bool, true, false, List, [], ◌∷◌, ◌++◌, Option, Some, None, refl, ap, subst, sym, ◌∙◌}
use Rattle.esm_base.specs.Lists.{is_in}
use Rattle.esm_realm.proofs.Urls.{not_both}
use Rattle.esm_realm.proofs.Lists as lists
use Rattle.esm_realm.proofs.Lists.{either}
use Rattle.esm_eval.specs.Nodes.{NotEntered, Evaluating, EvaluatingAsync, Evaluated, was_entered, Node, BodyCalls}
use Rattle.esm_eval.specs.Evaluation.{Evaluation, IsLawful, IsSteady, phase, is_stamped}
use Rattle.esm_eval.specs.Evaluate.{enter, close, closed_phase, fail, keep}
use Rattle.esm_eval.proofs.WalkKeeps as walk
use Rattle.esm_needs_laws.proofs.Shape.{young, Leads, Shut, Left, Joint, Grows, Inv, Failed, over_root_on, waits_for_on, joint_on}
use Rattle.esm_needs_laws.proofs.Moves.{Tells, Moved, KeepsLinks, KeepsMoved, FitsMoved, moved_put, moved_close, moved_fail, moved_grows, moved_base, waits_is, by_moved, closing, failing, like_inv}

pub none_is : {A : Type 0} {o : Option A} {x : A} → o ≡ None → o ≡ Some x → ⊥
none_is p q = let k = sym p ∙ q in cc

module _ {N V W S : Type 0} (E : Evaluation N V W) (acts : BodyCalls N V W S) (L : IsLawful E) (steady : IsSteady E acts) (to : N → List N) (Ended : W → N → Type 0) (tells : Tells E acts Ended) where
  abbrev Has : List N → N → Type 0
  Has xs y = is_in E.same xs y ≡ true

  abbrev Out : List N → N → Type 0
  Out xs y = is_in E.same xs y ≡ false

  abbrev To : N → N → Type 0
  To x y = Leads E.same to x y

  abbrev Mv : W → W → List N → (N → Node N V → Node N V) → Type 0
  Mv = Moved E acts L steady to Ended tells

  abbrev G : W → W → Type 0
  G = Grows E to Ended

  abbrev I : W → List N → Type 0
  I = Inv E to Ended

  abbrev root_at : W → N → Option N
  root_at w y = (E.node w y).cycle_root

  abbrev error_at : W → N → Option V
  error_at w y = (E.node w y).error

  pub one_in : (x y : N) → Has (x ∷ []) y → y ≡ x
  one_in x y h = either (lists.in_cons E.same L.names.own L.names.equal x [] y h) (λ e. e) (λ k. cc)

  pub clash : {C : Type 0} (xs : List N) (y : N) → Has xs y → Out xs y → C
  clash xs y h o = lists.clash E.same L.names.own L.names.equal xs y h o

  pub first_in : (x : N) (xs : List N) → Has (x ∷ xs) x
  first_in x xs = lists.in_first E.same L.names.own L.names.equal x xs

  pub left_in : (a b : List N) (y : N) → Has a y → Has (a ++ b) y
  left_in a b y h = lists.in_left E.same L.names.own L.names.equal a b y h

  pub right_in : (a b : List N) (y : N) → Has b y → Has (a ++ b) y
  right_in a b y h = lists.in_right E.same L.names.own L.names.equal a b y h

  pub split_in : (a b : List N) (y : N) → Has (a ++ b) y → Has a y ⊎ Has b y
  split_in a b y h = lists.in_split E.same L.names.own L.names.equal a b y h

  -- what stands at one of the changed modules
  here : {w v : W} {ms : List N} {f : N → Node N V → Node N V} → Mv w v ms f → (y : N) → Has ms y → E.node v y ≡ f y (E.node w y)
  here {ms = ms} m y h = either (m.nodes y) (λ q. q.1) (λ q. clash ms y h q.0)

  failed_kept : {w v : W} {ms : List N} {f : N → Node N V → Node N V} (m : Mv w v ms f) (links : KeepsLinks E acts L steady to Ended tells f) → ((y : N) → error_at v y ≡ error_at w y) → ((y : N) → Has ms y → phase E w y ≡ Evaluated → phase E v y ≡ Evaluated) → Failed E to Ended w → Failed E to Ended v
  failed_kept m links errors phases q x y u h k =
      let e = q x y u (subst (λ zs. Has zs y) (waits_is E acts L steady to Ended tells m links x) h) (sym (errors y) ∙ k) in
      by_moved E acts L steady to Ended tells m links x (λ i. phases x i e) (λ n. ap (λ n. n.phase) n ∙ e)

  -- ---- a module is entered

  abbrev entering : N → Node N V → Node N V
  entering y n = record n { phase = Evaluating }

  module _ (w : W) (opened : List N) (x : N) (fresh : phase E w x ≡ NotEntered) (i : I w opened) where
    enter_moved : Mv w (enter E w x) (x ∷ []) entering
    enter_moved = moved_put E acts L steady to Ended tells w x entering

    enter_links : KeepsLinks E acts L steady to Ended tells entering
    enter_links y n = (refl, refl)

    was_new : (y : N) → Has (x ∷ []) y → phase E w y ≡ NotEntered
    was_new y h = subst (λ z. phase E w z ≡ NotEntered) (sym (one_in x y h)) fresh

    had_no_root : (y : N) → Has (x ∷ []) y → root_at w y ≡ None
    had_no_root y h = i.base.unrooted y (ap young (was_new y h))

    is_open : (y : N) → Has (x ∷ []) y → phase E (enter E w x) y ≡ Evaluating
    is_open y h = ap (λ n. n.phase) (here enter_moved y h)

    enter_keeps : KeepsMoved E acts L steady to Ended tells enter_moved enter_links
    enter_keeps = record {
      over = λ y h o. let a = was_new y h in let b = o.phase_is in absurd cc;
      roots = λ y r h e. absurd (none_is (had_no_root y h) e);
    }

    pub enter_grows : G w (enter E w x)
    enter_grows = moved_grows E acts L steady to Ended tells enter_moved enter_links enter_keeps

    enter_fits : FitsMoved E acts L steady to Ended tells enter_moved enter_links enter_keeps opened (opened ++ x ∷ [])
    enter_fits = record {
      still = λ y o h. left_in opened (x ∷ []) y h;
      open_is = λ y h e. right_in opened (x ∷ []) y h;
      opens = λ y h. either (split_in opened (x ∷ []) y h) (λ k. by_moved E acts L steady to Ended tells enter_moved enter_links y (is_open y) (λ e. ap (λ n. n.phase) e ∙ i.base.opens y k)) (is_open y);
      entered = λ y h e. let a = is_open y h in cc;
      stamped = λ y h e. let a = is_open y h in absurd cc;
      unrooted = λ y h e. ap (λ n. n.cycle_root) (here enter_moved y h) ∙ had_no_root y h;
      rooted = λ y h e. let a = is_open y h in absurd (either e (λ p. cc) (λ o. let b = o.phase_is in cc));
      shut = λ y r h e. absurd (none_is (ap (λ n. n.cycle_root) (here enter_moved y h) ∙ had_no_root y h) e);
      done = λ y h e. let a = i.base.done y (sym (ap (λ n. n.done) (here enter_moved y h)) ∙ e) in let b = was_new y h in absurd cc;
      ended = λ y h o. let a = is_open y h in let b = o.phase_is in absurd cc;
      open_waits = λ a b h k. either (split_in opened (x ∷ []) b k) (λ q. let r = i.base.open_waits a b h q in (left_in opened (x ∷ []) a r.0, r.1)) (λ q. absurd (not_both (is_stamped E w b) (i.base.stamped_waits a b h) (i.base.unstamped b (was_new b q))));
    }

    pub enter_inv : I (enter E w x) (opened ++ x ∷ [])
    enter_inv = record {
      base = moved_base E acts L steady to Ended tells enter_moved enter_links enter_keeps opened (opened ++ x ∷ []) enter_fits i.base;
      failed = failed_kept enter_moved enter_links (λ y. by_moved E acts L steady to Ended tells enter_moved enter_links y (λ h. ap (λ n. n.error) (here enter_moved y h)) (λ e. ap (λ n. n.error) e)) (λ y h e. let a = was_new y h in absurd cc) i.failed;
    }

  -- ---- a component closes

  no_evaluating : (b : Bool) → closed_phase E b ≡ Evaluating → ⊥
  no_evaluating true h = cc
  no_evaluating false h = cc

  not_new : (b : Bool) → closed_phase E b ≡ NotEntered → ⊥
  not_new true h = cc
  not_new false h = cc

  not_young : (b : Bool) → young (closed_phase E b) ≡ true → ⊥
  not_young true h = cc
  not_young false h = cc

  only_async : (b : Bool) → closed_phase E b ≡ EvaluatingAsync → b ≡ true
  only_async true h = refl
  only_async false h = cc

  only_over : (b : Bool) → closed_phase E b ≡ Evaluated → b ≡ false
  only_over true h = cc
  only_over false h = refl

  module _ (w : W) (opened members : List N) (x : N) where
    abbrev whole : List N
    whole = opened ++ x ∷ members

    abbrev mine : List N
    mine = x ∷ members

    abbrev closed : W
    closed = close E w x (x ∷ members)

    -- what is so of the members where they close
    pub record Closing : Type 0 where
      pub out : (y : N) → Has mine y → Out opened y
      pub apart : (m t : N) → Has mine m → Has (to m) t → Out opened t
      pub there : (m : N) → Has mine m → To m x
      pub back : (m : N) → Has mine m → To x m
      pub left : (m : N) → Has mine m → Left E to Ended w whole m
      pub joint : (m : N) → Has mine m → Joint E to Ended w x m

    module _ (c : Closing) (i : I w whole) where
      abbrev shutting : N → Node N V → Node N V
      shutting = closing E acts L steady to Ended tells w x

      close_moved : Mv w closed mine shutting
      close_moved = moved_close E acts L steady to Ended tells x mine w

      close_links : KeepsLinks E acts L steady to Ended tells shutting
      close_links y n = (refl, refl)

      was_open : (y : N) → Has mine y → phase E w y ≡ Evaluating
      was_open y h = i.base.opens y (right_in opened mine y h)

      was_rootless : (y : N) → Has mine y → root_at w y ≡ None
      was_rootless y h = i.base.unrooted y (ap young (was_open y h))

      new_phase : (y : N) → Has mine y → phase E closed y ≡ closed_phase E (is_stamped E w y)
      new_phase y h = ap (λ n. n.phase) (here close_moved y h)

      new_root : (y : N) → Has mine y → root_at closed y ≡ Some x
      new_root y h = ap (λ n. n.cycle_root) (here close_moved y h)

      close_keeps : KeepsMoved E acts L steady to Ended tells close_moved close_links
      close_keeps = record {
        over = λ y h o. let a = was_open y h in let b = o.phase_is in absurd cc;
        roots = λ y r h e. absurd (none_is (was_rootless y h) e);
      }

      pub close_grows : G w closed
      close_grows = moved_grows E acts L steady to Ended tells close_moved close_links close_keeps

      shut_at : (y : N) → Has mine y → Shut E to Ended closed y x
      shut_at y h = record {
        own = new_root x (first_in x members);
        there = c.there y h;
        back = c.back y h;
        met = λ t k. either ((c.left y h).met t k)
            (λ q. inl (new_root t (either (split_in opened mine t q.0) (λ z. clash opened t z (c.apart y t h k)) (λ z. z))))
            (λ q. inr (either q (λ o. inl (over_root_on E to Ended close_grows o)) (λ f. inr (waits_for_on E to Ended close_grows f))));
        joint = joint_on E to Ended close_grows (c.joint y h);
      }

      close_fits : FitsMoved E acts L steady to Ended tells close_moved close_links close_keeps whole opened
      close_fits = record {
        still = λ y o h. either (split_in opened mine y h) (λ k. k) (λ k. clash mine y k o);
        open_is = λ y h e. absurd (no_evaluating (is_stamped E w y) (sym (new_phase y h) ∙ e));
        opens = λ y h. by_moved E acts L steady to Ended tells close_moved close_links y (λ j. clash opened y h (c.out y j)) (λ e. ap (λ n. n.phase) e ∙ i.base.opens y (left_in opened mine y h));
        entered = λ y h e. not_new (is_stamped E w y) (sym (new_phase y h) ∙ e);
        stamped = λ y h e. only_async (is_stamped E w y) (sym (new_phase y h) ∙ e);
        unrooted = λ y h e. absurd (not_young (is_stamped E w y) (ap young (sym (new_phase y h)) ∙ e));
        rooted = λ y h e. (x, new_root y h);
        shut = λ y r h e. let same : x ≡ r = some_is (sym (new_root y h) ∙ e) in subst (λ z. Shut E to Ended closed y z) same (shut_at y h);
        done = λ y h e. let a = i.base.done y (sym (ap (λ n. n.done) (here close_moved y h)) ∙ e) in let b = was_open y h in absurd cc;
        ended = λ y h o. close_moved.ended y ((c.left y h).ran (only_over (is_stamped E w y) (sym (new_phase y h) ∙ o.phase_is)));
        open_waits = λ a b h k. let r = i.base.open_waits a b h (left_in opened mine b k) in (either (split_in opened mine a r.0) (λ q. q) (λ q. clash opened b k (c.apart a b q r.1)), r.1);
      }
        where
          some_is : {A : Type 0} {a b : A} → Some a ≡ Some b → a ≡ b
          some_is h = cc

      pub close_inv : I closed opened
      close_inv = record {
        base = moved_base E acts L steady to Ended tells close_moved close_links close_keeps whole opened close_fits i.base;
        failed = failed_kept close_moved close_links (λ y. by_moved E acts L steady to Ended tells close_moved close_links y (λ h. ap (λ n. n.error) (here close_moved y h)) (λ e. ap (λ n. n.error) e)) (λ y h e. let a = was_open y h in absurd cc) i.failed;
      }

      pub close_stamps : E.stamps closed ≡ E.stamps w
      close_stamps = close_moved.stamps

      pub close_begun : (y : N) → E.begun closed y ≡ E.begun w y
      close_begun = close_moved.begun

      pub close_known : (y : N) → was_entered (phase E closed y) ≡ was_entered (phase E w y)
      close_known y = by_moved E acts L steady to Ended tells close_moved close_links y (λ h. ap was_entered (new_phase y h) ∙ begins (is_stamped E w y) ∙ sym (ap was_entered (was_open y h))) (λ e. ap (λ n. was_entered n.phase) e)
        where
          begins : (b : Bool) → was_entered (closed_phase E b) ≡ true
          begins true = refl
          begins false = refl

  -- ---- the open modules get an error

  module _ (w : W) (u : V) (opened : List N) (i : I w opened) where
    abbrev failed : W
    failed = fail E w u opened

    abbrev throwing : N → Node N V → Node N V
    throwing = failing E acts L steady to Ended tells u

    fail_moved : Mv w failed opened throwing
    fail_moved = moved_fail E acts L steady to Ended tells u opened w

    fail_links : KeepsLinks E acts L steady to Ended tells throwing
    fail_links y n = (refl, refl)

    fail_over : (y : N) → Has opened y → phase E failed y ≡ Evaluated
    fail_over y h = ap (λ n. n.phase) (here fail_moved y h)

    fail_error : (y : N) → Has opened y → error_at failed y ≡ Some u
    fail_error y h = ap (λ n. n.error) (here fail_moved y h)

    fail_rootless : (y : N) → Has opened y → root_at failed y ≡ None
    fail_rootless y h = ap (λ n. n.cycle_root) (here fail_moved y h) ∙ i.base.unrooted y (ap young (i.base.opens y h))

    fail_keeps : KeepsMoved E acts L steady to Ended tells fail_moved fail_links
    fail_keeps = record {
      over = λ y h o. let a = i.base.opens y h in let b = o.phase_is in absurd cc;
      roots = λ y r h e. absurd (none_is (i.base.unrooted y (ap young (i.base.opens y h))) e);
    }

    fail_fits : FitsMoved E acts L steady to Ended tells fail_moved fail_links fail_keeps opened []
    fail_fits = record {
      still = λ y o h. clash opened y h o;
      open_is = λ y h e. let a = fail_over y h in absurd cc;
      opens = λ y h. cc;
      entered = λ y h e. let a = fail_over y h in cc;
      stamped = λ y h e. let a = fail_over y h in absurd cc;
      unrooted = λ y h e. fail_rootless y h;
      rooted = λ y h e. absurd (either e (λ p. let a = fail_over y h in cc) (λ o. none_is o.clean (fail_error y h)));
      shut = λ y r h e. absurd (none_is (fail_rootless y h) e);
      done = λ y h e. fail_over y h;
      ended = λ y h o. absurd (none_is o.clean (fail_error y h));
      open_waits = λ a b h k. cc;
    }

    fail_phase : (y : N) → phase E w y ≡ Evaluated → phase E failed y ≡ Evaluated
    fail_phase y e = by_moved E acts L steady to Ended tells fail_moved fail_links y (fail_over y) (λ n. ap (λ n. n.phase) n ∙ e)

    pub fail_inv : I failed []
    fail_inv = record {
      base = moved_base E acts L steady to Ended tells fail_moved fail_links fail_keeps opened [] fail_fits i.base;
      failed = λ a b v h k.
          let o = subst (λ zs. Has zs b) (waits_is E acts L steady to Ended tells fail_moved fail_links a) h in
          either (fail_moved.nodes b) (λ q. fail_over a (i.base.open_waits a b o q.0).0) (λ q. fail_phase a (i.failed a b v o (sym (ap (λ n. n.error) q.1) ∙ k)));
    }

  -- ---- a module keeps a new promise

  pub keep_phase : (w : W) (m y : N) → phase E (keep E w m) y ≡ phase E w y
  keep_phase w m y = (walk.keep_like E acts L steady w m).phases y

  pub keep_inv : (w : W) (m : N) → I w [] → I (keep E w m) []
  keep_inv w m i =
      let n : Node N V = record (E.node w m) { promise = Some (E.next_promise w) } in
      let a = (L.make_promise w).far in
      let p = L.put (E.make_promise w) m n in
      let begun : (y : N) → E.begun (keep E w m) y ≡ E.begun w y = λ y. p.begun y ∙ a.begun y in
      like_inv E acts L steady to Ended tells w (keep E w m) (walk.keep_like E acts L steady w m) (p.stamps ∙ a.stamps) (λ y h. tells.put (E.make_promise w) m n y (tells.make w y h)) []
      (λ x y h k. i.base.begun_waits x y (sym (begun x) ∙ h) k) (λ y h. begun y ∙ i.base.unbegun y h) i
