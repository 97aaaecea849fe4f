-- What each write of evaluation keeps amid a walk.
use Rattle.std.proofs.Common.{◌≡◌, Bool, true, false, List, [], ◌∷◌, ◌++◌, Option, Some, None, refl, ap, subst, sym, ◌∙◌, inl, inr}
use Rattle.std.specs.Prelude.{◌⊎◌, if◌then◌else◌}
use Rattle.std.specs.Option.{unwrap_or}
use Rattle.std.proofs.lemmas.List.{append-nil}
use Rattle.esm_base.specs.Lists.{is_in}
use Rattle.esm_realm.specs.Components.{opened_before, opened_from}
use Rattle.esm_realm.proofs.Urls.{cases, not_both}
use Rattle.esm_realm.proofs.Lists as lists
use Rattle.esm_realm.proofs.Lists.{either}
use Rattle.esm_eval.specs.Nodes.{Phase, NotEntered, Evaluating, EvaluatingAsync, Evaluated, was_entered, Node}
use Rattle.esm_eval.specs.Evaluation.{Evaluation, IsLawful, phase, waits, waiters, is_done, is_stamped, root_of, put_wait, put_waiter, add_wait, wait_on, wait_by}
use Rattle.esm_eval.specs.Evaluate.{enter, closed_phase, close, fail}
use Rattle.esm_eval.specs.Waiting.{HasOpenWait}
use Rattle.esm_eval.proofs.Amid.{In, Amid, IsLike, HasGrown, HasWait, root_error, in_like, some_is}

module _ {N V W : Type 0} (E : Evaluation N V W) (L : IsLawful E) where
  -- what stands at y after a put at x
  pub put_at : (w : W) (x : N) (n : Node N V) (y : N) → ((y ≡ x) × (E.node (E.put w x n) y ≡ n)) ⊎ ((E.same y x ≡ false) × (E.node (E.put w x n) y ≡ E.node w y))
  put_at w x n y = by (cases (E.same y x)) (cases (E.same x y))
    where
      by : (E.same y x ≡ true) ⊎ (E.same y x ≡ false) → (E.same x y ≡ true) ⊎ (E.same x y ≡ false) → ((y ≡ x) × (E.node (E.put w x n) y ≡ n)) ⊎ ((E.same y x ≡ false) × (E.node (E.put w x n) y ≡ E.node w y))
      by (inl h) q = let e : y ≡ x = L.names.equal y x h in inl (e, (L.put w x n).node y ∙ ap (λ b. if b then n else E.node w y) (subst (λ z. E.same x z ≡ true) (sym e) (L.names.own x)))
      by (inr h) (inl k) = let e : x ≡ y = L.names.equal x y k in absurd (not_both (E.same y x) (subst (λ z. E.same z x ≡ true) e (L.names.own x)) h)
      by (inr h) (inr k) = inr (h, (L.put w x n).node y ∙ ap (λ b. if b then n else E.node w y) k)

  pub same_field : {A : Type 0} (f : Node N V → A) (w : W) (x : N) (n : Node N V) → f n ≡ f (E.node w x) → (y : N) → f (E.node (E.put w x n) y) ≡ f (E.node w y)
  same_field f w x n e y = by (put_at w x n y)
    where
      by : ((y ≡ x) × (E.node (E.put w x n) y ≡ n)) ⊎ ((E.same y x ≡ false) × (E.node (E.put w x n) y ≡ E.node w y)) → f (E.node (E.put w x n) y) ≡ f (E.node w y)
      by (inl h) = ap f h.1 ∙ e ∙ ap (λ z. f (E.node w z)) (sym h.0)
      by (inr h) = ap f h.1

  pub put_stamped : (w : W) (x : N) (n : Node N V) (y : N) → is_stamped E (E.put w x n) y ≡ is_stamped E w y
  put_stamped w x n y = ap (λ xs. is_in E.same xs y) (L.put w x n).stamps

  pub put_grown : (w : W) (x : N) (n : Node N V) → HasGrown E w (E.put w x n)
  put_grown w x n = record { stamps = (L.put w x n).stamps; begun = λ y h. (L.put w x n).begun y ∙ h }

  -- a node at x of which evaluation reads nothing new
  pub put_like : (w : W) (x : N) (n : Node N V) → n.phase ≡ phase E w x → n.error ≡ (E.node w x).error → n.cycle_root ≡ (E.node w x).cycle_root → n.done ≡ is_done E w x → n.waits ≡ waits E w x → n.waiters ≡ waiters E w x → IsLike E w (E.put w x n)
  put_like w x n p e r d ws us = record {
    phases = same_field (λ m. m.phase) w x n p;
    errors = same_field (λ m. m.error) w x n e;
    roots = same_field (λ m. m.cycle_root) w x n r;
    dones = same_field (λ m. m.done) w x n d;
    all_waits = same_field (λ m. m.waits) w x n ws;
    all_waiters = same_field (λ m. m.waiters) w x n us;
  }

  -- a put that leaves waits, waiters and whether it is done, with another phase at x
  module _ (w : W) (x : N) (n : Node N V) (d : n.done ≡ is_done E w x) (ws : n.waits ≡ waits E w x) (us : n.waiters ≡ waiters E w x) where
    abbrev after : W
    after = E.put w x n

    dones : (y : N) → is_done E after y ≡ is_done E w y
    dones = same_field (λ m. m.done) w x n d

    all_waits : (y : N) → waits E after y ≡ waits E w y
    all_waits = same_field (λ m. m.waits) w x n ws

    all_waiters : (y : N) → waiters E after y ≡ waiters E w y
    all_waiters = same_field (λ m. m.waiters) w x n us

    begun_back : (y : N) → E.begun after y ≡ false → E.begun w y ≡ false
    begun_back y h = sym ((L.put w x n).begun y) ∙ h

    open_wait : (y : N) → HasOpenWait E w y → HasOpenWait E after y
    open_wait y h = (h.0, in_like E _ (sym (all_waits y)) h.1, dones h.0 ∙ h.2)

    shut_on : (y z : N) → (In E (waits E w y) z → is_done E w z ≡ false) → In E (waits E after y) z → is_done E after z ≡ false
    shut_on y z h k = dones z ∙ h (in_like E _ (all_waits y) k)

    moves_on : (y : N) → (E.begun w y ≡ true) ⊎ HasWait E w y → (E.begun after y ≡ true) ⊎ HasWait E after y
    moves_on y (inl b) = inl ((L.put w x n).begun y ∙ b)
    moves_on y (inr h) = inr (h.0, in_like E _ (sym (all_waits y)) h.1)

    joined_on : ((y z : N) → In E (waits E w y) z → In E (waiters E w z) y) → (y z : N) → In E (waits E after y) z → In E (waiters E after z) y
    joined_on j y z h = in_like E _ (sym (all_waiters z)) (j y z (in_like E _ (all_waits y) h))

    -- where only another module's phase changed
    same_phase : (y : N) → E.node after y ≡ E.node w y → phase E after y ≡ phase E w y
    same_phase y e = ap (λ m. m.phase) e

  pub amid_enter : (w : W) (opened : List N) (x : N) → phase E w x ≡ NotEntered → Amid E w opened → Amid E (enter E w x) (opened ++ x ∷ [])
  amid_enter w opened x fresh a = record {
    open_is = λ y h. either (at y) (λ q. subst (λ z. In E (opened ++ x ∷ []) z) (sym q.0) last) (λ q. lists.in_left E.same L.names.own L.names.equal opened (x ∷ []) y (a.open_is y (sym (ap (λ m. m.phase) q.1) ∙ h)));
    entered = λ y h. either (at y) (λ q. ap (λ m. was_entered m.phase) q.1) (λ q. ap (λ m. was_entered m.phase) q.1 ∙ either (was y h) (a.entered y) (λ e. absurd (not_both (E.same y x) (subst (λ z. E.same z x ≡ true) (sym e) (L.names.own x)) q.0)));
    unstamped = λ y h. put_stamped w x n y ∙ a.unstamped y (still y h);
    new = λ y h. dones w x n refl refl refl y ∙ a.new y (still y h);
    free = λ y h. all_waits w x n refl refl refl y ∙ a.free y (still y h);
    undone = λ y h. dones w x n refl refl refl y ∙ either (at y) (λ q. subst (λ z. is_done E w z ≡ false) (sym q.0) (a.new x fresh)) (λ q. a.undone y (sym (ap (λ m. m.phase) q.1) ∙ h));
    shut = λ y z h. shut_on w x n refl refl refl y z (λ k. either (was y h) (λ i. a.shut y z i k) (λ e. none y z e k));
    moves = λ y h k. let s : is_stamped E w y ≡ true = sym (put_stamped w x n y) ∙ k in moves_on w x n refl refl refl y (either (was y h) (λ i. a.moves y i s) (λ e. absurd (not_both (is_stamped E w y) s (subst (λ z. is_stamped E w z ≡ false) (sym e) (a.unstamped x fresh)))));
    stamped = λ y h. put_stamped w x n y ∙ a.stamped y (async y h);
    joined = joined_on w x n refl refl refl a.joined;
    waiting = λ y h b e. open_wait w x n refl refl refl y (a.waiting y (async y h) (begun_back w x n refl refl refl y b) (sym (error y) ∙ e));
  }
    where
      n : Node N V
      n = record (E.node w x) { phase = Evaluating }

      at : (y : N) → ((y ≡ x) × (E.node (E.put w x n) y ≡ n)) ⊎ ((E.same y x ≡ false) × (E.node (E.put w x n) y ≡ E.node w y))
      at y = put_at w x n y

      last : In E (opened ++ x ∷ []) x
      last = lists.in_right E.same L.names.own L.names.equal opened (x ∷ []) x (lists.in_first E.same L.names.own L.names.equal x [])

      was : (y : N) → In E (opened ++ x ∷ []) y → In E opened y ⊎ (y ≡ x)
      was y h = either (lists.in_split E.same L.names.own L.names.equal opened (x ∷ []) y h) inl (λ q. either (lists.in_cons E.same L.names.own L.names.equal x [] y q) inr (λ z. cc))

      still : (y : N) → phase E (E.put w x n) y ≡ NotEntered → phase E w y ≡ NotEntered
      still y h = either (at y) (λ q. let e = sym (ap (λ m. m.phase) q.1) ∙ h in cc) (λ q. sym (ap (λ m. m.phase) q.1) ∙ h)

      async : (y : N) → phase E (E.put w x n) y ≡ EvaluatingAsync → phase E w y ≡ EvaluatingAsync
      async y h = either (at y) (λ q. let e = sym (ap (λ m. m.phase) q.1) ∙ h in cc) (λ q. sym (ap (λ m. m.phase) q.1) ∙ h)

      none : (y z : N) → y ≡ x → In E (waits E w y) z → is_done E w z ≡ false
      none y z e k = let empty : In E [] z = subst (λ zs. In E zs z) (a.free x fresh) (subst (λ v. In E (waits E w v) z) e k) in cc

      error : (y : N) → root_error E (E.put w x n) y ≡ root_error E w y
      error y = same_field (λ m. m.error) w x n refl (root_of E (E.put w x n) y) ∙ ap (λ r. (E.node w (unwrap_or r y)).error) (same_field (λ m. m.cycle_root) w x n refl y)

  -- one module of the stack is closed
  close_one : (w : W) (bs ys : List N) (x y : N) → Amid E w (bs ++ y ∷ ys) → Amid E (E.put w y (record (E.node w y) { phase = closed_phase E (is_stamped E w y); cycle_root = Some x })) (bs ++ ys)
  close_one w bs ys x y a = record {
    open_is = λ z h. either (at z) (λ q. absurd (no_evaluating (is_stamped E w y) (sym (ap (λ m. m.phase) q.1) ∙ h))) (λ q. less z q.0 (a.open_is z (sym (ap (λ m. m.phase) q.1) ∙ h)));
    entered = λ z h. either (at z) (λ q. ap (λ m. was_entered m.phase) q.1 ∙ begins (is_stamped E w y)) (λ q. ap (λ m. was_entered m.phase) q.1 ∙ a.entered z (more z h));
    unstamped = λ z h. put_stamped w y n z ∙ a.unstamped z (still z h);
    new = λ z h. dones w y n refl refl refl z ∙ a.new z (still z h);
    free = λ z h. all_waits w y n refl refl refl z ∙ a.free z (still z h);
    undone = λ z h. dones w y n refl refl refl z ∙ either (at z) (λ q. absurd (no_evaluating (is_stamped E w y) (sym (ap (λ m. m.phase) q.1) ∙ h))) (λ q. a.undone z (sym (ap (λ m. m.phase) q.1) ∙ h));
    shut = λ z u h. shut_on w y n refl refl refl z u (a.shut z u (more z h));
    moves = λ z h k. moves_on w y n refl refl refl z (a.moves z (more z h) (sym (put_stamped w y n z) ∙ k));
    stamped = λ z h. put_stamped w y n z ∙ either (at z) (λ q. subst (λ u. is_stamped E w u ≡ true) (sym q.0) (only_async (is_stamped E w y) (sym (ap (λ m. m.phase) q.1) ∙ h))) (λ q. a.stamped z (sym (ap (λ m. m.phase) q.1) ∙ h));
    joined = joined_on w y n refl refl refl a.joined;
    waiting = λ z h b e. either (at z) (λ q. subst (λ u. HasOpenWait E (E.put w y n) u) (sym q.0) (mine (subst (λ u. E.begun (E.put w y n) u ≡ false) q.0 b) (only_async (is_stamped E w y) (sym (ap (λ m. m.phase) q.1) ∙ h))))
        (λ q. open_wait w y n refl refl refl z (a.waiting z (sym (ap (λ m. m.phase) q.1) ∙ h) (begun_back w y n refl refl refl z b) (sym (error z q.1) ∙ e)));
  }
    where
      n : Node N V
      n = record (E.node w y) { phase = closed_phase E (is_stamped E w y); cycle_root = Some x }

      at : (z : N) → ((z ≡ y) × (E.node (E.put w y n) z ≡ n)) ⊎ ((E.same z y ≡ false) × (E.node (E.put w y n) z ≡ E.node w z))
      at z = put_at w y n z

      no_evaluating : (b : Bool) → closed_phase E b ≡ Evaluating → ⊥
      no_evaluating true h = cc
      no_evaluating false h = cc

      not_new : (b : Bool) → closed_phase E b ≡ NotEntered → ⊥
      not_new true h = cc
      not_new false h = cc

      begins : (b : Bool) → was_entered (closed_phase E b) ≡ true
      begins true = refl
      begins false = refl

      only_async : (b : Bool) → closed_phase E b ≡ EvaluatingAsync → b ≡ true
      only_async true h = refl
      only_async false h = cc

      more : (z : N) → In E (bs ++ ys) z → In E (bs ++ y ∷ ys) z
      more z h = either (lists.in_split E.same L.names.own L.names.equal bs ys z h) (lists.in_left E.same L.names.own L.names.equal bs (y ∷ ys) z) (λ k. lists.in_right E.same L.names.own L.names.equal bs (y ∷ ys) z (lists.in_later E.same L.names.own L.names.equal y ys z k))

      less : (z : N) → E.same z y ≡ false → In E (bs ++ y ∷ ys) z → In E (bs ++ ys) z
      less z o h = either (lists.in_split E.same L.names.own L.names.equal bs (y ∷ ys) z h) (lists.in_left E.same L.names.own L.names.equal bs ys z)
          (λ k. either (lists.in_cons E.same L.names.own L.names.equal y ys z k) (λ e. absurd (not_both (E.same z y) (subst (λ u. E.same u y ≡ true) (sym e) (L.names.own y)) o)) (lists.in_right E.same L.names.own L.names.equal bs ys z))

      here : In E (bs ++ y ∷ ys) y
      here = lists.in_right E.same L.names.own L.names.equal bs (y ∷ ys) y (lists.in_first E.same L.names.own L.names.equal y ys)

      still : (z : N) → phase E (E.put w y n) z ≡ NotEntered → phase E w z ≡ NotEntered
      still z h = either (at z) (λ q. absurd (not_new (is_stamped E w y) (sym (ap (λ m. m.phase) q.1) ∙ h))) (λ q. sym (ap (λ m. m.phase) q.1) ∙ h)

      mine : E.begun (E.put w y n) y ≡ false → is_stamped E w y ≡ true → HasOpenWait E (E.put w y n) y
      mine b s = either (a.moves y here s) (λ k. absurd (not_both (E.begun w y) k (begun_back w y n refl refl refl y b))) (λ k. open_wait w y n refl refl refl y (k.0, k.1, a.shut y k.0 here k.1))

      error : (z : N) → E.node (E.put w y n) z ≡ E.node w z → root_error E (E.put w y n) z ≡ root_error E w z
      error z e = same_field (λ m. m.error) w y n refl (root_of E (E.put w y n) z) ∙ ap (λ m. (E.node w (unwrap_or m.cycle_root z)).error) e

  close_all : (bs : List N) (x : N) (ys : List N) (w : W) → Amid E w (bs ++ ys) → Amid E (close E w x ys) (bs ++ [])
  close_all bs x [] w a = a
  close_all bs x (y ∷ ys) w a = close_all bs x ys (E.put w y (record (E.node w y) { phase = closed_phase E (is_stamped E w y); cycle_root = Some x })) (close_one w bs ys x y a)

  close_entered : (x : N) (ys : List N) (w : W) (z : N) → was_entered (phase E w z) ≡ true → was_entered (phase E (close E w x ys) z) ≡ true
  close_entered x [] w z h = h
  close_entered x (y ∷ ys) w z h = close_entered x ys (E.put w y n) z (either (put_at w y n z) (λ q. ap (λ m. was_entered m.phase) q.1 ∙ begins (is_stamped E w y)) (λ q. ap (λ m. was_entered m.phase) q.1 ∙ h))
    where
      n : Node N V
      n = record (E.node w y) { phase = closed_phase E (is_stamped E w y); cycle_root = Some x }

      begins : (b : Bool) → was_entered (closed_phase E b) ≡ true
      begins true = refl
      begins false = refl

  close_back : (x : N) (ys : List N) (w : W) (z : N) → ((y : N) → In E ys y → was_entered (phase E w y) ≡ true) → was_entered (phase E w z) ≡ false → was_entered (phase E (close E w x ys) z) ≡ false
  close_back x [] w z i h = h
  close_back x (y ∷ ys) w z i h = close_back x ys (E.put w y n) z (λ u k. begun u (i u (lists.in_later E.same L.names.own L.names.equal y ys u k)))
      (either (put_at w y n z) (λ q. absurd (not_both (was_entered (phase E w z)) (i z (subst (λ u. In E (y ∷ ys) u) (sym q.0) (lists.in_first E.same L.names.own L.names.equal y ys))) h)) (λ q. ap (λ m. was_entered m.phase) q.1 ∙ h))
    where
      n : Node N V
      n = record (E.node w y) { phase = closed_phase E (is_stamped E w y); cycle_root = Some x }

      begins : (b : Bool) → was_entered (closed_phase E b) ≡ true
      begins true = refl
      begins false = refl

      begun : (u : N) → was_entered (phase E w u) ≡ true → was_entered (phase E (E.put w y n) u) ≡ true
      begun u k = either (put_at w y n u) (λ q. ap (λ m. was_entered m.phase) q.1 ∙ begins (is_stamped E w y)) (λ q. ap (λ m. was_entered m.phase) q.1 ∙ k)

  pub amid_close : (w : W) (opened : List N) (x : N) → Amid E w opened → Amid E (close E w x (opened_from E.same opened x)) (opened_before E.same opened x)
  amid_close w opened x a = subst (λ o. Amid E (close E w x (opened_from E.same opened x)) o) (append-nil (opened_before E.same opened x))
      (close_all (opened_before E.same opened x) x (opened_from E.same opened x) w (subst (λ o. Amid E w o) (sym (lists.split_is E.same L.names.own L.names.equal opened x)) a))

  -- what has begun, and no other module, still has
  pub close_known : (w : W) (opened : List N) (x : N) → Amid E w opened → (z : N) → was_entered (phase E (close E w x (opened_from E.same opened x)) z) ≡ was_entered (phase E w z)
  close_known w opened x a z = by (cases (was_entered (phase E w z)))
    where
      inside : (y : N) → In E (opened_from E.same opened x) y → was_entered (phase E w y) ≡ true
      inside y h = a.entered y (subst (λ o. In E o y) (lists.split_is E.same L.names.own L.names.equal opened x) (lists.in_right E.same L.names.own L.names.equal (opened_before E.same opened x) (opened_from E.same opened x) y h))

      by : (was_entered (phase E w z) ≡ true) ⊎ (was_entered (phase E w z) ≡ false) → was_entered (phase E (close E w x (opened_from E.same opened x)) z) ≡ was_entered (phase E w z)
      by (inl h) = close_entered x (opened_from E.same opened x) w z h ∙ sym h
      by (inr h) = close_back x (opened_from E.same opened x) w z inside h ∙ sym h

  -- one module of the stack gets the error
  fail_one : (w : W) (ys : List N) (v : V) (y : N) → Amid E w (y ∷ ys) → Amid E (E.put w y (record (E.node w y) { phase = Evaluated; error = Some v })) ys
  fail_one w ys v y a = record {
    open_is = λ z h. either (at z) (λ q. let e = sym (ap (λ m. m.phase) q.1) ∙ h in cc) (λ q. less z q.0 (a.open_is z (sym (ap (λ m. m.phase) q.1) ∙ h)));
    entered = λ z h. either (at z) (λ q. ap (λ m. was_entered m.phase) q.1) (λ q. ap (λ m. was_entered m.phase) q.1 ∙ a.entered z (more z h));
    unstamped = λ z h. put_stamped w y n z ∙ a.unstamped z (still z h);
    new = λ z h. dones w y n refl refl refl z ∙ a.new z (still z h);
    free = λ z h. all_waits w y n refl refl refl z ∙ a.free z (still z h);
    undone = λ z h. dones w y n refl refl refl z ∙ either (at z) (λ q. let e = sym (ap (λ m. m.phase) q.1) ∙ h in cc) (λ q. a.undone z (sym (ap (λ m. m.phase) q.1) ∙ h));
    shut = λ z u h. shut_on w y n refl refl refl z u (a.shut z u (more z h));
    moves = λ z h k. moves_on w y n refl refl refl z (a.moves z (more z h) (sym (put_stamped w y n z) ∙ k));
    stamped = λ z h. put_stamped w y n z ∙ either (at z) (λ q. let e = sym (ap (λ m. m.phase) q.1) ∙ h in cc) (λ q. a.stamped z (sym (ap (λ m. m.phase) q.1) ∙ h));
    joined = joined_on w y n refl refl refl a.joined;
    waiting = λ z h b e. either (at z) (λ q. let k = sym (ap (λ m. m.phase) q.1) ∙ h in cc)
        (λ q. open_wait w y n refl refl refl z (a.waiting z (sym (ap (λ m. m.phase) q.1) ∙ h) (begun_back w y n refl refl refl z b) (error z q.1 e)));
  }
    where
      n : Node N V
      n = record (E.node w y) { phase = Evaluated; error = Some v }

      at : (z : N) → ((z ≡ y) × (E.node (E.put w y n) z ≡ n)) ⊎ ((E.same z y ≡ false) × (E.node (E.put w y n) z ≡ E.node w z))
      at z = put_at w y n z

      more : (z : N) → In E ys z → In E (y ∷ ys) z
      more z h = lists.in_later E.same L.names.own L.names.equal y ys z h

      less : (z : N) → E.same z y ≡ false → In E (y ∷ ys) z → In E ys z
      less z o h = either (lists.in_cons E.same L.names.own L.names.equal y ys z h) (λ e. absurd (not_both (E.same z y) (subst (λ u. E.same u y ≡ true) (sym e) (L.names.own y)) o)) (λ k. k)

      still : (z : N) → phase E (E.put w y n) z ≡ NotEntered → phase E w z ≡ NotEntered
      still z h = either (at z) (λ q. let e = sym (ap (λ m. m.phase) q.1) ∙ h in cc) (λ q. sym (ap (λ m. m.phase) q.1) ∙ h)

      error_at : (r : N) → (E.node (E.put w y n) r).error ≡ None → (E.node w r).error ≡ None
      error_at r e = either (at r) (λ q. let k = sym (ap (λ m. m.error) q.1) ∙ e in cc) (λ q. sym (ap (λ m. m.error) q.1) ∙ e)

      error : (z : N) → E.node (E.put w y n) z ≡ E.node w z → root_error E (E.put w y n) z ≡ None → root_error E w z ≡ None
      error z e h = error_at (root_of E w z) (sym (ap (λ m. (E.node (E.put w y n) (unwrap_or m.cycle_root z)).error) e) ∙ h)

  pub amid_fail : (ys : List N) (w : W) (v : V) → Amid E w ys → Amid E (fail E w v ys) []
  amid_fail [] w v a = a
  amid_fail (y ∷ ys) w v a = amid_fail ys (E.put w y (record (E.node w y) { phase = Evaluated; error = Some v })) v (fail_one w ys v y a)

  -- x waits for y, which isn't done
  pub amid_wait : (w : W) (opened : List N) (x y : N) → was_entered (phase E w x) ≡ true → is_done E w y ≡ false → Amid E w opened → Amid E (put_waiter E (put_wait E w x y) x y) opened
  amid_wait w opened x y b nd a = record {
    open_is = λ z h. a.open_is z (sym (phases z) ∙ h);
    entered = λ z h. ap was_entered (phases z) ∙ a.entered z h;
    unstamped = λ z h. stamped z ∙ a.unstamped z (sym (phases z) ∙ h);
    new = λ z h. dones_is z ∙ a.new z (sym (phases z) ∙ h);
    free = λ z h. either (at z) (λ q. absurd (not_both (was_entered (phase E w x)) b (ap (λ u. was_entered (phase E w u)) (sym q.0) ∙ ap was_entered (sym (phases z) ∙ h)))) (λ q. q ∙ a.free z (sym (phases z) ∙ h));
    undone = λ z h. dones_is z ∙ a.undone z (sym (phases z) ∙ h);
    shut = λ z u h k. dones_is u ∙ either (back z u k) (a.shut z u h) (λ q. subst (λ t. is_done E w t ≡ false) (sym q.1) nd);
    moves = λ z h k. moves z (a.moves z h (sym (stamped z) ∙ k));
    stamped = λ z h. stamped z ∙ a.stamped z (sym (phases z) ∙ h);
    joined = λ z u h. either (back z u h) (λ k. forth_waiters u z (a.joined z u k)) (λ q. subst (λ t. In E (waiters E v t) z) (sym q.1) (subst (λ t. In E (waiters E v y) t) (sym q.0) new_waiter));
    waiting = λ z h c e. open_wait_on z (a.waiting z (sym (phases z) ∙ h) (sym (begun z) ∙ c) (sym (error z) ∙ e));
  }
    where
      n : Node N V
      n = record (E.node w x) { waits = waits E w x ++ y ∷ [] }

      u : W
      u = put_wait E w x y

      k : Node N V
      k = record (E.node u y) { waiters = waiters E u y ++ x ∷ [] }

      v : W
      v = put_waiter E u x y

      phases : (z : N) → phase E v z ≡ phase E w z
      phases z = same_field (λ m. m.phase) u y k refl z ∙ same_field (λ m. m.phase) w x n refl z

      dones_is : (z : N) → is_done E v z ≡ is_done E w z
      dones_is z = same_field (λ m. m.done) u y k refl z ∙ same_field (λ m. m.done) w x n refl z

      stamped : (z : N) → is_stamped E v z ≡ is_stamped E w z
      stamped z = put_stamped u y k z ∙ put_stamped w x n z

      begun : (z : N) → E.begun v z ≡ E.begun w z
      begun z = (L.put u y k).begun z ∙ (L.put w x n).begun z

      error : (z : N) → root_error E v z ≡ root_error E w z
      error z = (same_field (λ m. m.error) u y k refl (root_of E v z) ∙ same_field (λ m. m.error) w x n refl (root_of E v z))
          ∙ ap (λ r. (E.node w (unwrap_or r z)).error) (same_field (λ m. m.cycle_root) u y k refl z ∙ same_field (λ m. m.cycle_root) w x n refl z)

      at : (z : N) → ((z ≡ x) × (waits E v z ≡ waits E w x ++ y ∷ [])) ⊎ (waits E v z ≡ waits E w z)
      at z = either (put_at w x n z) (λ q. inl (q.0, same_field (λ m. m.waits) u y k refl z ∙ ap (λ m. m.waits) q.1)) (λ q. inr (same_field (λ m. m.waits) u y k refl z ∙ ap (λ m. m.waits) q.1))

      forth : (z t : N) → In E (waits E w z) t → In E (waits E v z) t
      forth z t h = either (at z) (λ q. in_like E t (sym q.1) (lists.in_left E.same L.names.own L.names.equal (waits E w x) (y ∷ []) t (subst (λ s. In E (waits E w s) t) q.0 h))) (λ q. in_like E t (sym q) h)

      back : (z t : N) → In E (waits E v z) t → In E (waits E w z) t ⊎ ((z ≡ x) × (t ≡ y))
      back z t h = either (at z)
          (λ q. either (lists.in_split E.same L.names.own L.names.equal (waits E w x) (y ∷ []) t (in_like E t q.1 h)) (λ i. inl (subst (λ s. In E (waits E w s) t) (sym q.0) i)) (λ i. either (lists.in_cons E.same L.names.own L.names.equal y [] t i) (λ e. inr (q.0, e)) (λ e. cc)))
          (λ q. inl (in_like E t q h))

      waiters_before : (z : N) → waiters E u z ≡ waiters E w z
      waiters_before z = same_field (λ m. m.waiters) w x n refl z

      new_waiter : In E (waiters E v y) x
      new_waiter = either (put_at u y k y) (λ q. in_like E x (sym (ap (λ m. m.waiters) q.1)) (lists.in_right E.same L.names.own L.names.equal (waiters E u y) (x ∷ []) x (lists.in_first E.same L.names.own L.names.equal x []))) (λ q. absurd (not_both (E.same y y) (L.names.own y) q.0))

      forth_waiters : (z t : N) → In E (waiters E w z) t → In E (waiters E v z) t
      forth_waiters z t h = let i = in_like E t (sym (waiters_before z)) h in
          either (put_at u y k z) (λ q. in_like E t (sym (ap (λ m. m.waiters) q.1)) (lists.in_left E.same L.names.own L.names.equal (waiters E u y) (x ∷ []) t (subst (λ s. In E (waiters E u s) t) q.0 i))) (λ q. in_like E t (sym (ap (λ m. m.waiters) q.1)) i)

      moves : (z : N) → (E.begun w z ≡ true) ⊎ HasWait E w z → (E.begun v z ≡ true) ⊎ HasWait E v z
      moves z (inl h) = inl (begun z ∙ h)
      moves z (inr h) = inr (h.0, forth z h.0 h.1)

      open_wait_on : (z : N) → HasOpenWait E w z → HasOpenWait E v z
      open_wait_on z h = (h.0, forth z h.0 h.1, dones_is h.0 ∙ h.2)

  pub wait_known : (w : W) (x y : N) (z : N) → was_entered (phase E (put_waiter E (put_wait E w x y) x y) z) ≡ was_entered (phase E w z)
  wait_known w x y z = ap was_entered (same_field (λ m. m.phase) (put_wait E w x y) y (record (E.node (put_wait E w x y) y) { waiters = waiters E (put_wait E w x y) y ++ x ∷ [] }) refl z
      ∙ same_field (λ m. m.phase) w x (record (E.node w x) { waits = waits E w x ++ y ∷ [] }) refl z)

  -- what a request makes wait for isn't done
  wait_undone : (w : W) (opened : List N) (t y : N) → Amid E w opened → wait_on E w t ≡ Some y → is_done E w y ≡ false
  wait_undone w opened t y a h = by (phase E w t) refl (is_stamped E w t) (is_stamped E w (root_of E w t)) (is_done E w (root_of E w t)) refl h
    where
      by : (p : Phase) → phase E w t ≡ p → (b c d : Bool) → is_done E w (root_of E w t) ≡ d → wait_by E t (root_of E w t) p b c d ≡ Some y → is_done E w y ≡ false
      by Evaluating e true c d f h = subst (λ z. is_done E w z ≡ false) (some_is h) (a.undone t e)
      by Evaluating e false c d f h = cc
      by NotEntered e b true false f h = subst (λ z. is_done E w z ≡ false) (some_is h) f
      by NotEntered e b true true f h = cc
      by NotEntered e b false d f h = cc
      by EvaluatingAsync e b true false f h = subst (λ z. is_done E w z ≡ false) (some_is h) f
      by EvaluatingAsync e b true true f h = cc
      by EvaluatingAsync e b false d f h = cc
      by Evaluated e b true false f h = subst (λ z. is_done E w z ≡ false) (some_is h) f
      by Evaluated e b true true f h = cc
      by Evaluated e b false d f h = cc

  pub amid_pass : (w : W) (opened : List N) (x t : N) → was_entered (phase E w x) ≡ true → Amid E w opened → Amid E (add_wait E w x (wait_on E w t)) opened × ((z : N) → was_entered (phase E (add_wait E w x (wait_on E w t)) z) ≡ was_entered (phase E w z))
  amid_pass w opened x t b a = by (wait_on E w t) refl
    where
      by : (o : Option N) → wait_on E w t ≡ o → Amid E (add_wait E w x o) opened × ((z : N) → was_entered (phase E (add_wait E w x o) z) ≡ was_entered (phase E w z))
      by None e = (a, λ z. refl)
      by (Some y) e = (amid_wait w opened x y b (wait_undone w opened t y a e) a, wait_known w x y)
