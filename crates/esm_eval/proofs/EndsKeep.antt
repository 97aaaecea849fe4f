-- What follows the end of a body keeps what holds between calls.
use Rattle.std.proofs.Common.{◌≡◌, ℕ, true, false, List, [], ◌∷◌, Option, Some, None, refl, ap, subst, sym, ◌∙◌, inl, inr}
use Rattle.std.specs.Prelude.{◌⊎◌, Ok}
use Rattle.std.specs.Option.{unwrap_or}
use Rattle.esm_base.specs.Lists.{is_in}
use Rattle.esm_realm.proofs.Urls.{cases, not_true, not_both}
use Rattle.esm_realm.proofs.Lists.{either, in_first, in_later, in_cons}
use Rattle.esm_eval.specs.Nodes.{NotEntered, EvaluatingAsync, Evaluated, was_entered, Node, BodyCalls}
use Rattle.esm_eval.specs.Evaluation.{Evaluation, IsLawful, IsSteady, IsSteadyCall, IsAlike, phase, waits, waiters, is_done, is_stamped, root_of, fulfill_kept, reject_kept}
use Rattle.esm_eval.specs.Evaluate.{Ends, Throws, ExecutesAsync, Executes}
use Rattle.esm_eval.specs.BodyEnd.{IsReady, AreOver, ReadyAmong, Rejects, RejectsAll, GoOn, Fulfills, finish, refuse}
use Rattle.esm_eval.specs.Waiting.{HasOpenWait, IsBetweenCalls}
use Rattle.esm_eval.proofs.Amid.{In, root_error, in_like, HasGrown}
use Rattle.esm_eval.proofs.Puts.{put_at, same_field, put_grown}

module _ {N V W : Type 0} (E : Evaluation N V W) where
  -- from w to v modules have only ended, and bodies have begun
  pub record Later (w v : W) : Type 0 where
    pub phases : (y : N) → (phase E v y ≡ phase E w y) ⊎ (phase E v y ≡ Evaluated)
    pub all_waits : (y : N) → waits E v y ≡ waits E w y
    pub all_waiters : (y : N) → waiters E v y ≡ waiters E w y
    pub roots : (y : N) → (E.node v y).cycle_root ≡ (E.node w y).cycle_root
    pub errors : (y : N) → (E.node v y).error ≡ None → (E.node w y).error ≡ None
    pub ends : (y : N) → is_done E v y ≡ true → (is_done E w y ≡ true) ⊎ (phase E v y ≡ Evaluated)
    pub grown : HasGrown E w v
    pub awaits : (y : N) → was_entered (phase E w y) ≡ true → E.awaits v y ≡ E.awaits w y

  stays_over : {w v : W} → Later w v → (y : N) → phase E w y ≡ Evaluated → phase E v y ≡ Evaluated
  stays_over l y h = either (l.phases y) (λ e. e ∙ h) (λ e. e)

  stays_entered : {w v : W} → Later w v → (y : N) → was_entered (phase E w y) ≡ true → was_entered (phase E v y) ≡ true
  stays_entered l y h = either (l.phases y) (λ e. ap was_entered e ∙ h) (λ e. ap was_entered e)

  pub later_on : (u v w : W) → Later u v → Later v w → Later u w
  later_on u v w k l = record {
    phases = λ y. either (l.phases y) (λ e. either (k.phases y) (λ f. inl (e ∙ f)) (λ f. inr (e ∙ f))) inr;
    all_waits = λ y. l.all_waits y ∙ k.all_waits y;
    all_waiters = λ y. l.all_waiters y ∙ k.all_waiters y;
    roots = λ y. l.roots y ∙ k.roots y;
    errors = λ y h. k.errors y (l.errors y h);
    ends = λ y h. either (l.ends y h) (λ d. either (k.ends y d) inl (λ e. inr (stays_over l y e))) inr;
    grown = record { stamps = l.grown.stamps ∙ k.grown.stamps; begun = λ y h. l.grown.begun y (k.grown.begun y h) };
    awaits = λ y h. l.awaits y (stays_entered k y h) ∙ k.awaits y h;
  }

  later_nodes : (w v : W) → ((y : N) → E.node v y ≡ E.node w y) → HasGrown E w v → ((y : N) → was_entered (phase E w y) ≡ true → E.awaits v y ≡ E.awaits w y) → Later w v
  later_nodes w v e g a = record {
    phases = λ y. inl (ap (λ n. n.phase) (e y));
    all_waits = λ y. ap (λ n. n.waits) (e y);
    all_waiters = λ y. ap (λ n. n.waiters) (e y);
    roots = λ y. ap (λ n. n.cycle_root) (e y);
    errors = λ y h. sym (ap (λ n. n.error) (e y)) ∙ h;
    ends = λ y h. inl (sym (ap (λ n. n.done) (e y)) ∙ h);
    grown = g;
    awaits = a;
  }

  later_alike : (w v : W) → IsAlike E w v → Later w v
  later_alike w v l = later_nodes w v l.far.nodes (record { stamps = l.far.stamps; begun = λ y h. l.far.begun y ∙ h }) (λ y h. l.awaits y)

  later_same : (w : W) → Later w w
  later_same w = later_nodes w w (λ y. refl) (record { stamps = refl; begun = λ y h. h }) (λ y h. refl)

  root_error_back : (w v : W) → Later w v → (x : N) → root_error E v x ≡ None → root_error E w x ≡ None
  root_error_back w v l x h = l.errors (root_of E w x) (sym (ap (λ r. (E.node v (unwrap_or r x)).error) (l.roots x)) ∙ h)

  -- all that wait for y are Evaluated in v
  abbrev pub AllOver : W → W → N → Type 0
  AllOver w v y = (x : N) → In E (waiters E w y) x → phase E v x ≡ Evaluated

  over_on : (u : W) {w v : W} → Later w v → (y : N) → AllOver u w y → AllOver u v y
  over_on u l y o x h = stays_over l x (o x h)

  over_from : {u w : W} (v : W) → Later u w → (y : N) → AllOver w v y → AllOver u v y
  over_from v l y o x h = o x (in_like E x (sym (l.all_waiters y)) h)

  module _ (L : IsLawful E) where
    pub kept_alike : (w : W) (p : Option ℕ) → IsAlike E w (fulfill_kept E w p)
    kept_alike w None = record { far = record { nodes = λ y. refl; stamps = refl; begun = λ y. refl }; awaits = λ y. refl }
    kept_alike w (Some p) = L.fulfill w p

    pub refused_alike : (w : W) (p : Option ℕ) (v : V) → IsAlike E w (reject_kept E w p v)
    refused_alike w None v = record { far = record { nodes = λ y. refl; stamps = refl; begun = λ y. refl }; awaits = λ y. refl }
    refused_alike w (Some p) v = L.reject w p v

    -- a put at x that makes it Evaluated and done
    later_put : (w : W) (x : N) (n : Node N V) → n.phase ≡ Evaluated → n.waits ≡ waits E w x → n.waiters ≡ waiters E w x → n.cycle_root ≡ (E.node w x).cycle_root → (n.error ≡ None → (E.node w x).error ≡ None) → Later w (E.put w x n)
    later_put w x n p ws us r e = record {
      phases = λ y. either (put_at E L w x n y) (λ q. inr (ap (λ m. m.phase) q.1 ∙ p)) (λ q. inl (ap (λ m. m.phase) q.1));
      all_waits = same_field E L (λ m. m.waits) w x n ws;
      all_waiters = same_field E L (λ m. m.waiters) w x n us;
      roots = same_field E L (λ m. m.cycle_root) w x n r;
      errors = λ y h. either (put_at E L w x n y) (λ q. subst (λ z. (E.node w z).error ≡ None) (sym q.0) (e (sym (ap (λ m. m.error) q.1) ∙ h))) (λ q. sym (ap (λ m. m.error) q.1) ∙ h);
      ends = λ y h. either (put_at E L w x n y) (λ q. inr (ap (λ m. m.phase) q.1 ∙ p)) (λ q. inl (sym (ap (λ m. m.done) q.1) ∙ h));
      grown = put_grown E L w x n;
      awaits = λ y h. (L.put w x n).awaits y;
    }

    -- what was done, or is x
    done_put : (w : W) (x : N) (n : Node N V) (y : N) → is_done E (E.put w x n) y ≡ true → (is_done E w y ≡ true) ⊎ (y ≡ x)
    done_put w x n y h = either (put_at E L w x n y) (λ q. inr q.0) (λ q. inl (sym (ap (λ m. m.done) q.1) ∙ h))

    over_put : (w : W) (x : N) (n : Node N V) → n.phase ≡ Evaluated → phase E (E.put w x n) x ≡ Evaluated
    over_put w x n p = either (put_at E L w x n x) (λ q. ap (λ m. m.phase) q.1 ∙ p) (λ q. absurd (not_both (E.same x x) (L.names.own x) q.0))

    pub record Finished (w v : W) (x : N) : Type 0 where
      pub later : Later w v
      pub now : phase E v x ≡ Evaluated
      pub dones : (y : N) → is_done E v y ≡ true → (is_done E w y ≡ true) ⊎ (y ≡ x)

    pub finished : (w : W) (x : N) → Finished w (finish E w x) x
    finished w x = record {
      later = later_on w (E.put w x n) (finish E w x) (later_put w x n refl refl refl refl (λ h. h)) (later_alike (E.put w x n) (finish E w x) l);
      now = ap (λ m. m.phase) (l.far.nodes x) ∙ over_put w x n refl;
      dones = λ y h. done_put w x n y (sym (ap (λ m. m.done) (l.far.nodes y)) ∙ h);
    }
      where
        n : Node N V
        n = record (E.node w x) { phase = Evaluated; done = true }

        l : IsAlike E (E.put w x n) (finish E w x)
        l = kept_alike (E.put w x n) (E.node w x).promise

    refused : (w : W) (x : N) (v : V) → Finished w (refuse E w x v) x
    refused w x v = record {
      later = later_on w (E.put w x n) (refuse E w x v) (later_put w x n refl refl refl refl (λ h. cc)) (later_alike (E.put w x n) (refuse E w x v) l);
      now = ap (λ m. m.phase) (l.far.nodes x) ∙ over_put w x n refl;
      dones = λ y h. done_put w x n y (sym (ap (λ m. m.done) (l.far.nodes y)) ∙ h);
    }
      where
        n : Node N V
        n = record (E.node w x) { phase = Evaluated; error = Some v; done = true }

        l : IsAlike E (E.put w x n) (refuse E w x v)
        l = refused_alike (E.put w x n) (E.node w x).promise v

    pub record Rejected (w v : W) (x : N) : Type 0 where
      pub later : Later w v
      pub now : phase E v x ≡ Evaluated
      pub dones : (y : N) → is_done E v y ≡ true → (is_done E w y ≡ true) ⊎ AllOver w v y

    pub record RejectedAll (w v : W) (xs : List N) : Type 0 where
      pub later : Later w v
      pub now : (x : N) → In E xs x → phase E v x ≡ Evaluated
      pub dones : (y : N) → is_done E v y ≡ true → (is_done E w y ≡ true) ⊎ AllOver w v y

    rejected_on : (w u v : W) (x : N) → Finished w u x → RejectedAll u v (waiters E w x) → Rejected w v x
    rejected_on w u v x f q = record {
      later = later_on w u v f.later q.later;
      now = stays_over q.later x f.now;
      dones = λ y h. either (q.dones y h)
          (λ d. either (f.dones y d) inl (λ e. inr (λ z k. q.now z (subst (λ t. In E (waiters E w t) z) e k))))
          (λ o. inr (over_from v f.later y o));
    }

    rejected_next : (w u v : W) (x : N) (xs : List N) → Rejected w u x → RejectedAll u v xs → RejectedAll w v (x ∷ xs)
    rejected_next w u v x xs r q = record {
      later = later_on w u v r.later q.later;
      now = λ z h. either (in_cons E.same L.names.own L.names.equal x xs z h) (λ e. subst (λ t. phase E v t ≡ Evaluated) (sym e) (stays_over q.later x r.now)) (q.now z);
      dones = λ y h. either (q.dones y h) (λ d. either (r.dones y d) inl (λ o. inr (over_on w q.later y o))) (λ o. inr (over_from v r.later y o));
    }

    mutual
      pub rejects_go : {w : W} {x : N} {u : V} {v : W} → Rejects E w x u v → Rejected w v x
      rejects_go {w} (Rejects.over h) = record { later = later_same w; now = h; dones = λ y k. inl k }
      rejects_go {w} {x} {u} {v} (Rejects.rejects n p) = rejected_on w (refuse E w x u) v x (refused w x u) (rejects_all_go p)

      rejects_all_go : {w : W} {xs : List N} {u : V} {v : W} → RejectsAll E w xs u v → RejectedAll w v xs
      rejects_all_go {w} RejectsAll.none = record { later = later_same w; now = λ x h. cc; dones = λ y k. inl k }
      rejects_all_go {w} {v = v} (RejectsAll.next {mid = mid} {x = x} {xs = xs} p q) = rejected_next w mid v x xs (rejects_go p) (rejects_all_go q)

    between_later : (w v : W) → Later w v → IsBetweenCalls E w → ((x : N) → phase E v x ≡ EvaluatingAsync → E.begun v x ≡ false → root_error E v x ≡ None → HasOpenWait E v x) → IsBetweenCalls E v
    between_later w v l b waiting = record {
      idle = λ x h. either (l.phases x) (λ e. b.idle x (sym e ∙ h)) (λ e. let k = sym e ∙ h in cc);
      unstamped = λ x h. stamps x ∙ b.unstamped x (new x h);
      undone = λ x h. not_true (is_done E v x) (λ k. either (l.ends x k) (λ d. not_both (is_done E w x) d (b.undone x (new x h))) (λ e. let i = sym e ∙ h in cc));
      free = λ x h. l.all_waits x ∙ b.free x (new x h);
      stamped = λ x h. stamps x ∙ b.stamped x (async x h);
      joined = λ x y h. in_like E x (sym (l.all_waiters y)) (b.joined x y (in_like E y (l.all_waits x) h));
      waiting = waiting;
    }
      where
        stamps : (x : N) → is_stamped E v x ≡ is_stamped E w x
        stamps x = ap (λ xs. is_in E.same xs x) l.grown.stamps

        new : (x : N) → phase E v x ≡ NotEntered → phase E w x ≡ NotEntered
        new x h = either (l.phases x) (λ e. sym e ∙ h) (λ e. let k = sym e ∙ h in cc)

        async : (x : N) → phase E v x ≡ EvaluatingAsync → phase E w x ≡ EvaluatingAsync
        async x h = either (l.phases x) (λ e. sym e ∙ h) (λ e. let k = sym e ∙ h in cc)

    async_before : {w v : W} → Later w v → (x : N) → phase E v x ≡ EvaluatingAsync → phase E w x ≡ EvaluatingAsync
    async_before l x h = either (l.phases x) (λ e. sym e ∙ h) (λ e. let k = sym e ∙ h in cc)

    begun_before : {w v : W} → Later w v → (x : N) → E.begun v x ≡ false → E.begun w x ≡ false
    begun_before {w} {v} l x h = not_true (E.begun w x) (λ k. not_both (E.begun v x) (l.grown.begun x k) h)

    pub rejects_keep : (w v : W) (m : N) (u : V) → IsBetweenCalls E w → Rejects E w m u v → IsBetweenCalls E v
    rejects_keep w v m u b p = between_later w v r.later b waiting
      where
        r : Rejected w v m
        r = rejects_go p

        still : (x : N) → phase E v x ≡ EvaluatingAsync → (h : HasOpenWait E w x) → (is_done E v h.0 ≡ true) ⊎ (is_done E v h.0 ≡ false) → HasOpenWait E v x
        still x a h (inl d) = either (r.dones h.0 d) (λ k. absurd (not_both (is_done E w h.0) k h.2)) (λ o. let k = sym (o x (b.joined x h.0 h.1)) ∙ a in cc)
        still x a h (inr d) = (h.0, in_like E h.0 (sym (r.later.all_waits x)) h.1, d)

        waiting : (x : N) → phase E v x ≡ EvaluatingAsync → E.begun v x ≡ false → root_error E v x ≡ None → HasOpenWait E v x
        waiting x a s e = let h = b.waiting x (async_before r.later x a) (begun_before r.later x s) (root_error_back w v r.later x e) in still x a h (cases (is_done E v h.0))

    pub among_ready : {w : W} {zs xs : List N} → ReadyAmong E w zs xs → (y : N) → In E xs y → IsReady E w y
    among_ready ReadyAmong.none y h = cc
    among_ready {w} (ReadyAmong.kept {x = x} {ys = ys} r p) y h = either (in_cons E.same L.names.own L.names.equal x ys y h) (λ e. subst (λ z. IsReady E w z) (sym e) r) (among_ready p y)
    among_ready (ReadyAmong.dropped n p) y h = among_ready p y h

    ready_among : {w : W} {zs xs : List N} → ReadyAmong E w zs xs → (y : N) → In E zs y → IsReady E w y → In E xs y
    ready_among ReadyAmong.none y h r = h
    ready_among (ReadyAmong.kept {x = x} {xs = zs} {ys = ys} r p) y h s = either (in_cons E.same L.names.own L.names.equal x zs y h) (λ e. subst (λ z. In E (x ∷ ys) z) (sym e) (in_first E.same L.names.own L.names.equal x ys)) (λ k. in_later E.same L.names.own L.names.equal x ys y (ready_among p y k s))
    ready_among {w} (ReadyAmong.dropped {x = x} {xs = zs} n p) y h s = either (in_cons E.same L.names.own L.names.equal x zs y h) (λ e. absurd (n (subst (λ z. IsReady E w z) e s))) (λ k. ready_among p y k s)

    pub ready_entered : {w : W} {y : N} → IsReady E w y → was_entered (phase E w y) ≡ true
    ready_entered (IsReady.ready s p b f r) = ap was_entered p

    open_or_over : (v : W) (ys : List N) → ((y : N) × In E ys y × (is_done E v y ≡ false)) ⊎ ((y : N) → In E ys y → is_done E v y ≡ true)
    open_or_over v [] = inr (λ y h. cc)
    open_or_over v (z ∷ zs) = by (cases (is_done E v z)) (open_or_over v zs)
      where
        by : (is_done E v z ≡ true) ⊎ (is_done E v z ≡ false) → ((y : N) × In E zs y × (is_done E v y ≡ false)) ⊎ ((y : N) → In E zs y → is_done E v y ≡ true) → ((y : N) × In E (z ∷ zs) y × (is_done E v y ≡ false)) ⊎ ((y : N) → In E (z ∷ zs) y → is_done E v y ≡ true)
        by (inr d) r = inl (z, in_first E.same L.names.own L.names.equal z zs, d)
        by (inl d) (inl h) = inl (h.0, in_later E.same L.names.own L.names.equal z zs h.0 h.1, h.2)
        by (inl d) (inr h) = inr (λ y k. either (in_cons E.same L.names.own L.names.equal z zs y k) (λ e. subst (λ t. is_done E v t ≡ true) (sym e) d) (h y))

    pub record Went (w v : W) (xs : List N) : Type 0 where
      pub later : Later w v
      pub now : (x : N) → In E xs x → (phase E v x ≡ Evaluated) ⊎ (E.begun v x ≡ true)
      pub dones : (y : N) → is_done E v y ≡ true → (is_done E w y ≡ true) ⊎ ((In E xs y × (E.awaits w y ≡ false)) ⊎ AllOver w v y)

    -- one module has gone on, from w to u
    pub record One (w u : W) (x : N) : Type 0 where
      pub later : Later w u
      pub now : (phase E u x ≡ Evaluated) ⊎ (E.begun u x ≡ true)
      pub dones : (y : N) → is_done E u y ≡ true → (is_done E w y ≡ true) ⊎ (((y ≡ x) × (E.awaits w y ≡ false)) ⊎ AllOver w u y)

    abbrev pub WereEntered : W → List N → Type 0
    WereEntered w xs = (x : N) → In E xs x → was_entered (phase E w x) ≡ true

    went_on : (w u v : W) (x : N) (xs : List N) → WereEntered w xs → One w u x → Went u v xs → Went w v (x ∷ xs)
    went_on w u v x xs b o q = record {
      later = later_on w u v o.later q.later;
      now = λ z h. either (in_cons E.same L.names.own L.names.equal x xs z h) (λ e. subst (λ t. (phase E v t ≡ Evaluated) ⊎ (E.begun v t ≡ true)) (sym e) (either o.now (λ k. inl (stays_over q.later x k)) (λ k. inr (q.later.grown.begun x k)))) (q.now z);
      dones = λ y h. either (q.dones y h)
          (λ d. either (o.dones y d) inl (λ k. inr (either k (λ j. inl (subst (λ t. In E (x ∷ xs) t) (sym j.0) (in_first E.same L.names.own L.names.equal x xs), j.1)) (λ j. inr (over_on w q.later y j)))))
          (λ k. inr (either k (λ j. inl (in_later E.same L.names.own L.names.equal x xs y j.0, sym (o.later.awaits y (b y j.0)) ∙ j.1)) (λ j. inr (over_from v o.later y j))));
    }

module _ {N V W S : Type 0} (E : Evaluation N V W) (acts : BodyCalls N V W S) (L : IsLawful E) (steady : IsSteady E acts) where
  later_call : (w v : W) (m : N) → IsSteadyCall E w m v → Later E w v
  later_call w v m s = later_nodes E w v s.nodes (record { stamps = s.stamps; begun = s.begun }) s.awaits

  one_start : (w v : W) (x : N) → ExecutesAsync E acts w x Ends v → One E L w v x
  one_start w v x (ExecutesAsync.starts p) =
      let s = steady.call _ _ _ _ p in
      let l = L.make_body_promise w x in
      record {
        later = later_on E w (E.make_body_promise w x) v (later_alike E w (E.make_body_promise w x) l) (later_call (E.make_body_promise w x) v x s);
        now = inr (steady.starts _ _ _ _ p);
        dones = λ y h. inl (sym (ap (λ n. n.done) (s.nodes y ∙ l.far.nodes y)) ∙ h);
      }

  one_run : (w v : W) (x : N) → E.awaits w x ≡ false → Executes E acts w x Ends v → One E L w (finish E v x) x
  one_run w v x o (Executes.ends p) =
      let s = steady.call _ _ _ _ p in
      let f = finished E L v x in
      record {
        later = later_on E w v (finish E v x) (later_call w v x s) f.later;
        now = inl f.now;
        dones = λ y h. either (f.dones y h) (λ d. inl (sym (ap (λ n. n.done) (s.nodes y)) ∙ d)) (λ e. inr (inl (e, subst (λ z. E.awaits w z ≡ false) (sym e) o)));
      }

  one_throw : (w v late : W) (x : N) (u : V) → Executes E acts w x (Throws u) v → Rejects E v x u late → One E L w late x
  one_throw w v late x u (Executes.throws _ p) r =
      let s = steady.call _ _ _ _ p in
      let q = rejects_go E L r in
      let l = later_call w v x s in
      record {
        later = later_on E w v late l q.later;
        now = inl q.now;
        dones = λ y h. either (q.dones y h) (λ d. inl (sym (ap (λ n. n.done) (s.nodes y)) ∙ d)) (λ o. inr (inr (over_from E late l y o)));
      }

  rest_entered : (w u : W) (x : N) (xs : List N) → Later E w u → WereEntered E L w (x ∷ xs) → WereEntered E L u xs
  rest_entered w u x xs l b y h = stays_entered E l y (b y (in_later E.same L.names.own L.names.equal x xs y h))

  tail_entered : (w : W) (x : N) (xs : List N) → WereEntered E L w (x ∷ xs) → WereEntered E L w xs
  tail_entered w x xs b y h = b y (in_later E.same L.names.own L.names.equal x xs y h)

  pub go_on : {w : W} {xs : List N} {v : W} → GoOn E acts w xs (Ok tt) v → WereEntered E L w xs → Went E L w v xs
  go_on {w} GoOn.none b = record { later = later_same E w; now = λ x h. cc; dones = λ y h. inl h }
  go_on {w} {v = v} (GoOn.skips {x = x} {xs = xs} h p) b =
      went_on E L w w v x xs (tail_entered w x xs b) (record { later = later_same E w; now = inl h; dones = λ y k. inl k }) (go_on p (tail_entered w x xs b))
  go_on {w} {v = v} (GoOn.starts {mid = mid} {x = x} {xs = xs} n o s p) b =
      let one = one_start w mid x s in
      went_on E L w mid v x xs (tail_entered w x xs b) one (go_on p (rest_entered w mid x xs one.later b))
  go_on {w} {v = v} (GoOn.runs {mid = mid} {x = x} {xs = xs} n o s p) b =
      let one = one_run w mid x o s in
      went_on E L w (finish E mid x) v x xs (tail_entered w x xs b) one (go_on p (rest_entered w (finish E mid x) x xs one.later b))
  go_on {w} {v = v} (GoOn.throws {mid = mid} {late = late} {x = x} {xs = xs} u n o s r p) b =
      let one = one_throw w mid late x u s r in
      went_on E L w late v x xs (tail_entered w x xs b) one (go_on p (rest_entered w late x xs one.later b))

  module _ (w v : W) (m : N) (b : IsBetweenCalls E w) (xs : List N) (r : ReadyAmong E (finish E w m) (E.stamps (finish E w m)) xs) (p : GoOn E acts (finish E w m) xs (Ok tt) v) where
    abbrev mid : W
    mid = finish E w m

    first : Finished E L w mid m
    first = finished E L w m

    went : Went E L mid v xs
    went = go_on p (λ x h. ready_entered E L (among_ready E L r x h))

    whole : Later E w v
    whole = later_on E w mid v first.later went.later

    -- where all that x waits for is done, it was ready
    are_over : (x : N) → phase E v x ≡ EvaluatingAsync → (ys : List N) → ((y : N) → In E ys y → is_done E v y ≡ true) → ((y : N) → In E ys y → In E (waiters E mid y) x) → AreOver E mid ys
    are_over x a [] d j = AreOver.none
    are_over x a (y ∷ ys) d j = by (went.dones y (d y here)) (are_over x a ys (λ z h. d z (later z h)) (λ z h. j z (later z h)))
      where
        here : In E (y ∷ ys) y
        here = in_first E.same L.names.own L.names.equal y ys

        later : (z : N) → In E ys z → In E (y ∷ ys) z
        later z h = in_later E.same L.names.own L.names.equal y ys z h

        by : (is_done E mid y ≡ true) ⊎ ((In E xs y × (E.awaits mid y ≡ false)) ⊎ AllOver E mid v y) → AreOver E mid ys → AreOver E mid (y ∷ ys)
        by (inl k) rest = AreOver.done k rest
        by (inr (inl k)) rest = AreOver.joins k.1 (among_ready E L r y k.0) rest
        by (inr (inr k)) rest = let e = sym (k x (j y here)) ∙ a in cc

    went_off : (x : N) → phase E v x ≡ EvaluatingAsync → E.begun v x ≡ false → In E xs x → ⊥
    went_off x a s h = either (went.now x h) (λ e. let k = sym e ∙ a in cc) (λ k. not_both (E.begun v x) k s)

    waiting : (x : N) → phase E v x ≡ EvaluatingAsync → E.begun v x ≡ false → root_error E v x ≡ None → HasOpenWait E v x
    waiting x a s e = by (open_or_over E L v (waits E v x))
      where
        stamped : is_stamped E mid x ≡ true
        stamped = ap (λ zs. is_in E.same zs x) first.later.grown.stamps ∙ b.stamped x (async_before E L whole x a)

        joined : (y : N) → In E (waits E mid x) y → In E (waiters E mid y) x
        joined y h = in_like E x (sym (first.later.all_waiters y)) (b.joined x y (in_like E y (first.later.all_waits x) h))

        by : ((y : N) × In E (waits E v x) y × (is_done E v y ≡ false)) ⊎ ((y : N) → In E (waits E v x) y → is_done E v y ≡ true) → HasOpenWait E v x
        by (inl h) = h
        by (inr d) = absurd (went_off x a s (ready_among E L r x stamped
            (IsReady.ready stamped (async_before E L went.later x a) (begun_before E L went.later x s) (root_error_back E mid v went.later x e)
            (are_over x a (waits E mid x) (λ y h. d y (in_like E y (sym (went.later.all_waits x)) h)) joined))))

    went_keeps : IsBetweenCalls E v
    went_keeps = between_later E L w v whole b waiting

  pub fulfills_keep : (w v : W) (m : N) → IsBetweenCalls E w → Fulfills E acts w m (Ok tt) v → IsBetweenCalls E v
  fulfills_keep w v m b (Fulfills.over h) = b
  fulfills_keep w v m b (Fulfills.goes_on {xs = xs} n r p) = went_keeps w v m b xs r p
