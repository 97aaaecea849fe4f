-- Between two turns: what was entered keeps its targets, and other modules get theirs. And the beginning.
use Rattle.std.proofs.Common.{◌≡◌, inl, inr, true, false, List, [], Option, Some, None, refl, ap, subst, sym, ◌∙◌}
use Rattle.esm_base.specs.Lists.{is_in}
use Rattle.esm_realm.proofs.Urls.{not_both}
use Rattle.esm_realm.proofs.Lists.{either}
use Rattle.esm_eval.specs.Nodes.{Phase, NotEntered, Evaluating, EvaluatingAsync, Evaluated, was_entered, untouched, BodyCalls}
use Rattle.esm_eval.specs.Evaluation.{Evaluation, IsLawful, IsSteady, IsAsFar, phase, waits, is_done}
use Rattle.esm_eval.proofs.Amid.{like_nodes}
use Rattle.esm_needs_laws.proofs.Shape.{young, Leads, Over, Joined, Met, Shut, Inv}
use Rattle.esm_needs_laws.proofs.Moves.{Tells, like_inv}

not_some : {A : Type 0} {u : A} → None ≡ Some u → ⊥
not_some h = cc

new_open : NotEntered ≡ Evaluating → ⊥
new_open h = cc

new_async : NotEntered ≡ EvaluatingAsync → ⊥
new_async h = cc

new_over : NotEntered ≡ Evaluated → ⊥
new_over h = cc

-- ---- other targets

module _ {N V W : Type 0} (E : Evaluation N V W) (to more : N → List N) (Ended : W → N → Type 0) (w : W) where
  abbrev Has : List N → N → Type 0
  Has xs y = is_in E.same xs y ≡ true

  abbrev root : N → Option N
  root x = (E.node w x).cycle_root

  over_to : {x : N} → Over E to Ended w x → Over E more Ended w x
  over_to o = record { phase_is = o.phase_is; clean = o.clean }

  over_back : {x : N} → Over E more Ended w x → Over E to Ended w x
  over_back o = record { phase_is = o.phase_is; clean = o.clean }

  joined_to : {r m : N} → Joined E to Ended w r m → Joined E more Ended w r m
  joined_to Joined.first = Joined.first
  joined_to (Joined.waited j h) = Joined.waited (joined_to j) h

  met_to : {x r t : N} → Met E to Ended w x r t → Met E more Ended w x r t
  met_to m = either m inl (λ q. inr (either q
      (λ o. inl (record { that = o.that; is_root = o.is_root; over = over_to o.over }))
      (λ f. inr (record { that = f.that; is_root = f.is_root; waited = f.waited }))))

  module _ (i : Inv E to Ended w []) (same : (x : N) → was_entered (phase E w x) ≡ true → more x ≡ to x) where
    entered : (x r : N) → root x ≡ Some r → was_entered (phase E w x) ≡ true
    entered x r h = by (phase E w x) refl
      where
        by : (p : Phase) → phase E w x ≡ p → was_entered (phase E w x) ≡ true
        by NotEntered e = absurd (not_some (sym (i.base.unrooted x (ap young e)) ∙ h))
        by Evaluating e = ap was_entered e
        by EvaluatingAsync e = ap was_entered e
        by Evaluated e = ap was_entered e

    met_root : {x r t : N} → Met E to Ended w x r t → (s : N) × (root t ≡ Some s)
    met_root {x} {r} m = either m (λ e. (r, e)) (λ q. either q (λ o. (o.that, o.is_root)) (λ f. (f.that, f.is_root)))

    -- what has a root reaches what it reached
    leads_to : {x y : N} (r : N) → root x ≡ Some r → Leads E.same to x y → Leads E.same more x y
    leads_to r e Leads.itself = Leads.itself
    leads_to {x} r e (Leads.step {t = t} h p) =
        let q = met_root ((i.base.shut x r e).met t h) in
        Leads.step (subst (λ ts. Has ts t) (sym (same x (entered x r e))) h) (leads_to q.0 q.1 p)

    shut_to : (x r : N) → root x ≡ Some r → Shut E more Ended w x r
    shut_to x r e = let s = i.base.shut x r e in record {
      own = s.own;
      there = leads_to r e s.there;
      back = leads_to r s.own s.back;
      met = λ t h. met_to (s.met t (subst (λ ts. Has ts t) (same x (entered x r e)) h));
      joint = either s.joint inl (λ j. inr (joined_to j));
    }

    nothing : (y : N) → Has [] y → ⊥
    nothing y h = cc

    pub targets_inv : Inv E more Ended w []
    targets_inv = let b = i.base in record {
      base = record {
        open_is = b.open_is;
        opens = b.opens;
        unstamped = b.unstamped;
        unbegun = b.unbegun;
        stamped = b.stamped;
        joined = b.joined;
        unrooted = b.unrooted;
        rooted = λ y h. b.rooted y (either h inl (λ o. inr (over_back o)));
        shut = shut_to;
        begun_waits = λ x y h k. over_to (b.begun_waits x y h k);
        stamped_waits = b.stamped_waits;
        order = b.order;
        done = b.done;
        ended = λ y o. b.ended y (over_back o);
        open_waits = λ x y h k. absurd (nothing y k);
      };
      failed = i.failed;
    }

module _ {N V W S : Type 0} (E : Evaluation N V W) (acts : BodyCalls N V W S) (L : IsLawful E) (steady : IsSteady E acts) (to : N → List N) (Ended : W → N → Type 0) (tells : Tells E acts Ended) where
  -- from one turn to the next
  pub far_inv : (more : N → List N) (w v : W) → IsAsFar E w v → ((y : N) → Ended w y → Ended v y) → ((x : N) → was_entered (phase E w x) ≡ true → more x ≡ to x) → Inv E to Ended w [] → Inv E more Ended v []
  far_inv more w v a ended same i =
      let k : Inv E more Ended w [] = targets_inv E to more Ended w i same in
      like_inv E acts L steady more Ended tells w v (like_nodes E w v a.nodes) a.stamps ended []
      (λ x y h j. k.base.begun_waits x y (sym (a.begun x) ∙ h) j) (λ y h. a.begun y ∙ k.base.unbegun y h) k

-- ---- nothing was evaluated

module _ {N V W : Type 0} (E : Evaluation N V W) (to : N → List N) (Ended : W → N → Type 0) (w : W)
    (new : (x : N) → E.node w x ≡ untouched) (unstamped : E.stamps w ≡ []) (unbegun : (x : N) → E.begun w x ≡ false) where
  unmet : (y : N) → is_in E.same [] y ≡ true → ⊥
  unmet y h = cc

  free : (x y : N) → is_in E.same (waits E w x) y ≡ true → ⊥
  free x y h = unmet y (subst (λ zs. is_in E.same zs y ≡ true) (ap (λ n. n.waits) (new x)) h)

  rootless : (x : N) → (E.node w x).cycle_root ≡ None
  rootless x = ap (λ n. n.cycle_root) (new x)

  is_new : (x : N) → phase E w x ≡ NotEntered
  is_new x = ap (λ n. n.phase) (new x)

  not_over : (x : N) → Over E to Ended w x → ⊥
  not_over x o = new_over (sym (is_new x) ∙ o.phase_is)

  pub opening_inv : Inv E to Ended w []
  opening_inv = record {
    base = record {
      open_is = λ y h. absurd (new_open (sym (is_new y) ∙ h));
      opens = λ y h. absurd (unmet y h);
      unstamped = λ y h. ap (λ xs. is_in E.same xs y) unstamped;
      unbegun = λ y h. unbegun y;
      stamped = λ y h. absurd (new_async (sym (is_new y) ∙ h));
      joined = λ x y h. absurd (free x y h);
      unrooted = λ y h. rootless y;
      rooted = λ y h. absurd (either h (λ e. new_async (sym (is_new y) ∙ e)) (not_over y));
      shut = λ x r h. absurd (not_some (sym (rootless x) ∙ h));
      begun_waits = λ x y h k. absurd (free x y k);
      stamped_waits = λ x y h. absurd (free x y h);
      order = λ x y past rest e h. absurd (free x y h);
      done = λ y h. absurd (not_both (is_done E w y) h (ap (λ n. n.done) (new y)));
      ended = λ y o. absurd (not_over y o);
      open_waits = λ x y h k. absurd (free x y h);
    };
    failed = λ x y v h k. absurd (free x y h);
  }
