-- Where a module is rejected, with all that wait for it.
use Rattle.std.proofs.Common.{◌≡◌, ◌⊎◌, inl, inr, true, List, [], ◌∷◌, Option, Some, subst, sym}
use Rattle.esm_base.specs.Lists.{is_in}
use Rattle.esm_realm.proofs.Lists.{either, in_cons}
use Rattle.esm_eval.specs.Nodes.{Evaluated, BodyCalls}
use Rattle.esm_eval.specs.Evaluation.{Evaluation, IsLawful, IsSteady, phase, waits, waiters}
use Rattle.esm_eval.specs.BodyEnd.{Rejects, RejectsAll, refuse}
use Rattle.esm_needs_laws.proofs.Shape.{Base, Inv}
use Rattle.esm_needs_laws.proofs.Moves.{Tells}
use Rattle.esm_needs_laws.proofs.Ending.{Since, since_same, since_on, stays_over, refuse_now, refuse_errors, refuse_since, refuse_base}

module _ {N V W S : Type 0} (E : Evaluation N V W) (acts : BodyCalls N V W S) (L : IsLawful E) (steady : IsSteady E acts) (to : N → List N) (Ended : W → N → Type 0) (tells : Tells E acts Ended) where
  abbrev Has : List N → N → Type 0
  Has xs y = is_in E.same xs y ≡ true

  abbrev error : W → N → Option V
  error w y = (E.node w y).error

  -- all that wait for y are Evaluated in v
  abbrev AllOver : W → W → N → Type 0
  AllOver w v y = (x : N) → Has (waiters E w y) x → phase E v x ≡ Evaluated

  over_on : (u : W) {w v : W} → Since E to Ended w v → (y : N) → AllOver u w y → AllOver u v y
  over_on u s y o x h = stays_over E to Ended s x (o x h)

  over_from : {u w : W} (v : W) → Since E to Ended u w → (y : N) → AllOver w v y → AllOver u v y
  over_from v s y o x h = o x (subst (λ zs. Has zs x) (sym (s.all_waiters y)) h)

  pub record IsRejected (w v : W) (x : N) : Type 0 where
    pub base : Base E to Ended v []
    pub since : Since E to Ended w v
    pub now : phase E v x ≡ Evaluated
    pub errors : (y : N) (s : V) → error v y ≡ Some s → (error w y ≡ Some s) ⊎ AllOver w v y

  pub record AreRejected (w v : W) (xs : List N) : Type 0 where
    pub base : Base E to Ended v []
    pub since : Since E to Ended w v
    pub now : (x : N) → Has xs x → phase E v x ≡ Evaluated
    pub errors : (y : N) (s : V) → error v y ≡ Some s → (error w y ≡ Some s) ⊎ AllOver w v y

  refused_all : (w v : W) (x : N) (u : V) → (phase E w x ≡ Evaluated → ⊥) → AreRejected (refuse E w x u) v (waiters E w x) → IsRejected w v x
  refused_all w v x u n q =
      let first : Since E to Ended w (refuse E w x u) = refuse_since E acts L steady to Ended tells w x u n in
      record {
        base = q.base;
        since = since_on E to Ended first q.since;
        now = stays_over E to Ended q.since x (refuse_now E acts L steady to Ended tells w x u);
        errors = λ y s h. either (q.errors y s h)
            (λ k. either (refuse_errors E acts L steady to Ended tells w x u y s k) inl (λ e. inr (λ z j. q.now z (subst (λ t. Has (waiters E w t) z) e j))))
            (λ o. inr (over_from v first y o));
      }

  rejected_next : (w u v : W) (x : N) (xs : List N) → IsRejected w u x → AreRejected u v xs → AreRejected w v (x ∷ xs)
  rejected_next w u v x xs r q = record {
    base = q.base;
    since = since_on E to Ended r.since q.since;
    now = λ z h. either (in_cons E.same L.names.own L.names.equal x xs z h) (λ e. subst (λ t. phase E v t ≡ Evaluated) (sym e) (stays_over E to Ended q.since x r.now)) (q.now z);
    errors = λ y s h. either (q.errors y s h) (λ k. either (r.errors y s k) inl (λ o. inr (over_on w q.since y o))) (λ o. inr (over_from v r.since y o));
  }

  mutual
    rejects_go : {w : W} {x : N} {u : V} {v : W} → Rejects E w x u v → Base E to Ended w [] → IsRejected w v x
    rejects_go {w} (Rejects.over h) b = record { base = b; since = since_same E to Ended w; now = h; errors = λ y s k. inl k }
    rejects_go {w} {x} {u} {v} (Rejects.rejects n p) b = refused_all w v x u n (rejects_all_go p (refuse_base E acts L steady to Ended tells w x u n b))

    rejects_all_go : {w : W} {xs : List N} {u : V} {v : W} → RejectsAll E w xs u v → Base E to Ended w [] → AreRejected w v xs
    rejects_all_go {w} RejectsAll.none b = record { base = b; since = since_same E to Ended w; now = λ x h. cc; errors = λ y s k. inl k }
    rejects_all_go {w} {v = v} (RejectsAll.next {mid = mid} {x = x} {xs = xs} p q) b = let r = rejects_go p b in rejected_next w mid v x xs r (rejects_all_go q r.base)

  -- the invariant goes along, and the rejected module is Evaluated
  pub record Rejected (w v : W) (x : N) : Type 0 where
    pub inv : Inv E to Ended v []
    pub since : Since E to Ended w v
    pub now : phase E v x ≡ Evaluated

  pub rejected : {w : W} {x : N} {u : V} {v : W} → Rejects E w x u v → Inv E to Ended w [] → Rejected w v x
  rejected {w} {x} {u} {v} p i =
      let r = rejects_go p i.base in
      record {
        inv = record {
          base = r.base;
          failed = λ a y s h k.
              let was : Has (waits E w a) y = subst (λ zs. Has zs y) (r.since.all_waits a) h in
              either (r.errors y s k) (λ e. stays_over E to Ended r.since a (i.failed a y s was e)) (λ o. o a (i.base.joined a y was));
        };
        since = r.since;
        now = r.now;
      }

  pub rejects_inv : (w v : W) (m : N) (u : V) → Inv E to Ended w [] → Rejects E w m u v → Inv E to Ended v []
  rejects_inv w v m u i p = (rejected p i).inv
