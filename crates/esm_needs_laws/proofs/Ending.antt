-- A module that ends, finished or refused, between two turns.
use Rattle.std.proofs.Common.{◌≡◌, ◌⊎◌, inl, inr, ℕ, true, List, [], ◌∷◌, Option, Some, None, refl, ap, subst, sym, ◌∙◌}
use Rattle.esm_base.specs.Lists.{is_in}
use Rattle.esm_realm.proofs.Urls.{not_both}
use Rattle.esm_realm.proofs.Lists.{either, in_first, in_cons}
use Rattle.esm_eval.specs.Nodes.{NotEntered, Evaluating, EvaluatingAsync, Evaluated, was_entered, Node, BodyCalls}
use Rattle.esm_eval.specs.Evaluation.{Evaluation, IsLawful, IsSteady, IsAlike, phase, waits, waiters, fulfill_kept, reject_kept}
use Rattle.esm_eval.specs.BodyEnd.{finish, refuse}
use Rattle.esm_eval.proofs.EndsKeep.{kept_alike, refused_alike}
use Rattle.esm_needs_laws.proofs.Shape.{young, Over, Grows, Base, Inv, shut_on, grows_same, grows_on}
use Rattle.esm_needs_laws.proofs.Moves.{Tells, Moved, KeepsLinks, KeepsMoved, FitsMoved, moved_put, moved_alike, moved_grows, moved_base, waits_is, waiters_is}

not_new : Evaluated ≡ NotEntered → ⊥
not_new h = cc

not_open : Evaluated ≡ Evaluating → ⊥
not_open h = cc

not_async : Evaluated ≡ EvaluatingAsync → ⊥
not_async h = cc

not_young : young Evaluated ≡ true → ⊥
not_young h = cc

pub not_some : {A : Type 0} {u : A} → Some u ≡ None → ⊥
not_some h = cc

-- from w to v modules have only ended, and bodies have begun
module _ {N V W : Type 0} (E : Evaluation N V W) (to : N → List N) (Ended : W → N → Type 0) where
  pub record Since (w v : W) : Type 0 where
    pub phases : (y : N) → (phase E v y ≡ phase E w y) ⊎ (phase E v y ≡ Evaluated)
    pub all_waits : (y : N) → waits E v y ≡ waits E w y
    pub all_waiters : (y : N) → waiters E v y ≡ waiters E w y
    pub stamps : E.stamps v ≡ E.stamps w
    pub awaits : (y : N) → was_entered (phase E w y) ≡ true → E.awaits v y ≡ E.awaits w y
    pub grows : Grows E to Ended w v

  pub stays_over : {w v : W} → Since w v → (y : N) → phase E w y ≡ Evaluated → phase E v y ≡ Evaluated
  stays_over s y h = either (s.phases y) (λ e. e ∙ h) (λ e. e)

  stays_entered : {w v : W} → Since w v → (y : N) → was_entered (phase E w y) ≡ true → was_entered (phase E v y) ≡ true
  stays_entered s y h = either (s.phases y) (λ e. ap was_entered e ∙ h) (λ e. ap was_entered e)

  pub since_on : {u v w : W} → Since u v → Since v w → Since u w
  since_on {u} {v} {w} r s = record {
    phases = λ y. either (s.phases y) (λ e. either (r.phases y) (λ f. inl (e ∙ f)) (λ f. inr (e ∙ f))) inr;
    all_waits = λ y. s.all_waits y ∙ r.all_waits y;
    all_waiters = λ y. s.all_waiters y ∙ r.all_waiters y;
    stamps = s.stamps ∙ r.stamps;
    awaits = λ y h. s.awaits y (stays_entered r y h) ∙ r.awaits y h;
    grows = grows_on E to Ended r.grows s.grows;
  }

  pub since_same : (w : W) → Since w w
  since_same w = record {
    phases = λ y. inl refl;
    all_waits = λ y. refl;
    all_waiters = λ y. refl;
    stamps = refl;
    awaits = λ y h. refl;
    grows = grows_same E to Ended w;
  }

  -- nothing of nodes is changed
  pub since_nodes : (w v : W) → ((y : N) → E.node v y ≡ E.node w y) → E.stamps v ≡ E.stamps w → ((y : N) → was_entered (phase E w y) ≡ true → E.awaits v y ≡ E.awaits w y) → Grows E to Ended w v → Since w v
  since_nodes w v nodes stamps awaits g = record {
    phases = λ y. inl (ap (λ n. n.phase) (nodes y));
    all_waits = λ y. ap (λ n. n.waits) (nodes y);
    all_waiters = λ y. ap (λ n. n.waiters) (nodes y);
    stamps = stamps;
    awaits = awaits;
    grows = g;
  }

module _ {N V W S : Type 0} (E : Evaluation N V W) (acts : BodyCalls N V W S) (L : IsLawful E) (steady : IsSteady E acts) (to : N → List N) (Ended : W → N → Type 0) (tells : Tells E acts Ended) where
  abbrev pub Has : List N → N → Type 0
  Has xs y = is_in E.same xs y ≡ true

  abbrev pub I : W → List N → Type 0
  I = Inv E to Ended

  abbrev pub B : W → List N → Type 0
  B = Base E to Ended

  abbrev pub IsOver : W → N → Type 0
  IsOver = Over E to Ended

  abbrev pub Onwards : W → W → Type 0
  Onwards = Since E to Ended

  abbrev pub root_at : W → N → Option N
  root_at w y = (E.node w y).cycle_root

  abbrev pub error_at : W → N → Option V
  error_at w y = (E.node w y).error

  one : (x y : N) → Has (x ∷ []) y → y ≡ x
  one x y h = either (in_cons E.same L.names.own L.names.equal x [] y h) (λ e. e) (λ k. cc)

  none : (y : N) → Has [] y → ⊥
  none y h = cc

  -- a write that makes a module Evaluated
  record IsEnding (f : N → Node N V → Node N V) : Type 0 where
    phase_is : (y : N) (n : Node N V) → (f y n).phase ≡ Evaluated
    waits_is : (y : N) (n : Node N V) → (f y n).waits ≡ n.waits
    waiters_is : (y : N) (n : Node N V) → (f y n).waiters ≡ n.waiters
    root_is : (y : N) (n : Node N V) → (f y n).cycle_root ≡ n.cycle_root

  module _ {f : N → Node N V → Node N V} (e : IsEnding f) {w v : W} (x : N) (m : Moved E acts L steady to Ended tells w v (x ∷ []) f) (unended : phase E w x ≡ Evaluated → ⊥) where
    links : KeepsLinks E acts L steady to Ended tells f
    links y n = (e.waits_is y n, e.waiters_is y n)

    at : (y : N) → Has (x ∷ []) y → E.node v y ≡ f y (E.node w y)
    at y h = either (m.nodes y) (λ q. q.1) (λ q. absurd (not_both (is_in E.same (x ∷ []) y) h q.0))

    now : (y : N) → Has (x ∷ []) y → phase E v y ≡ Evaluated
    now y h = ap (λ n. n.phase) (at y h) ∙ e.phase_is y (E.node w y)

    root_same : (y : N) → Has (x ∷ []) y → root_at v y ≡ root_at w y
    root_same y h = ap (λ n. n.cycle_root) (at y h) ∙ e.root_is y (E.node w y)

    keeps : KeepsMoved E acts L steady to Ended tells m links
    keeps = record {
      over = λ y h o. absurd (unended (subst (λ z. phase E w z ≡ Evaluated) (one x y h) o.phase_is));
      roots = λ y r h k. root_same y h ∙ k;
    }

    ending_grows : Grows E to Ended w v
    ending_grows = moved_grows E acts L steady to Ended tells m links keeps

    fits : B w [] → ((y : N) → Has (x ∷ []) y → IsOver v y → (r : N) × (root_at w y ≡ Some r)) → ((y : N) → Has (x ∷ []) y → IsOver v y → Ended v y) → FitsMoved E acts L steady to Ended tells m links keeps [] []
    fits b rooted ended = record {
      still = λ y h k. k;
      open_is = λ y h k. absurd (not_open (sym (now y h) ∙ k));
      opens = λ y h. absurd (none y h);
      entered = λ y h k. not_new (sym (now y h) ∙ k);
      stamped = λ y h k. absurd (not_async (sym (now y h) ∙ k));
      unrooted = λ y h k. absurd (not_young (sym (ap young (now y h)) ∙ k));
      rooted = λ y h k. either k (λ q. absurd (not_async (sym (now y h) ∙ q))) (λ o. let r = rooted y h o in (r.0, root_same y h ∙ r.1));
      shut = λ y r h k. shut_on E to Ended ending_grows (b.shut y r (sym (root_same y h) ∙ k));
      done = λ y h k. now y h;
      ended = ended;
      open_waits = λ a y h k. absurd (none y k);
    }

    ending_base : B w [] → ((y : N) → Has (x ∷ []) y → IsOver v y → (r : N) × (root_at w y ≡ Some r)) → ((y : N) → Has (x ∷ []) y → IsOver v y → Ended v y) → B v []
    ending_base b rooted ended = moved_base E acts L steady to Ended tells m links keeps [] [] (fits b rooted ended) b

    ending_since : ((y : N) → E.awaits v y ≡ E.awaits w y) → Onwards w v
    ending_since awaits = record {
      phases = λ y. either (m.nodes y) (λ q. inr (now y q.0)) (λ q. inl (ap (λ n. n.phase) q.1));
      all_waits = waits_is E acts L steady to Ended tells m links;
      all_waiters = waiters_is E acts L steady to Ended tells m links;
      stamps = m.stamps;
      awaits = λ y h. awaits y;
      grows = ending_grows;
    }

  -- ---- x is done, without an error

  abbrev finishing : N → Node N V → Node N V
  finishing y n = record n { phase = Evaluated; done = true }

  fulfilled_ended : (w : W) (p : Option ℕ) (y : N) → Ended w y → Ended (fulfill_kept E w p) y
  fulfilled_ended w None y h = h
  fulfilled_ended w (Some p) y h = tells.fulfill w p y h

  module _ (w : W) (x : N) where
    abbrev finish_put : W
    finish_put = E.put w x (finishing x (E.node w x))

    finish_alike : IsAlike E finish_put (finish E w x)
    finish_alike = kept_alike E L finish_put (E.node w x).promise

    finish_moved : Moved E acts L steady to Ended tells w (finish E w x) (x ∷ []) finishing
    finish_moved = moved_alike E acts L steady to Ended tells (moved_put E acts L steady to Ended tells w x finishing) finish_alike (fulfilled_ended finish_put (E.node w x).promise)

    finish_ending : IsEnding finishing
    finish_ending = record { phase_is = λ y n. refl; waits_is = λ y n. refl; waiters_is = λ y n. refl; root_is = λ y n. refl }

    pub finish_now : phase E (finish E w x) x ≡ Evaluated
    finish_now = either (finish_moved.nodes x) (λ q. ap (λ n. n.phase) q.1) (λ q. absurd (not_both (is_in E.same (x ∷ []) x) (in_first E.same L.names.own L.names.equal x []) q.0))

    finish_error : (y : N) → error_at (finish E w x) y ≡ error_at w y
    finish_error y = either (finish_moved.nodes y) (λ q. ap (λ n. n.error) q.1) (λ q. ap (λ n. n.error) q.1)

    module _ (p : phase E w x ≡ EvaluatingAsync) (ended : Ended w x) where
      unended : phase E w x ≡ Evaluated → ⊥
      unended h = not_async (sym h ∙ p)

      pub finish_since : Onwards w (finish E w x)
      finish_since = ending_since finish_ending x finish_moved unended (λ y. finish_alike.awaits y ∙ (L.put w x (finishing x (E.node w x))).awaits y)

      pub finish_inv : I w [] → I (finish E w x) []
      finish_inv i = record {
        base = ending_base finish_ending x finish_moved unended i.base
            (λ y h o. i.base.rooted y (inl (subst (λ z. phase E w z ≡ EvaluatingAsync) (sym (one x y h)) p)))
            (λ y h o. finish_since.grows.ended y (subst (λ z. Ended w z) (sym (one x y h)) ended));
        failed = λ a y u h k. stays_over E to Ended finish_since a (i.failed a y u (subst (λ zs. Has zs y) (finish_since.all_waits a) h) (sym (finish_error y) ∙ k));
      }

  -- ---- x is done, with an error

  abbrev refusing : V → N → Node N V → Node N V
  refusing u y n = record n { phase = Evaluated; error = Some u; done = true }

  rejected_ended : (w : W) (p : Option ℕ) (u : V) (y : N) → Ended w y → Ended (reject_kept E w p u) y
  rejected_ended w None u y h = h
  rejected_ended w (Some p) u y h = tells.reject w p u y h

  module _ (w : W) (x : N) (u : V) where
    abbrev refuse_put : W
    refuse_put = E.put w x (refusing u x (E.node w x))

    refuse_alike : IsAlike E refuse_put (refuse E w x u)
    refuse_alike = refused_alike E L refuse_put (E.node w x).promise u

    refuse_moved : Moved E acts L steady to Ended tells w (refuse E w x u) (x ∷ []) (refusing u)
    refuse_moved = moved_alike E acts L steady to Ended tells (moved_put E acts L steady to Ended tells w x (refusing u)) refuse_alike (rejected_ended refuse_put (E.node w x).promise u)

    refuse_ending : IsEnding (refusing u)
    refuse_ending = record { phase_is = λ y n. refl; waits_is = λ y n. refl; waiters_is = λ y n. refl; root_is = λ y n. refl }

    pub refuse_now : phase E (refuse E w x u) x ≡ Evaluated
    refuse_now = either (refuse_moved.nodes x) (λ q. ap (λ n. n.phase) q.1) (λ q. absurd (not_both (is_in E.same (x ∷ []) x) (in_first E.same L.names.own L.names.equal x []) q.0))

    -- an error is old, or that of x
    pub refuse_errors : (y : N) (s : V) → error_at (refuse E w x u) y ≡ Some s → (error_at w y ≡ Some s) ⊎ (y ≡ x)
    refuse_errors y s h = either (refuse_moved.nodes y) (λ q. inr (one x y q.0)) (λ q. inl (sym (ap (λ n. n.error) q.1) ∙ h))

    module _ (unended : phase E w x ≡ Evaluated → ⊥) where
      pub refuse_since : Onwards w (refuse E w x u)
      refuse_since = ending_since refuse_ending x refuse_moved unended (λ y. refuse_alike.awaits y ∙ (L.put w x (refusing u x (E.node w x))).awaits y)

      unclean : (y : N) → Has (x ∷ []) y → IsOver (refuse E w x u) y → ⊥
      unclean y h o = not_some (sym (either (refuse_moved.nodes y) (λ q. ap (λ n. n.error) q.1) (λ q. absurd (not_both (is_in E.same (x ∷ []) y) h q.0))) ∙ o.clean)

      pub refuse_base : B w [] → B (refuse E w x u) []
      refuse_base b = ending_base refuse_ending x refuse_moved unended b (λ y h o. absurd (unclean y h o)) (λ y h o. absurd (unclean y h o))
