-- Which bodies have begun amid a visit.
use Rattle.std.proofs.Common.{◌≡◌, ℕ, Bool, true, false, List, refl, ap, subst, sym, ◌∙◌, inl, inr, nat_eq}
use Rattle.std.specs.Prelude.{◌⊎◌, ◌||◌}
use Rattle.esm_realm.proofs.Urls.{not_true, not_both}
use Rattle.esm_realm.proofs.Lists.{either}
use Rattle.esm_eval.specs.Evaluation.{IsLawful, IsSteady, add_wait, wait_on}
use Rattle.esm_eval.specs.Evaluate.{WalkEnd, Ends, Leaves, enter, close, keep}
use Rattle.esm_eval.specs.Begins.{BeginsOne, HaveBegunOnce}
use Rattle.esm_eval.specs.Calls.{CodeEvaluation, CodeCalls, numbered}
use Rattle.esm_eval.specs.Inner.Visit.{Unbegun, BeginsNew}
use Rattle.esm_eval.specs.WalkSteps.{is_entered, Keeps, Opens}
use Rattle.esm_eval.proofs.Amid.{not_entered}
use Rattle.esm_eval.proofs.Once.{run_of, start_of, quiet_wait, quiet_close}

or_second : (a b : Bool) → (a || b) ≡ false → b ≡ false
or_second true b h = cc
or_second false b h = h

or_first : (a b : Bool) → (a || b) ≡ false → a ≡ false
or_first true b h = cc
or_first false b h = refl

module _ {W : Type 0} (E : CodeEvaluation W) where
  -- between two calls what no evaluation has entered hasn't begun
  pub unbegun_of : (w : W) → HaveBegunOnce (numbered E) w → Unbegun E w
  unbegun_of w h y e = h.unbegun y (not_entered _ e)

  -- amid a visit of x from the world w0, whose body hasn't begun
  pub record Going (w0 : W) (x : ℕ) (w : W) : Type 0 where
    pub unbegun : Unbegun E w
    pub still : (y : ℕ) → is_entered E w0 y ≡ true → E.begun w0 y ≡ false → E.begun w y ≡ false
    pub own : E.begun w x ≡ false

  pub begins_none : (w : W) → Unbegun E w → BeginsNew E w w
  begins_none w u = record { unbegun = u; still = λ y e h. h }

  -- another visit
  pub going_visit : (w0 w v : W) (x : ℕ) → Going w0 x w → is_entered E w x ≡ true → ((y : ℕ) → is_entered E w0 y ≡ true → is_entered E w y ≡ true) → BeginsNew E w v → Going w0 x v
  going_visit w0 w v x g e s b = record {
    unbegun = b.unbegun;
    still = λ y i h. b.still y (s y i) (g.still y i h);
    own = b.still x e g.own;
  }

  unbegun_like : (w v : W) → ((y : ℕ) → E.begun v y ≡ E.begun w y) → ((y : ℕ) → is_entered E v y ≡ is_entered E w y) → Unbegun E w → Unbegun E v
  unbegun_like w v b p u y e = b y ∙ u y (sym (p y) ∙ e)

  going_like : (w0 w v : W) (x : ℕ) → ((y : ℕ) → E.begun v y ≡ E.begun w y) → ((y : ℕ) → is_entered E v y ≡ is_entered E w y) → Going w0 x w → Going w0 x v
  going_like w0 w v x b p g = record {
    unbegun = unbegun_like w v b p g.unbegun;
    still = λ y i h. b y ∙ g.still y i h;
    own = b x ∙ g.own;
  }

  begins_like : (w0 w v : W) → ((y : ℕ) → E.begun v y ≡ E.begun w y) → ((y : ℕ) → is_entered E v y ≡ is_entered E w y) → BeginsNew E w0 w → BeginsNew E w0 v
  begins_like w0 w v b p g = record { unbegun = unbegun_like w v b p g.unbegun; still = λ y i h. b y ∙ g.still y i h }

  module _ (L : IsLawful (numbered E)) (linked : W → ℕ → Bool) (left : W → ℕ) where
    begun_at : (w v u : W) → v ≡ u → ((y : ℕ) → E.begun u y ≡ E.begun w y) → (y : ℕ) → E.begun v y ≡ E.begun w y
    begun_at w v u e h y = ap (λ s. E.begun s y) e ∙ h y

    pub going_enter : (w v : W) (x : ℕ) → Unbegun E w → is_entered E w x ≡ false → v ≡ enter (numbered E) w x → Opens E linked left w x v → Going w x v
    going_enter w v x u n e o = record {
      unbegun = λ y h. begun y ∙ u y (or_second (nat_eq y x) (is_entered E w y) (sym (o.phases y) ∙ h));
      still = λ y i h. begun y ∙ h;
      own = begun x ∙ u x n;
    }
      where
        begun : (y : ℕ) → E.begun v y ≡ E.begun w y
        begun = begun_at w v (enter (numbered E) w x) e (L.put w x _).begun

    pub going_pass : (w0 w v : W) (x t : ℕ) → Going w0 x w → v ≡ add_wait (numbered E) w x (wait_on (numbered E) w t) → Keeps E linked left w v → Going w0 x v
    going_pass w0 w v x t g e k =
        going_like w0 w v x (begun_at w v (add_wait (numbered E) w x (wait_on (numbered E) w t)) e (quiet_wait (numbered E) L w x (wait_on (numbered E) w t)).begun) k.phases g

    pub begins_close : (w0 w v : W) (x : ℕ) (ys : List ℕ) → BeginsNew E w0 w → v ≡ close (numbered E) w x ys → Keeps E linked left w v → BeginsNew E w0 v
    begins_close w0 w v x ys b e k =
        begins_like w0 w v (begun_at w v (close (numbered E) w x ys) e (quiet_close (numbered E) L x ys w).begun) k.phases b

    pub unbegun_keep : (w v : W) (m : ℕ) → Unbegun E w → v ≡ keep (numbered E) w m → Keeps E linked left w v → Unbegun E v
    unbegun_keep w v m u e k =
        let mid : W = E.make_promise w in
        unbegun_like w v (begun_at w v (keep (numbered E) w m) e (λ y. (L.put mid m _).begun y ∙ (L.make_promise w).far.begun y)) k.phases u

  module _ {S : Type 0} (acts : CodeCalls W S) (L : IsLawful (numbered E)) (steady : IsSteady (numbered E) acts) (one : BeginsOne (numbered E) acts) where
    -- where x is left no other body begins
    left_begun : {w : W} {x : ℕ} {end : WalkEnd _ S} {mid : W} → Leaves (numbered E) acts w x end mid → (y : ℕ) → E.begun mid y ≡ true → (E.begun w y ≡ true) ⊎ (y ≡ x)
    left_begun (Leaves.runs n o r) y h = (run_of (numbered E) acts L steady one r).begun y h
    left_begun {w} {x} (Leaves.starts n o r) y h = either ((start_of (numbered E) acts L steady one r).begun y h) (λ k. inl (sym ((L.add_stamp w x).begun y) ∙ k)) inr
    left_begun {w} {x} (Leaves.waiting n) y h = inl (sym ((L.add_stamp w x).begun y) ∙ h)

    pub begins_leave : (linked : W → ℕ → Bool) (left : W → ℕ) (w0 w v : W) (x : ℕ) → Going w0 x w → Leaves (numbered E) acts w x Ends v → Keeps E linked left w v → is_entered E w0 x ≡ false → is_entered E w x ≡ true → BeginsNew E w0 v
    begins_leave linked left w0 w v x g l k new now = record {
      unbegun = λ y h. let back : is_entered E w y ≡ false = sym (k.phases y) ∙ h in
          not_true (E.begun v y) (λ b. either (left_begun l y b) (λ i. not_both (E.begun w y) i (g.unbegun y back)) (λ e. not_both (is_entered E w x) now (subst (λ z. is_entered E w z ≡ false) e back)));
      still = λ y i h. not_true (E.begun v y) (λ b. either (left_begun l y b) (λ j. not_both (E.begun w y) j (g.still y i h)) (λ e. not_both (is_entered E w0 x) (subst (λ z. is_entered E w0 z ≡ true) e i) new));
    }
