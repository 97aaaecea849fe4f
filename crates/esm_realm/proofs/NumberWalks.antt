-- Walks over numbers exist.
use Rattle.std.proofs.Common.{◌≡◌, ℕ, suc, zero, ◌<◌, Bool, true, false, List, [], ◌∷◌, refl, ap, subst, sym, arith, nat_eq, eqb-true}
use Rattle.std.specs.Prelude.{◌||◌}
use Rattle.esm_realm.specs.Walk.{Mark, Visits}
use Rattle.esm_base.specs.Lists.{is_in}
use Rattle.esm_realm.proofs.Lists.{either}
use Rattle.esm_realm.proofs.Numbers.{In, own, in_first, in_later, in_cons, clash}
use Rattle.esm_realm.proofs.HasWalks.{walks_inside}

upto : ℕ → List ℕ
upto zero = []
upto (suc n) = n ∷ upto n

upto_has : (n y : ℕ) → y < n → In (upto n) y
unfolding upto
upto_has zero y lt = absurd (omega arith)
upto_has (suc n) y lt = by (nat_eq y n) refl (upto_has n y)
  where
    by : (b : Bool) → nat_eq y n ≡ b → (y < n → In (upto n) y) → In (n ∷ upto n) y
    by true e rest = ap (λ b. b || is_in nat_eq (upto n) y) e
    by false e rest = in_later n (upto n) y (rest (let ne = other e in omega (arith, lt, ne)))
      where
        other : nat_eq y n ≡ false → y ≡ n → ⊥
        other e s = clash (n ∷ []) y (subst (λ z. In (n ∷ []) z) (sym s) (in_first n [])) (ap (λ b. b || false) e)

upto_below : (n y : ℕ) → In (upto n) y → y < n
unfolding upto
upto_below zero y h = cc
upto_below (suc n) y h = either (in_cons n (upto n) y h) (λ e. omega (arith, e)) (λ k. let lt = upto_below n y k in omega (arith, lt))

pub number_walk : (to : ℕ → List ℕ) (n : ℕ) → ((x t : ℕ) → x < n → In (to x) t → t < n) → (closed : List ℕ) (root : ℕ) → root < n → (marks : List (Mark ℕ)) × (after : List ℕ) × Visits nat_eq to closed root marks after
number_walk to n inside closed root lt = walks_inside nat_eq own eqb-true to (upto n) (λ x. x < n) (λ x t lt h. inside x t lt h) (λ x lt. upto_has n x lt) closed root lt
