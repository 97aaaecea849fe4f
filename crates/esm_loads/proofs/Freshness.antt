-- How many modules a load hasn't visited.
use Rattle.std.proofs.Common.{◌≡◌, ℕ, suc, zero, ◌<◌, ◌≤◌, Bool, true, false, List, [], ◌∷◌, ◌++◌, refl, ap, sym, ◌∙◌, arith, inl, inr}
use Rattle.std.specs.Prelude.{◌⊎◌, nat_eq}
use Rattle.esm_loads.specs.LoadsView.{is_in}
use Rattle.esm_loads.specs.Inner.Steps.{fresh_by, fresh_below}
use Rattle.esm_loads.proofs.Places.{same_place}
use Rattle.esm_loads.proofs.Lookups.{in_push, own_id, other_id, or_right, or_nothing}

fresh_same : (n : ℕ) (ids : List ℕ) (id : ℕ) → n ≤ id → fresh_below n (ids ++ id ∷ []) ≡ fresh_below n ids
fresh_same zero ids id l = refl
fresh_same (suc n) ids id l =
    ap (λ b. fresh_by b (fresh_below n (ids ++ id ∷ []))) (in_push ids id n ∙ or_nothing (is_in ids n) (nat_eq n id) (other_id n id (λ e. omega (arith, e, l)))) ∙ ap (fresh_by (is_in ids n)) (fresh_same n ids id (omega (arith, l)))

-- one more is visited
pub fresh_visit : (n : ℕ) (ids : List ℕ) (id : ℕ) → id < n → is_in ids id ≡ false → suc (fresh_below n (ids ++ id ∷ [])) ≡ fresh_below n ids
fresh_visit zero ids id l e = absurd (omega arith)
fresh_visit (suc n) ids id l e = by (same_place n id) (λ m. fresh_visit n ids id m e)
  where
    step : (b : Bool) → suc (fresh_below n (ids ++ id ∷ [])) ≡ fresh_below n ids → suc (fresh_by b (fresh_below n (ids ++ id ∷ []))) ≡ fresh_by b (fresh_below n ids)
    step true h = h
    step false h = ap suc h

    by : (n ≡ id) ⊎ (n ≡ id → ⊥) → (id < n → suc (fresh_below n (ids ++ id ∷ [])) ≡ fresh_below n ids) → suc (fresh_by (is_in (ids ++ id ∷ []) n) (fresh_below n (ids ++ id ∷ []))) ≡ fresh_by (is_in ids n) (fresh_below n ids)
    by (inl h) rest =
        let now : is_in (ids ++ id ∷ []) n ≡ true = in_push ids id n ∙ or_right (is_in ids n) (nat_eq n id) (ap (λ n. nat_eq n id) h ∙ own_id id) in
        let was : is_in ids n ≡ false = ap (is_in ids) h ∙ e in
        ap (λ b. suc (fresh_by b (fresh_below n (ids ++ id ∷ [])))) now ∙ (ap suc (fresh_same n ids id (omega (arith, h))) ∙ ap (λ b. fresh_by b (fresh_below n ids)) (sym was))
    by (inr h) rest =
        let now : is_in (ids ++ id ∷ []) n ≡ is_in ids n = in_push ids id n ∙ or_nothing (is_in ids n) (nat_eq n id) (other_id n id h) in
        ap (λ b. suc (fresh_by b (fresh_below n (ids ++ id ∷ [])))) now ∙ step (is_in ids n) (rest (omega (arith, l, h)))
