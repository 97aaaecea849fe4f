-- The scope of a module by its number.
use Rattle.std.proofs.Common.{◌≡◌, ℕ, zero, suc, ◌<◌, ◌≤◌, [], ◌∷◌, ◌++◌, length, refl, ap, slice_set, slice_index_or, arith}
use Rattle.std.specs.Prelude.{Option, None}
use Rattle.esm_env.specs.Scopes.{Scopes, scope_in}
use Rattle.esm_env.specs.declared.scope.ModuleScope.{ModuleScope}

pub scope_at : (e : Scopes) (i : ℕ) (d : Option ModuleScope) → i < length e → scope_in e i ≡ slice_index_or e i d
scope_at [] i d h = absurd (omega (arith, h))
scope_at (s ∷ ss) zero d h = refl
scope_at (s ∷ ss) (suc i) d h = scope_at ss i d (omega (arith, h))

pub scope_none : (e : Scopes) (i : ℕ) → length e ≤ i → scope_in e i ≡ None
scope_none [] i h = refl
scope_none (s ∷ ss) zero h = absurd (omega (arith, h))
scope_none (s ∷ ss) (suc i) h = scope_none ss i (omega (arith, h))

pub scope_set : (e : Scopes) (i : ℕ) (t : Option ModuleScope) → i < length e → scope_in (slice_set e i t) i ≡ t
scope_set [] i t h = absurd (omega (arith, h))
scope_set (s ∷ ss) zero t h = refl
scope_set (s ∷ ss) (suc i) t h = scope_set ss i t (omega (arith, h))

pub scope_other : (e : Scopes) (i : ℕ) (t : Option ModuleScope) (n : ℕ) → (n ≡ i → ⊥) → scope_in (slice_set e i t) n ≡ scope_in e n
scope_other [] i t n h = refl
scope_other (s ∷ ss) zero t zero h = absurd (h refl)
scope_other (s ∷ ss) zero t (suc n) h = refl
scope_other (s ∷ ss) (suc i) t zero h = refl
scope_other (s ∷ ss) (suc i) t (suc n) h = scope_other ss i t n (λ e. h (ap (λ k. suc k) e))

pub scope_push : (e : Scopes) (n : ℕ) → scope_in (e ++ None ∷ []) n ≡ scope_in e n
scope_push [] zero = refl
scope_push [] (suc n) = refl
scope_push (s ∷ ss) zero = refl
scope_push (s ∷ ss) (suc n) = scope_push ss n
