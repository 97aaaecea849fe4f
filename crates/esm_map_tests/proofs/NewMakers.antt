-- A number that no entry has as its maker.
use Rattle.std.proofs.Common.{◌≡◌, ◌≤◌, ℕ, Bool, true, false, cond, List, [], ◌∷◌, arith, Option}
use mathlib.Core.Logic.{dite}
use native.Mathlib.Decide.{ℕ_discrete}
use Rattle.esm_hlock.specs.declared.view.View.{View}
use Rattle.esm_hlock.specs.Makers.{times, is_maker, names}
use Rattle.esm_hlock.specs.Views.{HasAllMakers}

below_cond : (b : Bool) (n : ℕ) → n ≤ 1 → cond b 1 n ≤ 1
below_cond true n h = omega arith
below_cond false n h = h

module _ {E : Type 0} (maker : E → Option ℕ) where
  names_at_most_one : (k : ℕ) (es : List E) → names maker k es ≤ 1
  names_at_most_one k [] = omega arith
  names_at_most_one k (e ∷ es) = below_cond (is_maker k (maker e)) (names maker k es) (names_at_most_one k es)

  -- one that a seat with all shares doesn't list is no maker's yet
  pub is_new : (v : View E) (k : ℕ) → HasAllMakers maker v → v.shares ≡ 1024 → times k v.numbers ≡ 0 → names maker k v.seen ≡ 0
  is_new v k all whole none = dite (ℕ_discrete (names maker k v.seen) 1)
      (λ one. let h = all whole k one in absurd (omega arith))
      (λ ne. let b = names_at_most_one k v.seen in omega arith)
