-- The places of modules among the open ones, the oldest first. ECMA-262, [[DFSAncestorIndex]]: a component closes where no
-- lower place was found.
use Rattle.std.specs.Prelude.{◌≡◌, ◌<◌, ◌≤◌, ◌⊎◌, ℕ, true, nat_eq, List, ◌∷◌, length, slice_get, Some}
use Rattle.esm_base.specs.Lists.{is_in}

module _ (to : ℕ → List ℕ) where
  -- one of these modules has a target at this place among the old ones
  pub record LeadsToPlace (modules old : List ℕ) (place : ℕ) : Type 0 where
    pub member : ℕ
    pub target : ℕ
    pub among : is_in nat_eq modules member ≡ true
    pub leads : is_in nat_eq (to member) target ≡ true
    pub at : slice_get old place ≡ Some target

  -- the place that a visit of x answers, which put `added` above the old ones: the lowest that it found
  pub record Low (old added : List ℕ) (x low : ℕ) : Type 0 where
    pub hit : low < length old → (slice_get old low ≡ Some x) ⊎ LeadsToPlace added old low
    pub itself : (k : ℕ) → slice_get old k ≡ Some x → low ≤ k
    pub least : (k : ℕ) → LeadsToPlace added old k → low ≤ k

  -- amid the loop over the targets of x
  pub record Lowest (old members : List ℕ) (x i low : ℕ) : Type 0 where
    pub hit : low < length old → LeadsToPlace (x ∷ members) old low
    pub passed : (j t k : ℕ) → j < i → slice_get (to x) j ≡ Some t → slice_get old k ≡ Some t → low ≤ k
    pub least : (k : ℕ) → LeadsToPlace members old k → low ≤ k
