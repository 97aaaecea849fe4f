-- Whether there are as many operands at a place as it takes.
use Rattle.std.specs.Prelude.{◌≡◌, ℕ, zero, suc, List, [], ◌∷◌}
use Rattle.esm_row_laws.specs.Spots.{Kont, Uses, Ors, Ands, Equals, Compares, Sums, Adds, Turns, Posts, Passes, Prints, Makes, Imports, Spot, Begins, Has, Between, Opens, Handles}

module _ {V : Type 0} where
  -- one of them, and then this of those below
  abbrev pub OneMore : (List V → Type 0) → List V → Type 0
  OneMore Room [] = ⊥
  OneMore Room (v ∷ vs) = Room vs

  -- so many of them
  abbrev pub SoMany : ℕ → (List V → Type 0) → List V → Type 0
  SoMany zero Room vs = Room vs
  SoMany (suc n) Room [] = ⊥
  SoMany (suc n) Room (v ∷ vs) = SoMany n Room vs

  -- none is left over
  abbrev pub HasRoom : Kont → List V → Type 0
  HasRoom (Uses purpose behind rs) vs = vs ≡ []
  HasRoom (Ors es k) vs = HasRoom k vs
  HasRoom (Ands es k) vs = HasRoom k vs
  HasRoom (Equals cs k) vs = HasRoom k vs
  HasRoom (Compares alike cs k) vs = OneMore (HasRoom k) vs
  HasRoom (Sums es k) vs = HasRoom k vs
  HasRoom (Adds es k) vs = OneMore (HasRoom k) vs
  HasRoom (Turns k) vs = HasRoom k vs
  HasRoom (Posts ls k) vs = HasRoom k vs
  HasRoom (Passes n es ls k) vs = SoMany n (OneMore (HasRoom k)) vs
  HasRoom (Prints n es k) vs = SoMany n (HasRoom k) vs
  HasRoom (Makes k) vs = HasRoom k vs
  HasRoom (Imports k) vs = HasRoom k vs

  abbrev pub SpotHasRoom : Spot → List V → Type 0
  SpotHasRoom (Begins e k) vs = HasRoom k vs
  SpotHasRoom (Has k) vs = OneMore (HasRoom k) vs
  SpotHasRoom (Between behind rs) vs = vs ≡ []
  SpotHasRoom (Opens opening ss behind rs) vs = vs ≡ []
  SpotHasRoom (Handles caught handler behind rs) vs = OneMore (λ us. us ≡ []) vs
