-- The values of the names of a function, one after another, the outermost block's first.
use Rattle.std.specs.Prelude.{◌≡◌, ℕ, Bool, List, [], ◌∷◌, ◌++◌, length, slice_get, Option, Some, None}
use Rattle.esm_env.specs.Cells.{Cell}
use Rattle.esm_values.specs.Operators.{Values}
use Rattle.esm_rewriting.specs.Scopes.{in_scopes}
use Rattle.esm_rewriting.specs.Contexts.{scopes_in}
use Rattle.esm_rows.specs.Rows.{Names, found_in}
use Rattle.esm_row_laws.specs.Spots.{Round, names_of}
use Rattle.esm_row_laws.specs.Remaining.{contexts}

module _ {V : Type 0} where
  abbrev pub flat : List (List (Option V)) → List (Option V)
  flat [] = []
  flat (vs ∷ vss) = flat vss ++ vs

  -- each block has as many values as names
  abbrev pub FitNames : Names → List (List (Option V)) → Type 0
  FitNames [] [] = Unit {0}
  FitNames [] (vs ∷ vss) = ⊥
  FitNames (ds ∷ ns) [] = ⊥
  FitNames (ds ∷ ns) (vs ∷ vss) = (length vs ≡ length ds) × FitNames ns vss

  abbrev pub cell_with : Bool → Option V → Cell V
  cell_with constant v = record { constant = constant; value = v }

  -- a name that is found is that of the cell at its place; of another name there is no cell
  pub record NamesHavePlaces (values : Values V) : Type 0 where
    pub found : (rs : List Round) (vss : List (List (Option V))) (x : List ℕ) (place : ℕ) (constant : Bool) → FitNames (names_of rs) vss
        → found_in (names_of rs) x ≡ Some (record { place = place; constant = constant })
        → (v : Option V) × (slice_get (flat vss) place ≡ Some v)
        × (in_scopes (scopes_in (contexts values rs vss)) x ≡ Some (cell_with constant v))
    pub none : (rs : List Round) (vss : List (List (Option V))) (x : List ℕ) → FitNames (names_of rs) vss
        → found_in (names_of rs) x ≡ None → in_scopes (scopes_in (contexts values rs vss)) x ≡ None
