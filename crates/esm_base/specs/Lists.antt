-- Lists of names of any kind, where a test says which names are the same.
use Rattle.std.specs.Prelude.{◌≡◌, Bool, true, false, List, [], ◌∷◌}
use Rattle.std.specs.List.{list_any}

-- the test tells names apart: it is true of a name and itself, and of no two names
pub record IsSameness {N : Type 0} (same : N → N → Bool) : Type 0 where
  pub own : (x : N) → same x x ≡ true
  pub equal : (x y : N) → same x y ≡ true → x ≡ y

-- the list has the name
abbrev pub is_in : {N : Type 0} → (N → N → Bool) → List N → N → Bool
is_in same xs x = list_any (same x) xs

-- no name stands twice
abbrev pub EachOnce : {N : Type 0} → (N → N → Bool) → List N → Type 0
EachOnce same [] = Unit {0}
EachOnce same (x ∷ xs) = (is_in same xs x ≡ false) × EachOnce same xs
