-- The places of names in a list, as a finite map has them, and as an index has them that may keep nothing.
use Rattle.std.specs.Prelude.{◌≡◌, ℕ, suc, List, [], ◌∷◌, Option, Some, None, option_map, bytes_eq, if◌then◌else◌}
use Rattle.esm_base.specs.TextMap.{TextMapView, at}
use Rattle.esm_env.specs.declared.name_index.NameIndex.{NameIndex}

-- the first place of a name, if the list has it
abbrev pub first_place : List (List ℕ) → List ℕ → Option ℕ
first_place [] x = None
first_place (name ∷ names) x = if bytes_eq name x then Some 0 else option_map suc (first_place names x)

-- the map has each name of the list at its first place, and no other name
abbrev pub ArePlaces : TextMapView ℕ → List (List ℕ) → Type 0
ArePlaces places names = (x : List ℕ) → at x places ≡ first_place names x

-- where nothing is kept, that is right for each list
abbrev pub AreKept : Option (TextMapView ℕ) → List (List ℕ) → Type 0
AreKept None names = Unit {0}
AreKept (Some places) names = ArePlaces places names

-- the index is right for a list of these names
abbrev pub IsIndexOf : NameIndex → List (List ℕ) → Type 0
IsIndexOf index names = AreKept index.places names
