-- Finite maps from texts: a map is the list of its entries, each key once, in the order of the keys' bytes.
use Rattle.std.specs.Prelude.{ℕ, List, Option, None, Some, is_some, if◌then◌else◌}
use Rattle.std.specs.BTreeMap.{insert_entry, is_at}
use Rattle.std.specs.Cmp.Lexicographic.{slice_cmp}
use Rattle.std.specs.Map.{lookup}
use Rattle.std.specs.Ordering.{nat_cmp}

-- the entries of a map from texts
abbrev pub TextMapView : Type 0 → Type 0
TextMapView A = List (List ℕ × A)

-- what a map has at a key
abbrev pub at : {A : Type 0} → List ℕ → TextMapView A → Option A
at key map = lookup (is_at (slice_cmp nat_cmp key)) map

-- the map with one entry more
abbrev pub with : {A : Type 0} → List ℕ → A → TextMapView A → TextMapView A
with key value map = insert_entry (slice_cmp nat_cmp) map key value

-- the same, where the map doesn't have the key yet
abbrev pub with_new : {A : Type 0} → List ℕ → A → TextMapView A → Option (TextMapView A)
with_new key value map = if is_some (at key map) then None else Some (with key value map)
