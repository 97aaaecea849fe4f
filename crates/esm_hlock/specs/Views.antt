-- What a seat knows.
use Rattle.std.specs.Prelude.{◌≡◌, ℕ, ◌<◌, true, false, if◌then◌else◌, nat_lt, List, [], ◌∷◌, length, Option}
use Rattle.atomic_table.specs.Table.{Me}
use Rattle.esm_hlock.specs.declared.view.View.{View}
use Rattle.esm_hlock.specs.Makers.{times, names}

-- the longer of two lists, the first where they are as long
abbrev pub longer : {E : Type 0} → List E → List E → List E
longer xs ys = if nat_lt (length xs) (length ys) then ys else xs

-- with all shares it lists each maker of an entry that it has seen, exactly once
abbrev pub HasAllMakers : {E : Type 0} → (E → Option ℕ) → View E → Type 0
HasAllMakers maker v = v.shares ≡ 1024 → (k : ℕ) → names maker k v.seen ≡ 1 → times k v.numbers ≡ 1

-- the place of the one slot in hand, and 1 where it isn't one
abbrev pub hand_of : {A : Type 0} → List (ℕ × A) → ℕ
hand_of [] = 1
hand_of ((k, a) ∷ []) = k
hand_of (x ∷ y ∷ more) = 1

module _ {S E : Type 0} where
  -- it has a share, and neither a ticket nor the state
  abbrev pub IsIdle : Me S (View E) → Type 0
  IsIdle m = (length m.1 ≡ 0) × (m.0.has_ticket ≡ false) × (m.0.has_state ≡ false) × (0 < m.0.shares)

  -- it has a share, and its turn with the state's slot in hand
  abbrev pub IsHolder : Me S (View E) → Type 0
  IsHolder m = (hand_of m.1 ≡ 0) × (m.0.has_ticket ≡ true) × (m.0.has_state ≡ true) × (0 < m.0.shares)
