-- The names of a block, as its index has them, and one that is set.
use Rattle.std.specs.Prelude.{ℕ, zero, suc, List, [], ◌∷◌, map, Some}
use Rattle.esm_values.specs.declared.value.Value.{Value}
use Rattle.esm_body.specs.declared.work.Slot.{Slot}

abbrev pub names_of : List Slot → List (List ℕ)
names_of slots = map (λ s. s.name) slots

-- the slot at a place has this value
abbrev pub set_slot : List Slot → ℕ → Value → List Slot
set_slot [] at v = []
set_slot (s ∷ ss) zero v = record s { value = Some v } ∷ ss
set_slot (s ∷ ss) (suc at) v = s ∷ set_slot ss at v
