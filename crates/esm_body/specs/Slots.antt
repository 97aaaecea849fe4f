-- The names of a block, as the code keeps them.
use Rattle.std.specs.Prelude.{ℕ, Bool, List, map, Option, None}
use Rattle.esm_env.specs.Declarations.{Declaration}
use Rattle.esm_env.specs.Slots.{valued_by}
use Rattle.esm_values.specs.Code.{CodeValue}
use Rattle.esm_values.specs.declared.value.Value.{Value}
use Rattle.esm_rewriting.specs.Scopes.{NamedCell, Scope}
use Rattle.esm_body.specs.declared.work.Slot.{Slot}

abbrev pub slot_with : List ℕ → Bool → Option Value → Slot
slot_with name constant value = record { name = name; constant = constant; value = value }

-- a name that isn't set
abbrev pub unset_slot : Declaration → Slot
unset_slot d = slot_with d.name d.constant None

abbrev pub unset_slots : List Declaration → List Slot
unset_slots ds = map unset_slot ds

abbrev pub slot_of : Slot → NamedCell CodeValue
slot_of s = record { name = s.name; cell = record { constant = s.constant; value = valued_by s.value } }

abbrev pub scope_of_slots : List Slot → Scope CodeValue
scope_of_slots ss = map slot_of ss
