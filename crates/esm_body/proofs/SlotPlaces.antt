-- A name of a block that is set, and that the index stays right.
use Rattle.std.proofs.Common.{◌≡◌, ℕ, zero, suc, ◌<◌, List, [], ◌∷◌, length, refl, ap, sym, subst, ◌∙◌, arith, get_or, slice_set}
use Rattle.std.specs.Prelude.{Some}
use Rattle.esm_values.specs.declared.value.Value.{Value}
use Rattle.esm_env.specs.NamePlaces.{IsIndexOf}
use Rattle.esm_env.specs.declared.name_index.NameIndex.{NameIndex}
use Rattle.esm_body.specs.Inner.SlotPlaces.{set_slot, names_of}
use Rattle.esm_body.specs.declared.work.Slot.{Slot}

pub slot_set : (ss : List Slot) (at : ℕ) (v : Value) (d : Slot) → at < length ss → slice_set ss at (record (get_or ss at d) { value = Some v }) ≡ set_slot ss at v
slot_set [] at v d h = absurd (omega (arith, h))
slot_set (s ∷ ss) zero v d h = refl
slot_set (s ∷ ss) (suc at) v d h = ap (λ ss. s ∷ ss) (slot_set ss at v d (omega (arith, h)))

names_set : (slots : List Slot) (at : ℕ) (v : Value) → names_of (set_slot slots at v) ≡ names_of slots
names_set [] at v = refl
names_set (s ∷ ss) zero v = refl
names_set (s ∷ ss) (suc at) v = ap (λ ns. s.name ∷ ns) (names_set ss at v)

pub indexed_set : (index : NameIndex) (slots new : List Slot) (at : ℕ) (v : Value) → new ≡ set_slot slots at v → IsIndexOf index (names_of slots) → IsIndexOf index (names_of new)
indexed_set index slots new at v e right = subst (λ names. IsIndexOf index names) (sym (ap names_of e ∙ names_set slots at v)) right
