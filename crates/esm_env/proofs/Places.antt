-- Slots that are written.
use Rattle.std.proofs.Common.{◌≡◌, ℕ, zero, suc, ◌<◌, List, [], ◌∷◌, length, refl, ap, slice_set, slice_index_or, arith}
use Rattle.esm_values.specs.declared.value.Value.{Value}
use Rattle.esm_env.specs.Slots.{write_slot, written_slot}
use Rattle.esm_env.specs.declared.slots.Slot.{Slot}

pub sets : (slots : List Slot) (i : ℕ) (d : Slot) (v : Value) → i < length slots → slice_set slots i (written_slot (slice_index_or slots i d) v) ≡ write_slot slots i v
sets [] i d v h = absurd (omega (arith, h))
sets (s ∷ ss) zero d v h = refl
sets (s ∷ ss) (suc i) d v h = ap (λ ts. s ∷ ts) (sets ss i d v (omega (arith, h)))

pub sets_none : (slots : List Slot) (v : Value) → slots ≡ write_slot slots (length slots) v
sets_none [] v = refl
sets_none (s ∷ ss) v = ap (λ ts. s ∷ ts) (sets_none ss v)
