-- What a write at a place comes to.
use Rattle.std.proofs.Common.{◌≡◌, ℕ, zero, suc, Bool, true, false, List, [], ◌∷◌, refl, ap, sym, subst, ◌∙◌, eqb, ◌⊎◌, inl, inr}
use Rattle.std.specs.Prelude.{Option, Some, None, is_some, slice_get, option_map, bytes_eq, if◌then◌else◌}
use Rattle.std.proofs.lemmas.Bool.Decides.{eqb_tells}
use Rattle.esm_values.specs.declared.value.Value.{Value}
use Rattle.esm_env.specs.NamePlaces.{first_place}
use Rattle.esm_env.specs.Placed.{place_by as own_place, place_of}
use Rattle.esm_env.specs.Slots.{place_in, place_by, slot_in, cell_in, written_in, written_slot, write_slot}
use Rattle.esm_env.specs.Scopes.{Scopes, scope_in, written_by, cells_of, import_in, wrote_by, StaysOrWritesAt}
use Rattle.esm_env.specs.Calls.{IsWrittenBy, IsWrittenPlaceBy, IsWrittenAt}
use Rattle.esm_env.specs.Laws.{PlacesRight}
use Rattle.esm_env.specs.declared.slots.Slot.{Slot}
use Rattle.esm_env.specs.declared.scope.ModuleScope.{ModuleScope}
use Rattle.esm_env.specs.declared.scope.Wrote.{Wrote}
use Rattle.esm_env.proofs.FoundNames.{slot_names}
use Rattle.esm_env.proofs.OwnLemmas.{placed_in, placed_name, some_slot}
use Rattle.esm_env.proofs.WrittenLemmas.{SameOrOne, same_or_one, place_changes, like, faithful}

-- ---- one name

one_name : (slots : List Slot) (place : ℕ) (x y : List ℕ) → first_place (slot_names slots) x ≡ Some place → first_place (slot_names slots) y ≡ Some place → x ≡ y
one_name [] place x y e h = absurd (cc)
one_name (s ∷ ss) place x y e h = sym (placed_name (s ∷ ss) x place s e) ∙ placed_name (s ∷ ss) y place s h

once_by : (o : Option ModuleScope) (place : ℕ) (x y : List ℕ) → own_place o x ≡ Some place → own_place o y ≡ Some place → x ≡ y
once_by None place x y e h = absurd (cc)
once_by (Some s) place x y e h = one_name s.slots.items place x y e h

-- ---- the name at the place

-- what has a name with a place is a slot, whatever is imported
same_wrote : (slots : List Slot) (place : ℕ) (x : List ℕ) (imports : Bool) → first_place (slot_names slots) x ≡ Some place
    → wrote_by (cell_in (slice_get slots place)) false ≡ wrote_by (cell_in (slot_in slots x)) imports
same_wrote slots place x imports e =
    let t = some_slot slots x place e in
    let here : slice_get slots place ≡ Some t.0 = ap (λ n. slice_get slots n) (sym (placed_in slots x place e)) ∙ t.1 in
    ap (λ o. wrote_by (cell_in o) false) here ∙ sym (ap (λ o. wrote_by (cell_in o) imports) t.1)

to_name : (o p : Option ModuleScope) (place : ℕ) (x : List ℕ) (v : Value) (result : Wrote) → own_place o x ≡ Some place → IsWrittenPlaceBy o place v result p → IsWrittenBy o x v result p
to_name None p place x v result e h = h
to_name (Some s) None place x v result e h = h
to_name (Some s) (Some t) place x v result e h = (
  h.0 ∙ same_wrote s.slots.items place x (is_some (import_in s.imports.items x)) e,
  subst (λ n. StaysOrWritesAt s n v result t) (sym (placed_in s.slots.items x place e)) h.1,
)

to_place : (o p : Option ModuleScope) (place : ℕ) (x : List ℕ) (v : Value) (result : Wrote) → own_place o x ≡ Some place → IsWrittenBy o x v result p → IsWrittenPlaceBy o place v result p
to_place None p place x v result e h = h
to_place (Some s) None place x v result e h = h
to_place (Some s) (Some t) place x v result e h = (
  h.0 ∙ sym (same_wrote s.slots.items place x (is_some (import_in s.imports.items x)) e),
  subst (λ n. StaysOrWritesAt s n v result t) (placed_in s.slots.items x place e) h.1,
)

-- ---- no name has the place

first_else : (s : Slot) (ss : List Slot) (x : List ℕ) (v : Value) (b : Bool) → ((if b then Some 0 else option_map suc (first_place (slot_names ss) x)) ≡ Some 0 → ⊥)
    → written_in (slice_get (written_slot s v ∷ ss) (place_by b (place_in ss x))) ≡ written_in (slice_get (s ∷ ss) (place_by b (place_in ss x)))
first_else s ss x v true h = absurd (h refl)
first_else s ss x v false h = refl

later_else : (s : Slot) (ss late : List Slot) (place : ℕ) (x : List ℕ) (b : Bool) → ((first_place (slot_names ss) x ≡ Some place → ⊥) → written_in (slot_in late x) ≡ written_in (slot_in ss x))
    → ((if b then Some 0 else option_map suc (first_place (slot_names ss) x)) ≡ Some (suc place) → ⊥)
    → written_in (slice_get (s ∷ late) (place_by b (place_in late x))) ≡ written_in (slice_get (s ∷ ss) (place_by b (place_in ss x)))
later_else s ss late place x true again h = refl
later_else s ss late place x false again h = again (λ e. h (ap (option_map suc) e))

slot_else : (slots : List Slot) (place : ℕ) (x : List ℕ) (v : Value) → (first_place (slot_names slots) x ≡ Some place → ⊥) → written_in (slot_in (write_slot slots place v) x) ≡ written_in (slot_in slots x)
slot_else [] place x v h = refl
slot_else (s ∷ ss) zero x v h = first_else s ss x v (bytes_eq s.name x) h
slot_else (s ∷ ss) (suc place) x v h = later_else s ss (write_slot ss place v) place x (bytes_eq s.name x) (slot_else ss place x v) h

scope_else : (s t : ModuleScope) (place : ℕ) (x : List ℕ) (v : Value) → (own_place (Some s) x ≡ Some place → ⊥) → SameOrOne s place v t → written_by (Some t) x ≡ written_by (Some s) x
scope_else s t place x v h (inl e) = ap (λ t. written_by (Some t) x) e
scope_else s t place x v h (inr w) = ap (λ ss. written_in (slot_in ss x)) w.slots ∙ slot_else s.slots.items place x v h

else_by : (o p : Option ModuleScope) (place : ℕ) (x : List ℕ) (v : Value) (result : Wrote) → (own_place o x ≡ Some place → ⊥) → IsWrittenPlaceBy o place v result p → written_by p x ≡ written_by o x
else_by None p place x v result h w = ap (λ p. written_by p x) w.1
else_by (Some s) None place x v result h w = absurd w
else_by (Some s) (Some t) place x v result h w = scope_else s t place x v h (same_or_one s place v result t w.1)

module _ (e late : Scopes) (m place : ℕ) (v : Value) (result : Wrote) (free : (x : List ℕ) → place_of e m x ≡ Some place → ⊥) (w : IsWrittenAt e m place v result late) where
  cell_else : (n : ℕ) (x : List ℕ) → ((eqb n m ≡ true) × (n ≡ m)) ⊎ ((eqb n m ≡ false) × (n ≡ m → ⊥)) → cells_of late n x ≡ cells_of e n x
  cell_else n x (inl (b, same)) = subst (λ n. cells_of late n x ≡ cells_of e n x) (sym same) (else_by (scope_in e m) (scope_in late m) place x v result (free x) w.0)
  cell_else n x (inr (b, other)) = ap (λ o. written_by o x) (w.1 n other)

  unnamed : cells_of late ≡ cells_of e
  unnamed = λ j n x. cell_else n x (eqb_tells n m) j

pub places_right : PlacesRight
places_right = record {
  once = λ e m place x y. once_by (scope_in e m) place x y;
  is_write = λ e late m place x v result p h. (to_name (scope_in e m) (scope_in late m) place x v result p h.0, h.1);
  is_write_at = λ e late m place x v result p h. (to_place (scope_in e m) (scope_in late m) place x v result p h.0, h.1);
  unnamed = unnamed;
  faithful = λ g e late m place v result f h. faithful e late m v (place_changes (scope_in e m) (scope_in late m) place v result h.0) h.1 g f;
  stays = λ e late m place v result h. like e late m v (place_changes (scope_in e m) (scope_in late m) place v result h.0) h.1;
}
