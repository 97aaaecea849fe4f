-- The names that a scope declares, as its tree has them, and names by their places.
use Rattle.std.proofs.Common.{◌≡◌, ℕ, zero, suc, Bool, true, false, ◌+◌, ◌<◌, ◌≤◌, List, [], ◌∷◌, ◌++◌, map, length, refl, ap, sym, subst, ◌∙◌, slice_index_or, arith}
use Rattle.std.proofs.lemmas.List.{map-append}
use Rattle.std.proofs.lemmas.Option.{slice_get-get_or}
use Rattle.std.proofs.lemmas.Slice.Eq.{bytes_eq-Decides}
use Rattle.std.specs.Prelude.{Option, Some, None, is_some, slice_get, option_map, bytes_eq, if◌then◌else◌}
use Rattle.esm_tree.specs.Syntax.{Item}
use Rattle.esm_base.specs.declared.module_id.ModuleId.{ModuleId}
use Rattle.esm_env.specs.Declarations.{Declaration, FunctionCode, declared_in, body_of, functions_by, functions_of}
use Rattle.esm_env.specs.Makes.{unset_slots, function_slots, names_by, function_names, slots_for}
use Rattle.esm_env.specs.NamePlaces.{first_place}
use Rattle.esm_env.specs.OwnNames.{own_names}
use Rattle.esm_values.specs.Code.{CodeValue}
use Rattle.esm_env.specs.Cells.{Reading, read_value, read_cell}
use Rattle.esm_env.specs.Placed.{names_of, place_by, place_of}
use Rattle.esm_env.specs.Scopes.{Scopes, scope_in, import_of, read_import, read_in, read_or, wrote_by, wrote_set}
use Rattle.esm_env.specs.Scopes.{cell_by as scope_cell}
use Rattle.esm_env.specs.declared.scope.ModuleScope.{ModuleScope}
use Rattle.esm_env.specs.declared.scope.Wrote.{Wrote}
use Rattle.esm_env.specs.declared.scope.Wrote.TheVariants as wrote
use Rattle.esm_env.specs.Slots.{IsPlace, place_in, slot_in, cell_in, slot_cell}
use Rattle.esm_env.specs.declared.slots.Slot.{Slot}
use Rattle.esm_env.proofs.FoundNames.{slot_names, slot_place}

unset_names : (ds : List Declaration) → slot_names (unset_slots ds) ≡ map (λ (d : Declaration). d.name) ds
unset_names [] = refl
unset_names (d ∷ ds) = ap (λ ns. d.name ∷ ns) (unset_names ds)

numbered_names : (m : ModuleId) (i : ℕ) (names : List (List ℕ)) → slot_names (function_slots m i names) ≡ names
numbered_names m i [] = refl
numbered_names m i (name ∷ names) = ap (λ ns. name ∷ ns) (numbered_names m (i + 1) names)

item_names : (items : List Item) → function_names items ≡ map (λ (f : FunctionCode). f.name) (functions_of items)
item_names [] = refl
item_names (item ∷ items) = ap (λ ns. names_by item ++ ns) (item_names items) ∙ sym (map-append (λ (f : FunctionCode). f.name) (functions_by item) (functions_of items))

pub made_names : (m : ModuleId) (items : List Item) → slot_names (slots_for m items) ≡ own_names items
made_names m items =
    map-append (λ (s : Slot). s.name) (unset_slots (declared_in (body_of items))) (function_slots m 0 (function_names items))
    ∙ ap (λ ns. ns ++ slot_names (function_slots m 0 (function_names items))) (unset_names (declared_in (body_of items)))
    ∙ ap (λ ns. map (λ (d : Declaration). d.name) (declared_in (body_of items)) ++ ns) (numbered_names m 0 (function_names items) ∙ item_names items)

-- ---- places

-- what has a place stands there
pub placed_below : (slots : List Slot) (x : List ℕ) (place : ℕ) → first_place (slot_names slots) x ≡ Some place → place < length slots
placed_below slots x place e = (slot_place slots x (Some place) (sym e)).1

pub placed_slot : (slots : List Slot) (x : List ℕ) (place : ℕ) (d : Slot) → first_place (slot_names slots) x ≡ Some place → slot_in slots x ≡ Some (slice_index_or slots place d)
placed_slot slots x place d e =
    let p = slot_place slots x (Some place) (sym e) in
    ap (λ n. slice_get slots n) p.0 ∙ slice_get-get_or slots place d p.1

pub placed_in : (slots : List Slot) (x : List ℕ) (place : ℕ) → first_place (slot_names slots) x ≡ Some place → place_in slots x ≡ place
placed_in slots x place e = (slot_place slots x (Some place) (sym e)).0

-- the place that is found is the place
both : (slots : List Slot) (x : List ℕ) (o p : Option ℕ) → IsPlace slots x o → IsPlace slots x p → o ≡ p
both slots x None None h k = refl
both slots x None (Some q) h k = let e = h in let f = k in absurd (omega arith)
both slots x (Some p) None h k = let e = h in let f = k in absurd (omega arith)
both slots x (Some p) (Some q) h k = ap (λ n. Some n) (sym h.0 ∙ k.0)

pub place_told : (slots : List Slot) (x : List ℕ) (o : Option ℕ) → IsPlace slots x o → o ≡ first_place (slot_names slots) x
place_told slots x o h = both slots x o (first_place (slot_names slots) x) h (slot_place slots x (first_place (slot_names slots) x) refl)

module _ (s : Slot) (x : List ℕ) (d : Slot) (later : List Slot) (next : (place : ℕ) → first_place (slot_names later) x ≡ Some place → (slice_index_or later place d).name ≡ x) where
  later_name : (o : Option ℕ) → first_place (slot_names later) x ≡ o → (place : ℕ) → option_map suc o ≡ Some place → (slice_index_or (s ∷ later) place d).name ≡ x
  later_name None q place e = cc
  later_name (Some k) q zero e = cc
  later_name (Some k) q (suc place) e = let same : k ≡ place = cc in next place (q ∙ ap (λ n. Some n) same)

  first_name : (b : Bool) → bytes_eq s.name x ≡ b → (place : ℕ) → (if b then Some 0 else option_map suc (first_place (slot_names later) x)) ≡ Some place → (slice_index_or (s ∷ later) place d).name ≡ x
  first_name true h zero e = (bytes_eq-Decides s.name x).0 h
  first_name true h (suc place) e = cc
  first_name false h place e = later_name (first_place (slot_names later) x) refl place e

-- it has that name
pub placed_name : (slots : List Slot) (x : List ℕ) (place : ℕ) (d : Slot) → first_place (slot_names slots) x ≡ Some place → (slice_index_or slots place d).name ≡ x
placed_name [] x place d e = cc
placed_name (s ∷ ss) x place d e = first_name s x d ss (λ p k. placed_name ss x p d k) (bytes_eq s.name x) refl place e

-- ---- reading

pub some_slot : (slots : List Slot) (x : List ℕ) (place : ℕ) → first_place (slot_names slots) x ≡ Some place → (t : Slot) × (slot_in slots x ≡ Some t)
some_slot [] x place e = let h = placed_below [] x place e in absurd (omega arith)
some_slot (s ∷ ss) x place e = (slice_index_or (s ∷ ss) place s, placed_slot (s ∷ ss) x place s e)

pub read_slot : (slots : List Slot) (x : List ℕ) (place : ℕ) (v : Option CodeValue) → ((d : Slot) → v ≡ (slot_cell (slice_index_or slots place d)).value) → first_place (slot_names slots) x ≡ Some place
    → read_value v ≡ read_cell (cell_in (slot_in slots x))
read_slot [] x place v h e = let k = placed_below [] x place e in absurd (omega arith)
read_slot (s ∷ ss) x place v h e = ap read_value (h s) ∙ sym (ap (λ o. read_cell (cell_in o)) (placed_slot (s ∷ ss) x place s e))

pub found_of : (e : Scopes) (m : ℕ) (s : ModuleScope) (x : List ℕ) (place : ℕ) → scope_in e m ≡ Some s → place_of e m x ≡ Some place → first_place (names_of s) x ≡ Some place
found_of e m s x place h p = sym (ap (λ o. place_by o x) h) ∙ p

-- a name with a place is read there
pub value_read : (e : Scopes) (m : ℕ) (s : ModuleScope) (x : List ℕ) (place : ℕ) (r : Reading CodeValue) → scope_in e m ≡ Some s → r ≡ read_cell (cell_in (slot_in s.slots.items x)) → place_of e m x ≡ Some place
    → r ≡ read_in e m x
value_read e m s x place r h k p =
    let t = some_slot s.slots.items x place (found_of e m s x place h p) in
    k ∙ ap (λ o. read_cell (cell_in o)) t.1
    ∙ sym (ap (λ c. read_or c (read_import e (import_of (scope_in e m) x))) (ap (λ o. scope_cell o x) h ∙ ap cell_in t.1))

-- ---- writing

unset_by : (constant : Bool) (v : Option CodeValue) → is_some v ≡ false → wrote.Unset ≡ wrote_set constant v
unset_by constant None e = refl
unset_by constant (Some v) e = absurd (cc)

constant_by : (constant : Bool) (v : Option CodeValue) → is_some v ≡ true → constant ≡ true → wrote.Constant ≡ wrote_set constant v
constant_by constant None e h = absurd (cc)
constant_by true (Some v) e h = refl
constant_by false (Some v) e h = absurd (cc)

done_by : (constant : Bool) (v : Option CodeValue) → is_some v ≡ true → constant ≡ false → wrote.Done ≡ wrote_set constant v
done_by constant None e h = absurd (cc)
done_by true (Some v) e h = absurd (cc)
done_by false (Some v) e h = refl

abbrev SetAt : List Slot → ℕ → Bool → Type 0
SetAt slots place is = (d : Slot) → is ≡ is_some (slot_cell (slice_index_or slots place d)).value

set_slot : (slots : List Slot) (place : ℕ) (is : Bool) (t : Slot) → SetAt slots place is → place < length slots → slice_get slots place ≡ Some t → is_some (slot_cell t).value ≡ is
set_slot slots place is t h below k =
    let same : slice_index_or slots place t ≡ t = one _ _ (sym (slice_get-get_or slots place t below) ∙ k) in
    subst (λ u. is_some (slot_cell u).value ≡ is) same (sym (h t))
  where
    one : (a b : Slot) → ◌≡◌ {A = Option Slot} (Some a) (Some b) → a ≡ b
    one a b q = cc

-- what a write at a place comes to
abbrev wrote_there : List Slot → ℕ → Wrote
wrote_there slots place = wrote_by (cell_in (slice_get slots place)) false

pub constant_at : (slots : List Slot) (place : ℕ) (is : Bool) (t : Slot) → SetAt slots place is → is ≡ true → place < length slots → slice_get slots place ≡ Some t → t.constant ≡ true → wrote.Constant ≡ wrote_there slots place
constant_at slots place is t h b below k c = constant_by t.constant (slot_cell t).value (set_slot slots place is t h below k ∙ b) c ∙ sym (ap (λ o. wrote_by (cell_in o) false) k)

pub done_at : (slots : List Slot) (place : ℕ) (is : Bool) (t : Slot) → SetAt slots place is → is ≡ true → place < length slots → slice_get slots place ≡ Some t → t.constant ≡ false → wrote.Done ≡ wrote_there slots place
done_at slots place is t h b below k c = done_by t.constant (slot_cell t).value (set_slot slots place is t h below k ∙ b) c ∙ sym (ap (λ o. wrote_by (cell_in o) false) k)

pub unset_at : (slots : List Slot) (place : ℕ) (is : Bool) → SetAt slots place is → is ≡ false → place < length slots → wrote.Unset ≡ wrote_there slots place
unset_at [] place is h b below = absurd (omega (arith, below))
unset_at (s ∷ ss) place is h b below =
    let t = slice_index_or (s ∷ ss) place s in
    unset_by t.constant (slot_cell t).value (sym (h s) ∙ b) ∙ sym (ap (λ o. wrote_by (cell_in o) false) (slice_get-get_or (s ∷ ss) place s below))

pub none_at : (slots : List Slot) (place : ℕ) → length slots ≤ place → wrote.Undeclared ≡ wrote_there slots place
none_at [] place h = refl
none_at (s ∷ ss) zero h = absurd (omega (arith, h))
none_at (s ∷ ss) (suc place) h = none_at ss place (omega (arith, h))
