-- A scope that was made from the tree fits it.
use Rattle.std.proofs.Common.{◌≡◌, ℕ, zero, suc, ◌+◌, Bool, true, false, List, [], ◌∷◌, ◌++◌, map, refl, ap, subst, sym, ◌∙◌, arith}
use Rattle.std.specs.Prelude.{Option, Some, None, slice_get}
use Rattle.std.specs.Str.{bytes_eq}
use Rattle.std.proofs.lemmas.List.{map-append}
use Rattle.esm_tree.specs.Syntax.{Item}
use Rattle.esm_env.specs.Declarations.{Initial, Unset, FunctionAt, Declaration, FunctionCode, declared_in, body_of, functions_of, functions_by, function_named, declared_named, initial_by}
use Rattle.esm_base.specs.declared.module_id.ModuleId.{ModuleId}
use Rattle.esm_env.specs.Slots.{place_in, place_by, slot_in, valued_by, written_in}
use Rattle.esm_env.specs.Makes.{unset_slot, unset_slots, function_slot, function_slots, names_by, function_names, slots_for}
use Rattle.esm_env.specs.Faithful.{SlotFits}
use Rattle.esm_env.specs.Laws.{MadeFits}
use Rattle.esm_env.specs.declared.slots.Slot.{Slot}

name_of : FunctionCode → List ℕ
name_of f = f.name

-- of a slot in front: found by its name, or further on
front : (m : ℕ) (s : Slot) (ss : List Slot) (x : List ℕ) (i : Initial) (later : Option Initial) (b : Bool) → SlotFits m (Some s) (Some i) → SlotFits m (slot_in ss x) later → SlotFits m (slice_get (s ∷ ss) (place_by b (place_in ss x))) (initial_by b i later)
front m s ss x i later true a h = a
front m s ss x i later false a h = h

functions_fit : (m : ModuleId) (index : ℕ) (fs : List FunctionCode) (x : List ℕ) → SlotFits m.0 (slot_in (function_slots m index (map (λ (f : FunctionCode). f.name) fs)) x) (function_named index fs x)
functions_fit m index [] x = tt
functions_fit m index (f ∷ fs) x =
    let e : index + 1 ≡ suc index = omega arith in
    let later = subst (λ k. SlotFits m.0 (slot_in (function_slots m k (map (λ (f : FunctionCode). f.name) fs)) x) (function_named (suc index) fs x)) (sym e) (functions_fit m (suc index) fs x) in
    front m.0 (function_slot m index f.name) (function_slots m (index + 1) (map (λ (f : FunctionCode). f.name) fs)) x (FunctionAt index) (function_named (suc index) fs x) (bytes_eq f.name x) (refl, refl) later

declared_fit : (m : ℕ) (ds : List Declaration) (rest : List Slot) (x : List ℕ) (later : Option Initial) → SlotFits m (slot_in rest x) later → SlotFits m (slot_in (unset_slots ds ++ rest) x) (declared_named ds x later)
declared_fit m [] rest x later h = h
declared_fit m (d ∷ ds) rest x later h = front m (unset_slot d) (unset_slots ds ++ rest) x (Unset d.constant) (declared_named ds x later) (bytes_eq d.name x) (refl, refl) (declared_fit m ds rest x later h)

names_are : (items : List Item) → map (λ (f : FunctionCode). f.name) (functions_of items) ≡ function_names items
names_are [] = refl
names_are (item ∷ items) = map-append (λ (f : FunctionCode). f.name) (functions_by item) (functions_of items) ∙ ap (λ ns. names_by item ++ ns) (names_are items)

pub made_fits : MadeFits
made_fits m items x =
    let functions = subst (λ ns. SlotFits m.0 (slot_in (function_slots m 0 ns) x) (function_named 0 (functions_of items) x)) (names_are items) (functions_fit m 0 (functions_of items) x) in
    declared_fit m.0 (declared_in (body_of items)) (function_slots m 0 (function_names items)) x (function_named 0 (functions_of items) x) functions

-- ---- nothing is written in it

abbrev NothingIn : List Slot → Type 0
NothingIn ss = (k : ℕ) → written_in (slice_get ss k) ≡ None

none_first : (s : Slot) (ss : List Slot) → s.written ≡ None → NothingIn ss → NothingIn (s ∷ ss)
none_first s ss e h zero = ap valued_by e
none_first s ss e h (suc k) = h k

functions_unwritten : (m : ModuleId) (index : ℕ) (names : List (List ℕ)) → NothingIn (function_slots m index names)
functions_unwritten m index [] k = refl
functions_unwritten m index (name ∷ names) k =
    none_first (function_slot m index name) (function_slots m (index + 1) names) refl (functions_unwritten m (index + 1) names) k

declared_unwritten : (ds : List Declaration) (rest : List Slot) → NothingIn rest → NothingIn (unset_slots ds ++ rest)
declared_unwritten [] rest h k = h k
declared_unwritten (d ∷ ds) rest h k = none_first (unset_slot d) (unset_slots ds ++ rest) refl (declared_unwritten ds rest h) k

pub made_unwritten : (m : ModuleId) (items : List Item) (x : List ℕ) → written_in (slot_in (slots_for m items) x) ≡ None
made_unwritten m items x =
    declared_unwritten (declared_in (body_of items)) (function_slots m 0 (function_names items)) (functions_unwritten m 0 (function_names items)) (place_in (slots_for m items) x)
