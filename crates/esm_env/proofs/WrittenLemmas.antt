-- What a write of the code comes to.
use Rattle.std.proofs.Common.{◌≡◌, ℕ, zero, suc, Bool, true, false, ◌&&◌, List, [], ◌∷◌, refl, ap, subst, sym, ◌∙◌, nat_eq, eqb, ◌⊎◌, inl, inr}
use Rattle.std.specs.Prelude.{Option, Some, None, is_some, slice_get, if◌then◌else◌}
use Rattle.std.proofs.lemmas.Bool.{eqb-true, eq-eqb}
use Rattle.std.proofs.lemmas.Bool.Decides.{eqb_tells}
use Rattle.std.specs.Option.{option_or}
use Rattle.std.specs.Str.{bytes_eq}
use Rattle.std.proofs.lemmas.Slice.Eq.{bytes_eq-Decides}
use Rattle.esm_env.specs.Declarations.{Initial, Unset, FunctionAt, initial}
use Rattle.esm_values.specs.Code.{CodeValue, value_of}
use Rattle.esm_values.specs.declared.value.Value.{Value}
use Rattle.esm_env.specs.Modules.{Modules}
use Rattle.esm_env.specs.Cells.{Cell, write_cell}
use Rattle.esm_env.specs.Writing.{write_at, write_by, constant_by, writing_of}
use Rattle.esm_env.specs.Writing.{Writing as writing}
use Rattle.esm_env.specs.Slots.{place_in, place_by, slot_in, cell_in, written_in, written_slot, write_slot, valued_by}
use Rattle.esm_env.specs.Scopes.{cell_by as scope_cell}
use Rattle.esm_env.specs.Scopes.{Scopes, scope_in, own_cell, written_by, cells_of, import_in, wrote_set, wrote_none, wrote_by, StaysOrWrites, StaysOrWritesAt}
use Rattle.esm_env.specs.Calls.{IsWrittenBy, IsWrittenIn, IsWrittenPlaceBy, IsSetBy, IsInitialised, told_write}
use Rattle.esm_env.specs.Faithful.{SlotFits, IsFaithful, IsFaithfulAt, HasImports, IsLikeScope}
use Rattle.esm_env.specs.Laws.{WritesRight}
use Rattle.esm_env.specs.declared.slots.Slot.{Slot}
use Rattle.esm_env.specs.declared.scope.ModuleScope.{ModuleScope}
use Rattle.esm_env.specs.declared.scope.Wrote.{Wrote}
use Rattle.esm_env.specs.declared.scope.Wrote.TheVariants as wrote
use Rattle.esm_env.proofs.FaithfulLemmas.{own_right}

-- ---- one slot is written

abbrev Now : Bool → Value → Option CodeValue → Option CodeValue
Now b v old = if b then Some (value_of v) else old

apart : (x y : List ℕ) (b : Bool) → bytes_eq x y ≡ b → (x ≡ y → ⊥) → b ≡ false
apart x y true e h = absurd (h ((bytes_eq-Decides x y).0 e))
apart x y false e h = refl

own : (x : List ℕ) → bytes_eq x x ≡ true
own x = (bytes_eq-Decides x x).1 refl

-- where the slot in front has the name, b is whether it is the name that is asked for
first_written : (s : Slot) (ss : List Slot) (x y : List ℕ) (v : Value) → s.name ≡ x → (b : Bool) → bytes_eq s.name y ≡ b
    → written_in (slice_get (written_slot s v ∷ ss) (place_by b (place_in ss y))) ≡ Now (bytes_eq x y) v (written_in (slice_get (s ∷ ss) (place_by b (place_in ss y))))
first_written s ss x y v same true e = rw (sym same, e) refl
first_written s ss x y v same false e = rw (sym same, e) refl

-- where it hasn't
later_written : (s : Slot) (ss late : List Slot) (x y : List ℕ) (v : Value) → (s.name ≡ x → ⊥) → (b : Bool) → bytes_eq s.name y ≡ b
    → written_in (slice_get late (place_in late y)) ≡ Now (bytes_eq x y) v (written_in (slice_get ss (place_in ss y)))
    → written_in (slice_get (s ∷ late) (place_by b (place_in late y))) ≡ Now (bytes_eq x y) v (written_in (slice_get (s ∷ ss) (place_by b (place_in ss y))))
later_written s ss late x y v other true e h =
    let same : s.name ≡ y = (bytes_eq-Decides s.name y).0 e in
    rw (apart x y (bytes_eq x y) refl (λ k. other (same ∙ sym k))) refl
later_written s ss late x y v other false e h = h

abbrev WrittenAt : List Slot → List ℕ → List ℕ → Value → Type 0
WrittenAt ss x y v = written_in (slot_in (write_slot ss (place_in ss x) v) y) ≡ Now (bytes_eq x y) v (written_in (slot_in ss y))

by_place : (s : Slot) (ss : List Slot) (x y : List ℕ) (v : Value) (b : Bool) → bytes_eq s.name x ≡ b
    → (is_some (slot_in ss x) ≡ true → WrittenAt ss x y v)
    → is_some (slice_get (s ∷ ss) (place_by b (place_in ss x))) ≡ true
    → written_in (slot_in (write_slot (s ∷ ss) (place_by b (place_in ss x)) v) y) ≡ Now (bytes_eq x y) v (written_in (slot_in (s ∷ ss) y))
by_place s ss x y v true e again h = first_written s ss x y v ((bytes_eq-Decides s.name x).0 e) (bytes_eq s.name y) refl
by_place s ss x y v false e again h =
    let other : s.name ≡ x → ⊥ = λ k. let t : bytes_eq s.name x ≡ true = (bytes_eq-Decides s.name x).1 k in cc in
    later_written s ss (write_slot ss (place_in ss x) v) x y v other (bytes_eq s.name y) refl (again h)

-- the name reads as what was written, each other name as before
pub slot_written : (ss : List Slot) (x y : List ℕ) (v : Value) → is_some (slot_in ss x) ≡ true → WrittenAt ss x y v
slot_written [] x y v h = absurd (let k : false ≡ true = h in cc)
slot_written (s ∷ ss) x y v h = by_place s ss x y v (bytes_eq s.name x) refl (slot_written ss x y v) h

-- ---- a written slot begins as before

fits_first : (m : ℕ) (s : Slot) (v : Value) (i : Option Initial) → SlotFits m (Some s) i → SlotFits m (Some (written_slot s v)) i
fits_first m s v None h = h
fits_first m s v (Some (Unset constant)) h = h
fits_first m s v (Some (FunctionAt index)) h = h

fits_zero : (m : ℕ) (s : Slot) (ss : List Slot) (v : Value) (y : List ℕ) (i : Option Initial) (b : Bool)
    → SlotFits m (slice_get (s ∷ ss) (place_by b (place_in ss y))) i → SlotFits m (slice_get (written_slot s v ∷ ss) (place_by b (place_in ss y))) i
fits_zero m s ss v y i true h = fits_first m s v i h
fits_zero m s ss v y i false h = h

fits_suc : (m : ℕ) (s : Slot) (ss late : List Slot) (y : List ℕ) (i : Option Initial) (b : Bool)
    → (SlotFits m (slot_in ss y) i → SlotFits m (slot_in late y) i)
    → SlotFits m (slice_get (s ∷ ss) (place_by b (place_in ss y))) i → SlotFits m (slice_get (s ∷ late) (place_by b (place_in late y))) i
fits_suc m s ss late y i true again h = h
fits_suc m s ss late y i false again h = again h

fits_written : (m : ℕ) (ss : List Slot) (at : ℕ) (v : Value) (y : List ℕ) (i : Option Initial) → SlotFits m (slot_in ss y) i → SlotFits m (slot_in (write_slot ss at v) y) i
fits_written m [] at v y i h = h
fits_written m (s ∷ ss) zero v y i h = fits_zero m s ss v y i (bytes_eq s.name y) h
fits_written m (s ∷ ss) (suc at) v y i h = fits_suc m s ss (write_slot ss at v) y i (bytes_eq s.name y) (fits_written m ss at v y i) h

-- ---- one scope is written

-- the same scope with the slot at a place written
pub record WritesOne (s : ModuleScope) (place : ℕ) (v : Value) (t : ModuleScope) : Type 0 where
  pub slots : t.slots.items ≡ write_slot s.slots.items place v
  pub imports : t.imports ≡ s.imports
  pub tree : t.tree ≡ s.tree
  pub namespace : t.namespace ≡ s.namespace

-- what a scope is behind a write, whatever it came to
abbrev pub SameOrOne : ModuleScope → ℕ → Value → ModuleScope → Type 0
SameOrOne s place v t = (t ≡ s) ⊎ WritesOne s place v t

pub same_or_one : (s : ModuleScope) (place : ℕ) (v : Value) (result : Wrote) (t : ModuleScope) → StaysOrWritesAt s place v result t → SameOrOne s place v t
same_or_one s place v wrote.Done t h = inr (record { slots = h.0; imports = h.1; tree = h.2; namespace = h.3 })
same_or_one s place v wrote.Unset t h = inl h
same_or_one s place v wrote.Constant t h = inl h
same_or_one s place v wrote.Undeclared t h = inl h

fits_at : (g : Modules ℕ) (m : ℕ) (s : ModuleScope) (place : ℕ) (v : Value) (t : ModuleScope) → IsFaithfulAt g m s → SameOrOne s place v t → IsFaithfulAt g m t
fits_at g m s place v t h (inl e) = subst (λ s. IsFaithfulAt g m s) (sym e) h
fits_at g m s place v t h (inr w) = record {
  slots = λ y. subst (λ ss. SlotFits m (slot_in ss y) (initial (g.tree m) y)) (sym w.slots) (fits_written m s.slots.items place v y (initial (g.tree m) y) (h.slots y));
  bound = λ y. rw w.imports (h.bound y);
  namespace = rw w.namespace h.namespace;
}

like_by : (s : ModuleScope) (place : ℕ) (v : Value) (t : ModuleScope) → SameOrOne s place v t → IsLikeScope (Some s) (Some t)
like_by s place v t (inl e) = (ap (λ (s : ModuleScope). s.imports) e, ap (λ (s : ModuleScope). s.tree) e, ap (λ (s : ModuleScope). s.namespace) e)
like_by s place v t (inr w) = (w.imports, w.tree, w.namespace)

like_same : (o : Option ModuleScope) → IsLikeScope o o
like_same None = tt
like_same (Some s) = (refl, refl, refl)

-- ---- all scopes: how the scope of the module changes, and that the others stay

abbrev ScopeChanges : Value → Option ModuleScope → Option ModuleScope → Type 0
ScopeChanges v None None = Unit {0}
ScopeChanges v None (Some t) = ⊥
ScopeChanges v (Some s) None = ⊥
ScopeChanges v (Some s) (Some t) = (place : ℕ) × SameOrOne s place v t

abbrev OthersAre : Scopes → ℕ → Scopes → Type 0
OthersAre e m late = (n : ℕ) → (n ≡ m → ⊥) → scope_in late n ≡ scope_in e n

none_else : (o : Option ModuleScope) (v : Value) → o ≡ None → ScopeChanges v None o
none_else None v e = tt
none_else (Some t) v e = absurd (cc)

written_changes : (o p : Option ModuleScope) (x : List ℕ) (v : Value) (result : Wrote) → IsWrittenBy o x v result p → ScopeChanges v o p
written_changes None p x v result h = none_else p v h.1
written_changes (Some s) None x v result h = absurd h
written_changes (Some s) (Some t) x v result h = (place_in s.slots.items x, same_or_one s (place_in s.slots.items x) v result t h.1)

pub place_changes : (o p : Option ModuleScope) (place : ℕ) (v : Value) (result : Wrote) → IsWrittenPlaceBy o place v result p → ScopeChanges v o p
place_changes None p place v result h = none_else p v h.1
place_changes (Some s) None place v result h = absurd h
place_changes (Some s) (Some t) place v result h = (place, same_or_one s place v result t h.1)

set_changes : (o p : Option ModuleScope) (x : List ℕ) (v : Value) → IsSetBy o x v p → ScopeChanges v o p
set_changes None p x v h = none_else p v h
set_changes (Some s) None x v h = absurd h
set_changes (Some s) (Some t) x v h = (place_in s.slots.items x, same_or_one s (place_in s.slots.items x) v wrote.Done t h)

like_changed : (o p : Option ModuleScope) (v : Value) → ScopeChanges v o p → IsLikeScope o p
like_changed None None v h = tt
like_changed None (Some t) v h = absurd h
like_changed (Some s) None v h = absurd h
like_changed (Some s) (Some t) v h = like_by s h.0 v t h.1

module _ (e late : Scopes) (m : ℕ) (v : Value) (changes : ScopeChanges v (scope_in e m) (scope_in late m)) (others : OthersAre e m late) where
  like_at : (n : ℕ) → ((eqb n m ≡ true) × (n ≡ m)) ⊎ ((eqb n m ≡ false) × (n ≡ m → ⊥)) → IsLikeScope (scope_in e n) (scope_in late n)
  like_at n (inl (b, same)) = subst (λ n. IsLikeScope (scope_in e n) (scope_in late n)) (sym same) (like_changed (scope_in e m) (scope_in late m) v changes)
  like_at n (inr (b, other)) = rw (others n other) (like_same (scope_in e n))

  pub like : (n : ℕ) → IsLikeScope (scope_in e n) (scope_in late n)
  like n = like_at n (eqb_tells n m)

  faithful_own : (g : Modules ℕ) → IsFaithful g e → (o p : Option ModuleScope) → scope_in e m ≡ o → ScopeChanges v o p → (t : ModuleScope) → p ≡ Some t → IsFaithfulAt g m t
  faithful_own g f None None k h t q = absurd (cc)
  faithful_own g f None (Some u) k h t q = absurd h
  faithful_own g f (Some s) None k h t q = absurd (cc)
  faithful_own g f (Some s) (Some u) k h t q = let same : u ≡ t = cc in subst (λ t. IsFaithfulAt g m t) same (fits_at g m s h.0 v u (f m s k) h.1)

  faithful_at : (g : Modules ℕ) → IsFaithful g e → (n : ℕ) (t : ModuleScope) → scope_in late n ≡ Some t → ((eqb n m ≡ true) × (n ≡ m)) ⊎ ((eqb n m ≡ false) × (n ≡ m → ⊥)) → IsFaithfulAt g n t
  faithful_at g f n t q (inl (b, same)) = subst (λ n. IsFaithfulAt g n t) (sym same) (faithful_own g f (scope_in e m) (scope_in late m) refl changes t (rw same at q))
  faithful_at g f n t q (inr (b, other)) = f n t (sym (others n other) ∙ q)

  pub faithful : (g : Modules ℕ) → IsFaithful g e → IsFaithful g late
  faithful g f n t q = faithful_at g f n t q (eqb_tells n m)

-- ---- the cells

module _ (e late : Scopes) (m : ℕ) (x : List ℕ) (v : Value) (s t : ModuleScope) (before : scope_in e m ≡ Some s) (after : scope_in late m ≡ Some t) (one : WritesOne s (place_in s.slots.items x) v t)
    (there : is_some (slot_in s.slots.items x) ≡ true) (others : OthersAre e m late) where
  own_cells : (y : List ℕ) → cells_of late m y ≡ Now (bytes_eq x y) v (cells_of e m y)
  own_cells y = rw (after, before, one.slots) (slot_written s.slots.items x y v there)

  cell_by : (n : ℕ) (y : List ℕ) (b : Bool) → eqb m n ≡ b → cells_of late n y ≡ (if b && bytes_eq x y then Some (value_of v) else cells_of e n y)
  cell_by n y true q = let same : m ≡ n = eqb-true m n q in subst (λ n. cells_of late n y ≡ (if bytes_eq x y then Some (value_of v) else cells_of e n y)) same (own_cells y)
  cell_by n y false q = ap (λ o. written_by o y) (others n (λ k. let b : eqb m n ≡ true = eq-eqb m n (sym k) in cc))

  cells_written : cells_of late ≡ write_cell nat_eq (cells_of e) m x (value_of v)
  cells_written = λ j n y. cell_by n y (eqb m n) refl j

-- ---- what a write comes to

named_some : (g : Modules ℕ) (m : ℕ) (x : List ℕ) (o : Option Slot) → is_some (cell_in o) ≡ true → is_some o ≡ true
named_some g m x None h = h
named_some g m x (Some s) h = refl

module _ (g : Modules ℕ) (e late : Scopes) (m : ℕ) (s : ModuleScope) (x : List ℕ) (v : Value) (f : IsFaithful g e) (before : scope_in e m ≡ Some s) (imports : HasImports g m s) (others : OthersAre e m late) where
  abbrev Cell' : Option (Cell CodeValue)
  Cell' = cell_in (slot_in s.slots.items x)

  abbrev Imported : Bool
  Imported = is_some (import_in s.imports.items x)

  -- the writing, over the cells of the scope
  over : writing_of nat_eq g (cells_of e) m x (value_of v) ≡ write_at (write_cell nat_eq (cells_of e) m x (value_of v)) Cell' Imported
  over = rw (sym (own_right g e f m s x before), before, imports x) refl

  done : (t : ModuleScope) → scope_in late m ≡ Some t → WritesOne s (place_in s.slots.items x) v t → is_some (slot_in s.slots.items x) ≡ true → writing.Done (cells_of late) ≡ writing.Done (write_cell nat_eq (cells_of e) m x (value_of v))
  done t after one there = ap (λ c. writing.Done c) (cells_written e late m x v s t before after one there others)

  refused : (b : Bool) (late : Scopes) → told_write (wrote_none b) late ≡ constant_by b
  refused true late = refl
  refused false late = refl

  by_cell : (t : ModuleScope) → scope_in late m ≡ Some t → (constant : Bool) (value : Option CodeValue) → (slot_in s.slots.items x ≡ None → ⊥) → StaysOrWrites s x v (wrote_set constant value) t
      → told_write (wrote_set constant value) late ≡ write_by (write_cell nat_eq (cells_of e) m x (value_of v)) constant value
  by_cell t after constant None there h = refl
  by_cell t after true (Some w) there h = refl
  by_cell t after false (Some w) there h = done t after (record { slots = h.0; imports = h.1; tree = h.2; namespace = h.3 }) (is_there (slot_in s.slots.items x) there)
    where
      is_there : (o : Option Slot) → (o ≡ None → ⊥) → is_some o ≡ true
      is_there None k = absurd (k refl)
      is_there (Some w) k = refl

  by_slot : (t : ModuleScope) → scope_in late m ≡ Some t → (o : Option Slot) → slot_in s.slots.items x ≡ o → StaysOrWrites s x v (wrote_by (cell_in o) Imported) t
      → told_write (wrote_by (cell_in o) Imported) late ≡ write_at (write_cell nat_eq (cells_of e) m x (value_of v)) (cell_in o) Imported
  by_slot t after None q h = refused Imported late
  by_slot t after (Some w) q h = by_cell t after w.constant (option_or (valued_by w.written) (valued_by w.function)) (λ k. cc) h

  by_scope : (p : Option ModuleScope) → scope_in late m ≡ p → (result : Wrote) → IsWrittenBy (Some s) x v result p → told_write result late ≡ write_at (write_cell nat_eq (cells_of e) m x (value_of v)) Cell' Imported
  by_scope None after result h = absurd h
  by_scope (Some t) after result h = rw h.0 (by_slot t after (slot_in s.slots.items x) refl (rw h.0 at h.1))

writes : (g : Modules ℕ) (e late : Scopes) (m : ℕ) (s : ModuleScope) (x : List ℕ) (v : Value) (result : Wrote)
    → IsFaithful g e → scope_in e m ≡ Some s → HasImports g m s → IsWrittenIn e m x v result late
    → told_write result late ≡ writing_of nat_eq g (cells_of e) m x (value_of v)
writes g e late m s x v result f before imports h =
    by_scope g e late m s x v f before imports h.1 (scope_in late m) refl result (subst (λ o. IsWrittenBy o x v result (scope_in late m)) before h.0)
    ∙ sym (over g e late m s x v f before imports h.1)

-- ---- what a declaration sets

set_by : (e late : Scopes) (m : ℕ) (x : List ℕ) (v : Value) (c : Cell CodeValue) → OthersAre e m late → (o p : Option ModuleScope) → scope_in e m ≡ o → scope_in late m ≡ p
    → scope_cell o x ≡ Some c → IsSetBy o x v p → cells_of late ≡ write_cell nat_eq (cells_of e) m x (value_of v)
set_by e late m x v c others None p a b k h = absurd (cc)
set_by e late m x v c others (Some s) None a b k h = absurd h
set_by e late m x v c others (Some s) (Some t) a b k h =
    cells_written e late m x v s t a b (record { slots = h.0; imports = h.1; tree = h.2; namespace = h.3 }) (is_there (slot_in s.slots.items x) k) others
  where
    is_there : (o : Option Slot) → cell_in o ≡ Some c → is_some o ≡ true
    is_there None k = absurd (cc)
    is_there (Some w) k = refl

sets : (e late : Scopes) (m : ℕ) (x : List ℕ) (v : Value) (c : Cell CodeValue) → own_cell e m x ≡ Some c → IsInitialised e m x v late → cells_of late ≡ write_cell nat_eq (cells_of e) m x (value_of v)
sets e late m x v c k h = set_by e late m x v c h.1 (scope_in e m) (scope_in late m) refl refl k h.0

pub writes_right : WritesRight
writes_right = record {
  writes = writes;
  sets = sets;
  faithful_written = λ g e late m x v result f h. faithful e late m v (written_changes (scope_in e m) (scope_in late m) x v result h.0) h.1 g f;
  faithful_set = λ g e late m x v f h. faithful e late m v (set_changes (scope_in e m) (scope_in late m) x v h.0) h.1 g f;
  stays_written = λ e late m x v result h. like e late m v (written_changes (scope_in e m) (scope_in late m) x v result h.0) h.1;
  stays_set = λ e late m x v h. like e late m v (set_changes (scope_in e m) (scope_in late m) x v h.0) h.1;
}
