-- What the code reads is what the name reads as.
use Rattle.std.proofs.Common.{◌≡◌, ℕ, List, refl, ap, subst, sym}
use Rattle.std.specs.Prelude.{Option, Some, None}
use Rattle.esm_env.specs.Declarations.{Initial, Unset, FunctionAt, initial}
use Rattle.esm_values.specs.Value.{Func}
use Rattle.esm_values.specs.Code.{CodeValue}
use Rattle.esm_values.specs.declared.value.Value.{Value}
use Rattle.esm_env.specs.Modules.{Modules}
use Rattle.esm_env.specs.Cells.{Cell, or_function, cell_by, cell_at, read_cell}
use Rattle.esm_env.specs.Cells.{Reading as reading}
use Rattle.esm_env.specs.Reading.{IsReadingOf, read_target}
use Rattle.esm_env.specs.Reading.IsReadingOf.{own, bound}
use Rattle.std.specs.Option.{option_or}
use Rattle.esm_env.specs.Slots.{slot_in, cell_in, written_in, valued_by}
use Rattle.esm_env.specs.Scopes.{Scopes, scope_in, own_cell, import_in, import_of, read_import, read_or, cells_of, read_in}
use Rattle.esm_env.specs.Faithful.{SlotFits, target_in, HasScope, IsFaithful}
use Rattle.esm_env.specs.Laws.{ReadsRight}
use Rattle.esm_env.specs.declared.slots.Slot.{Slot}
use Rattle.esm_env.specs.declared.scope.Target.{Target}
use Rattle.esm_env.specs.declared.scope.Target.TheVariants as targets
use Rattle.esm_env.specs.declared.scope.ModuleScope.{ModuleScope}

unset_cell : (s : Slot) (written function : Option Value) → function ≡ None → option_or (valued_by written) (valued_by function) ≡ valued_by written
unset_cell s None function e = rw e refl
unset_cell s (Some v) function e = refl

function_cell : (m index : ℕ) (written function : Option Value) → valued_by function ≡ Some (Func m index) → option_or (valued_by written) (valued_by function) ≡ Some (or_function (valued_by written) m index)
function_cell m index None function e = e
function_cell m index (Some w) function e = refl

-- a slot that begins as the tree says is the cell
fits_cell : (m : ℕ) (o : Option Slot) (i : Option Initial) → SlotFits m o i → cell_in o ≡ cell_by i (written_in o) m
fits_cell m None None h = refl
fits_cell m None (Some i) h = absurd h
fits_cell m (Some s) None h = absurd h
fits_cell m (Some s) (Some (Unset constant)) h = λ j. Some (record { constant = h.0 j; value = unset_cell s s.written s.function h.1 j })
fits_cell m (Some s) (Some (FunctionAt index)) h = λ j. Some (record { constant = h.0 j; value = function_cell m index s.written s.function h.1 j })

module _ (g : Modules ℕ) (e : Scopes) (faithful : IsFaithful g e) where
  pub own_right : (m : ℕ) (s : ModuleScope) (x : List ℕ) → scope_in e m ≡ Some s → own_cell e m x ≡ cell_at g (cells_of e) m x
  own_right m s x h = rw h (fits_cell m (slot_in s.slots.items x) (initial (g.tree m) x) ((faithful m s h).slots x))

  target_right : (t : Option Target) → HasScope e t → read_import e t ≡ read_target g (cells_of e) (target_in t)
  target_right None h = refl
  target_right (Some (targets.Cell m x)) h = ap read_cell (own_right m.0 h.0 x h.1)
  target_right (Some (targets.Whole m)) h = rw h.1 (ap (λ v. reading.Value v) (faithful m.0 h.0 h.1).namespace)

  reads_by : (m : ℕ) (s : ModuleScope) (x : List ℕ) → scope_in e m ≡ Some s → HasScope e (import_in s.imports.items x) → (c : Option (Cell CodeValue)) → c ≡ cell_at g (cells_of e) m x → IsReadingOf g (cells_of e) m x (read_or c (read_import e (import_in s.imports.items x)))
  reads_by m s x h reached (Some c) k = own c (sym k)
  reads_by m s x h reached None k =
      let at = faithful m s h in
      rw (target_right (import_in s.imports.items x) reached) (bound (sym k) (at.bound x))

  pub reads : (m : ℕ) (s : ModuleScope) (x : List ℕ) → scope_in e m ≡ Some s → HasScope e (import_of (scope_in e m) x) → IsReadingOf g (cells_of e) m x (read_in e m x)
  reads m s x h reached =
      let P : Option ModuleScope → Type 0 = λ o. IsReadingOf g (cells_of e) m x (read_or (own_cell e m x) (read_import e (import_of o x))) in
      subst P (sym h) (reads_by m s x h (subst (λ o. HasScope e (import_of o x)) h reached) (own_cell e m x) (own_right m s x h))

pub reads_right : ReadsRight
reads_right g e m s x f h reached = reads g e f m s x h reached
