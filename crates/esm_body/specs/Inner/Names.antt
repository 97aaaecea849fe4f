-- Reading the names of code under way.
use Rattle.std.specs.Prelude.{◌≡◌, ◌≤◌, ℕ, suc, List, slice_get, Option, Some, None, Result, Ok, Err}
use Rattle.esm_values.specs.Value.{Error}
use Rattle.esm_values.specs.Code.{CodeValue, value_of}
use Rattle.esm_values.specs.Completion.{Completion, Normal, Throw}
use Rattle.esm_values.specs.Errors.{Errors, fault, make_error, next_error}
use Rattle.esm_values.specs.declared.errors.FaultKind.{FaultKind}
use Rattle.esm_values.specs.declared.errors.FaultKind.TheVariants as kinds
use Rattle.esm_values.specs.declared.value.Value.{Value}
use Rattle.esm_base.specs.declared.memory.Memory.{Memory}
use Rattle.esm_expr_eval.specs.declared.world.Out.{Out}
use Rattle.esm_expr_eval.specs.declared.world.Out.TheVariants as out
use Rattle.esm_env.specs.Cells.{Reading, read_value}
use Rattle.esm_env.specs.Cells.{Reading as reading}
use Rattle.esm_env.specs.Slots.{valued_by}
use Rattle.esm_env.specs.Scopes.{Scopes, read_or, read_in}
use Rattle.esm_rewriting.specs.Scopes.{Scope, in_scopes}
use Rattle.esm_rewriting.specs.Acts.{not_initialized, not_defined}
use Rattle.esm_env.specs.NamePlaces.{first_place}
use Rattle.esm_body.specs.Inner.SlotPlaces.{names_of}
use Rattle.esm_body.specs.declared.names.Found.{Found}
use Rattle.esm_body.specs.declared.names.Found.TheVariants as found
use Rattle.esm_body.specs.declared.work.Slot.{Slot}
use Rattle.esm_body.specs.declared.work.Level.{Level}

abbrev pub found_reading : Found → Reading CodeValue
found_reading (found.Value v) = reading.Value (value_of v)
found_reading found.Unset = reading.Unset
found_reading found.Undeclared = reading.Undeclared

-- what reading a slot gives
abbrev pub seen_slot : Slot → Reading CodeValue
seen_slot s = read_value (valued_by s.value)

-- in the innermost of these scopes that declares the name, else in the module
abbrev pub reading_in : List (Scope CodeValue) → Scopes → ℕ → List ℕ → Reading CodeValue
reading_in ss e m x = read_or (in_scopes ss x) (read_in e m x)

-- ---- places

-- the place of the name in the level with this number, if there is one
abbrev pub place_in : Option Level → List ℕ → Option ℕ
place_in None x = None
place_in (Some l) x = first_place (names_of l.slots) x

abbrev pub place_at : List Level → ℕ → List ℕ → Option ℕ
place_at levels k x = place_in (slice_get levels k) x

-- no level from this one on declares the name
abbrev pub NoneFrom : List Level → ℕ → List ℕ → Type 0
NoneFrom levels k x = (i : ℕ) → k ≤ i → place_at levels i x ≡ None

-- the level, and the place in it, of the innermost block that declares the name. The outermost level declares none
abbrev pub IsFound : List Level → List ℕ → Option (ℕ × ℕ) → Type 0
IsFound levels x None = NoneFrom levels 1 x
IsFound levels x (Some p) = (1 ≤ p.0) × (place_at levels p.0 x ≡ Some p.1) × NoneFrom levels (suc p.0) x

-- ---- what is thrown

-- a new error of this kind, with this message; where memory ran out, nothing is said
abbrev pub IsThrown : Errors → FaultKind → List ℕ → Result Value Memory → Errors → Type 0
IsThrown old kind message (Ok v) new = (value_of v ≡ Error (next_error old)) × (new ≡ make_error old (fault kind message))
IsThrown old kind message (Err end) new = Unit {0}

abbrev pub said_out : Out → Completion CodeValue
said_out (out.Value v) = Normal (value_of v)
said_out (out.Thrown v) = Throw (value_of v)

-- what a reading is told as, and the errors then
abbrev pub told_as : List ℕ → Reading CodeValue → Errors → Completion CodeValue × Errors
told_as x (reading.Value v) old = (Normal v, old)
told_as x reading.Unset old = (Throw (Error (next_error old)), make_error old (fault kinds.ReferenceError (not_initialized x)))
told_as x reading.Undeclared old = (Throw (Error (next_error old)), make_error old (fault kinds.ReferenceError (not_defined x)))

abbrev pub Tells : List ℕ → Reading CodeValue → Errors → Result Out Memory → Errors → Type 0
Tells x read old (Ok told) new = (said_out told ≡ (told_as x read old).0) × (new ≡ (told_as x read old).1)
Tells x read old (Err end) new = Unit {0}
