-- Setting and writing the names of code under way.
use Rattle.std.specs.Prelude.{◌≡◌, ℕ, nat_eq, zero, suc, Bool, true, List, [], ◌∷◌, slice_index_or, Option, Some, None, Result, Ok, Err, ⊤}
use Rattle.esm_base.specs.declared.memory.Memory.{Memory}
use Rattle.esm_values.specs.Value.{Error}
use Rattle.esm_values.specs.Code.{CodeValue, value_of}
use Rattle.esm_values.specs.Errors.{Errors, fault, make_error, next_error}
use Rattle.esm_values.specs.declared.errors.FaultKind.{FaultKind}
use Rattle.esm_values.specs.declared.errors.FaultKind.TheVariants as kinds
use Rattle.esm_values.specs.declared.value.Value.{Value}
use Rattle.esm_promise.specs.Outer.{Outer}
use Rattle.esm_env.specs.Modules.{Modules}
use Rattle.esm_env.specs.Calls.{scopes_of, IsWrittenIn, IsInitialised}
use Rattle.esm_env.specs.Cells.{Cell}
use Rattle.esm_env.specs.Slots.{valued_by}
use Rattle.esm_env.specs.Scopes.{Scopes, own_cell, wrote_set}
use Rattle.esm_env.specs.declared.scope.Wrote.{Wrote}
use Rattle.esm_env.specs.declared.scope.Wrote.TheVariants as wrote
use Rattle.esm_body.specs.SameScopes.{HaveSameScopes}
use Rattle.esm_rewriting.specs.Scopes.{Scope, in_scopes, set_in, set_in_scopes}
use Rattle.esm_rewriting.specs.State.{Importing}
use Rattle.esm_rewriting.specs.Acts.{set_name, write_name, not_initialized, not_defined, is_constant}
use Rattle.esm_body.specs.Inner.SlotPlaces.{set_slot}
use Rattle.esm_body.specs.Inner.Stack.{scopes_round}
use Rattle.esm_body.specs.Inner.Names.{place_at}
use Rattle.esm_body.specs.Inner.World.{inner_of, HasScopes}
use Rattle.esm_body.specs.declared.inside.Inside.{Inside}
use Rattle.esm_body.specs.declared.work.Slot.{Slot}
use Rattle.esm_body.specs.declared.work.Level.{Level}

-- ---- levels

-- one slot of a level has this value
abbrev pub SlotSet : Level → ℕ → Value → Level → Type 0
SlotSet l at v m = (m.kind ≡ l.kind) × (m.work ≡ l.work) × (m.slots ≡ set_slot l.slots at v)

-- one slot of one level has this value, and all else is as before
abbrev pub LevelSet : List Level → ℕ → ℕ → Value → List Level → Type 0
LevelSet [] level at v new = ⊥
LevelSet (l ∷ ls) level at v [] = ⊥
LevelSet (l ∷ ls) zero at v (m ∷ ms) = SlotSet l at v m × (ms ≡ ls)
LevelSet (l ∷ ls) (suc level) at v (m ∷ ms) = (m ≡ l) × LevelSet ls level at v ms

-- the same levels, but for the values of their slots
abbrev pub OnlySlots : List Level → List Level → Type 0
OnlySlots [] [] = ⊤
OnlySlots [] (m ∷ ms) = ⊥
OnlySlots (l ∷ ls) [] = ⊥
OnlySlots (l ∷ ls) (m ∷ ms) = (m.kind ≡ l.kind) × (m.work ≡ l.work) × OnlySlots ls ms

-- a slot is set where nothing is in the way
abbrev pub LevelWrote : List Level → ℕ → ℕ → Value → Wrote → List Level → Type 0
LevelWrote old level at v wrote.Done new = LevelSet old level at v new
LevelWrote old level at v wrote.Unset new = new ≡ old
LevelWrote old level at v wrote.Constant new = new ≡ old
LevelWrote old level at v wrote.Undeclared new = new ≡ old

-- what a write of a slot comes to
abbrev pub slot_wrote : Slot → Wrote
slot_wrote s = wrote_set s.constant (valued_by s.value)

abbrev pub SlotWritten : List Level → ℕ → ℕ → Value → Wrote → List Level → Type 0
SlotWritten old level at v result new =
    ((d : Level) × (e : Slot) × (result ≡ slot_wrote (slice_index_or (slice_index_or old level d).slots at e)))
    × LevelWrote old level at v result new

-- a slot with this place is set, if there is one
abbrev pub SetWhere : Option ℕ → List Level → ℕ → Value → List Level → Type 0
SetWhere None old level v new = new ≡ old
SetWhere (Some at) old level v new = LevelSet old level at v new

abbrev pub TopSet : List Level → ℕ → List ℕ → Value → List Level → Type 0
TopSet old level x v new = SetWhere (place_at old level x) old level v new

-- ---- blocks and modules

abbrev pub ScopesWrote : List (Scope CodeValue) → List ℕ → Value → Wrote → List (Scope CodeValue) → Type 0
ScopesWrote old x v wrote.Done new = new ≡ set_in_scopes old x (value_of v)
ScopesWrote old x v wrote.Unset new = new ≡ old
ScopesWrote old x v wrote.Constant new = new ≡ old
ScopesWrote old x v wrote.Undeclared new = new ≡ old

-- in the block with this cell, else in the module
abbrev pub WritesAt : Option (Cell CodeValue) → List (Scope CodeValue) → Scopes → ℕ → List ℕ → Value → Wrote → List (Scope CodeValue)
    → Scopes → Type 0
WritesAt (Some c) old e m x v result new late = (result ≡ wrote_set c.constant c.value) × (late ≡ e)
    × ScopesWrote old x v result new
WritesAt None old e m x v result new late = IsWrittenIn e m x v result late × (new ≡ old)

abbrev pub WritesTo : List Level → Scopes → ℕ → List ℕ → Value → Wrote → List Level → Scopes → Type 0
WritesTo old e m x v result new late = OnlySlots old new
    × WritesAt (in_scopes (scopes_round old) x) (scopes_round old) e m x v result (scopes_round new) late

-- in the innermost block, or in the module
abbrev pub SetsAt : List (Scope CodeValue) → Scopes → ℕ → List ℕ → Value → List (Scope CodeValue) → Scopes → Type 0
SetsAt [] e m x v new late = IsInitialised e m x v late × (new ≡ [])
SetsAt (s ∷ ss) e m x v new late = (new ≡ set_in s x (value_of v) ∷ ss) × (late ≡ e)

abbrev pub SetsTo : List Level → Scopes → ℕ → List ℕ → Value → List Level → Scopes → Type 0
SetsTo old e m x v new late = OnlySlots old new × SetsAt (scopes_round old) e m x v (scopes_round new) late

-- ---- what is thrown

abbrev pub thrown : Option Value → Option CodeValue
thrown None = None
thrown (Some v) = Some (value_of v)

abbrev pub ThrowsNew : FaultKind → List ℕ → Errors → Option Value → Errors → Type 0
ThrowsNew kind message old told new = (thrown told ≡ Some (Error (next_error old))) × (new ≡ make_error old (fault kind message))

-- what a write that came to this throws
abbrev pub ThrowsWrote : List ℕ → Wrote → Errors → Option Value → Errors → Type 0
ThrowsWrote x wrote.Done old told new = (thrown told ≡ None) × (new ≡ old)
ThrowsWrote x wrote.Unset old told new = ThrowsNew kinds.ReferenceError (not_initialized x) old told new
ThrowsWrote x wrote.Constant old told new = ThrowsNew kinds.TypeError (is_constant x) old told new
ThrowsWrote x wrote.Undeclared old told new = ThrowsNew kinds.ReferenceError (not_defined x) old told new

abbrev pub Throws : List ℕ → Wrote → Errors → Result (Option Value) Memory → Errors → Type 0
Throws x result old (Ok told) new = ThrowsWrote x result old told new
Throws x result old (Err end) new = Unit {0}

-- ---- the code under way

-- it is the same code, in the same loans; levels changed in their slots alone
pub record IsLike {I : Type 0} (w after : Inside I) : Type 0 where
  pub at : after.code.now.at ≡ w.code.now.at
  pub tree : after.code.now.tree ≡ w.code.now.tree
  pub levels : OnlySlots w.code.now.levels.items after.code.now.levels.items
  pub alloc : after.alloc ≡ w.alloc
  pub code : after.code.ghost_name ≡ w.code.ghost_name
  pub engine : after.engine ≡ w.engine
  pub errors : after.errors.ghost_name ≡ w.errors.ghost_name
  pub envs : after.envs.ghost_name ≡ w.envs.ghost_name
  pub promises : after.promises ≡ w.promises
  pub imports : after.imports ≡ w.imports
  pub scopes : HaveSameScopes (scopes_of w.envs.now) (scopes_of after.envs.now)

module _ {I S : Type 0} (seen : I → S) (modules : S → Modules ℕ) (linked : S → ℕ → Bool) (fits : Outer ℕ S → Type 0)
    (begins : Importing ℕ S) where
  -- the module in which the code stands written is linked
  abbrev pub HasHome : Inside I → Type 0
  HasHome w = linked (seen w.imports.now) w.code.now.at.0 ≡ true

  -- a write of a name is the definitions', where memory didn't run out
  abbrev pub WritesName : Inside I → List ℕ → Value → Result (Option Value) Memory → Inside I → Type 0
  WritesName w x v (Ok told) after = IsLike w after × (HasScopes seen modules linked fits begins w → HasHome w
      → ((thrown told, inner_of seen after) ≡ write_name nat_eq modules begins w.code.now.at.0 (inner_of seen w) x (value_of v))
      × HasScopes seen modules linked fits begins after)
  WritesName w x v (Err end) after = Unit {0}

  -- outside of all blocks the module declares the name
  abbrev pub IsDeclared : Inside I → List ℕ → Type 0
  IsDeclared w x = scopes_round w.code.now.levels.items ≡ []
      → (c : Cell CodeValue) × (own_cell (scopes_of w.envs.now) w.code.now.at.0 x ≡ Some c)

  -- a declaration sets its name in the innermost block, or in the module
  abbrev pub SetsName : Inside I → List ℕ → Value → Inside I → Type 0
  SetsName w x v after = IsLike w after × (HasScopes seen modules linked fits begins w → HasHome w → IsDeclared w x
      → (inner_of seen after ≡ set_name nat_eq modules begins w.code.now.at.0 (inner_of seen w) x (value_of v))
      × HasScopes seen modules linked fits begins after)
