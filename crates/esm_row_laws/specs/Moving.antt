-- What a rewriting of a part comes to, where it asks the world, and what the names of a function read as.
use Rattle.std.specs.Prelude.{◌≡◌, ℕ, nat_eq, Bool, List, ◌∷◌, slice_get, Option, Some, None}
use Rattle.esm_base.specs.declared.limits.Limit.{Limit}
use Rattle.esm_tree.specs.Syntax as x
use Rattle.esm_env.specs.Cells.{Reading}
use Rattle.esm_env.specs.Cells.{Reading as reading}
use Rattle.esm_env.specs.Modules.{Modules}
use Rattle.esm_env.specs.Reading.{IsReadingOf}
use Rattle.esm_values.specs.Value.{Value}
use Rattle.esm_values.specs.Operators.{values}
use Rattle.esm_values.specs.Plans.{Rewritten}
use Rattle.esm_values.specs.Plans.Rewritten.{Goes, Leaves, Stops}
use Rattle.esm_values.specs.Errors.{fault}
use Rattle.esm_values.specs.declared.errors.FaultKind.TheVariants as kinds
use Rattle.esm_expr_eval.specs.Terms.{Term}
use Rattle.esm_expr_eval.specs.Terms.Term.{Name}
use Rattle.esm_rewriting.specs.State.{State, Importing, new_error, with_error}
use Rattle.esm_rewriting.specs.Acts.{modules_of, not_initialized, not_defined}
use Rattle.esm_rewriting.specs.BodyRewriting.{RewritesTerm}
use Rattle.esm_rewriting.specs.Segment.{Active, Segment}
use Rattle.esm_rewriting.specs.Segment.{Ended as ended}
use Rattle.esm_rows.specs.Rows.{found_at, found_in}
use Rattle.esm_row_laws.specs.Spots.{Kont, rounds_of, kont_names, Begins, Has}
use Rattle.esm_row_laws.specs.Rooms.{HasRoom}
use Rattle.esm_row_laws.specs.Remaining.{plug, rest_of, rest_at}
use Rattle.esm_row_laws.specs.Leading.{Leads}
use Rattle.esm_row_laws.specs.Places.{flat, FitNames}
use Rattle.esm_row_laws.specs.Operations.{Values}
use Rattle.esm_row_laws.specs.Landings.{over_names, ThrowsIn}

module _ {S : Type 0} (modules : S → Modules ℕ) (begins : Importing ℕ S) where
  -- a part is rewritten, over the names of the function
  abbrev pub Part : ℕ → Kont → Values → State ℕ S → Term (Value ℕ) → Rewritten (Value ℕ) Limit (Term (Value ℕ)) → State ℕ S → Type 0
  Part m k vss w e c late =
      RewritesTerm nat_eq modules begins m (over_names modules begins (rounds_of k) vss w) e c
      (over_names modules begins (rounds_of k) vss late)

  pub record PartsMove : Type 0 where
    pub goes : (m : ℕ) (k : Kont) (vss : Values) (vs : List (Value ℕ)) (w late : State ℕ S) (e f : Term (Value ℕ)) → HasRoom k vs
        → Part m k vss w e (Goes f) late
        → Leads nat_eq modules begins m w (rest_of (values nat_eq) k vss vs e) late (rest_of (values nat_eq) k vss vs f)
    pub throws : (m : ℕ) (k : Kont) (vss : Values) (vs : List (Value ℕ)) (w late : State ℕ S) (e : Term (Value ℕ)) (v : Value ℕ)
        → HasRoom k vs → Part m k vss w e (Leaves v) late
        → ThrowsIn modules begins m (rounds_of k) vss w (plug (values nat_eq) k vs e) v late
    pub stops : (m : ℕ) (k : Kont) (vss : Values) (vs : List (Value ℕ)) (w late : State ℕ S) (e : Term (Value ℕ)) (why : Limit)
        (callers : List (Active ℕ)) → HasRoom k vs → Part m k vss w e (Stops why) late
        → Segment nat_eq modules begins w m (rest_of (values nat_eq) k vss vs e) callers (ended.Stopped why) late

  -- what a throw of a new error leaves
  abbrev pub ThrowsNew : ℕ → Kont → Values → List (Value ℕ) → State ℕ S → List ℕ → List ℕ → Type 0
  ThrowsNew m k vss vs w name message =
      ThrowsIn modules begins m (rounds_of k) vss w (plug (values nat_eq) k vs (Name name)) (new_error w)
      (with_error w (fault kinds.ReferenceError message))

  abbrev pub Reads : ℕ → Kont → Values → List (Value ℕ) → State ℕ S → List ℕ → Reading (Value ℕ) → Type 0
  Reads m k vss vs w name (reading.Value v) =
      Leads nat_eq modules begins m w (rest_at (values nat_eq) (Begins (x.Name name) k) vss vs)
      w (rest_at (values nat_eq) (Has k) vss (v ∷ vs))
  Reads m k vss vs w name reading.Unset = ThrowsNew m k vss vs w name (not_initialized name)
  Reads m k vss vs w name reading.Undeclared = ThrowsNew m k vss vs w name (not_defined name)

  abbrev pub local_reading : Option (Value ℕ) → Reading (Value ℕ)
  local_reading None = reading.Unset
  local_reading (Some v) = reading.Value v

  -- a name of the function reads as its value, and another one as the module's
  pub record NamesRead : Type 0 where
    pub own : (m : ℕ) (k : Kont) (vss : Values) (vs : List (Value ℕ)) (w : State ℕ S) (name : List ℕ) (place : ℕ) (constant : Bool)
        (v : Option (Value ℕ)) → HasRoom k vs → FitNames (kont_names k) vss → found_in (kont_names k) name ≡ Some (found_at place constant)
        → slice_get (flat vss) place ≡ Some v → Reads m k vss vs w name (local_reading v)
    pub other : (m : ℕ) (k : Kont) (vss : Values) (vs : List (Value ℕ)) (w : State ℕ S) (name : List ℕ) (read : Reading (Value ℕ))
        → HasRoom k vs → FitNames (kont_names k) vss → found_in (kont_names k) name ≡ None
        → IsReadingOf (modules_of modules w) w.cells m name read → Reads m k vss vs w name read
