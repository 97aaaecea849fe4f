-- What is said of each call of rows on the world around functions: it is what the definitions say.
use Rattle.std.specs.Prelude.{◌≡◌, ℕ, nat_eq, Bool, true, List, [], ◌∷◌, Option, Some, None, Result, Ok, Err}
use Rattle.esm_base.specs.declared.limits.Limit.{Limit}
use Rattle.esm_base.specs.declared.memory.Memory.{Memory}
use Rattle.esm_env.specs.Declarations.{FunctionCode}
use Rattle.esm_env.specs.Modules.{Modules, function_of}
use Rattle.esm_env.specs.NamePlaces.{first_place}
use Rattle.esm_values.specs.Value as value
use Rattle.esm_values.specs.Acts.{Act as act}
use Rattle.esm_values.specs.Code.{CodeValue, value_of, numbered}
use Rattle.esm_values.specs.Completion.{Completion, Normal, Throw}
use Rattle.esm_values.specs.Errors.{fault}
use Rattle.esm_values.specs.Operators.{look_of, complete, error_of, sum}
use Rattle.esm_values.specs.Plans.{Rewritten, Plan, Follows}
use Rattle.esm_values.specs.Plans.Rewritten.{Goes, Leaves, Stops}
use Rattle.esm_values.specs.Plans.Plan.{Ends, Asks}
use Rattle.esm_values.specs.declared.errors.FaultKind.{FaultKind}
use Rattle.esm_values.specs.declared.value.Value.{Value}
use Rattle.esm_expr_eval.specs.Terms.{Term}
use Rattle.esm_expr_eval.specs.declared.world.Out.{Out}
use Rattle.esm_expr_eval.specs.declared.world.Out.TheVariants as out
use Rattle.esm_rewriting.specs.Scopes.{Scope}
use Rattle.esm_rewriting.specs.State.{State, Importing, take_steps, new_error, with_error}
use Rattle.esm_rewriting.specs.Acts.{Inner, Performs, write_name}
use Rattle.esm_rewriting.specs.Fits.{Knows}
use Rattle.esm_rewriting.specs.declared.stop.Stop.{Stop}
use Rattle.esm_rewriting.specs.declared.stop.Stop.TheVariants as stops
use Rattle.esm_rows.specs.Functions.{IsRow}
use Rattle.esm_rows.specs.declared.row.Row.{Row}

-- ---- what is planned of values, where the result is for what is behind

abbrev pub Planning : Type 0
Planning = (CodeValue → Term CodeValue) → Plan CodeValue Limit (Term CodeValue)

abbrev pub Ending : Type 0
Ending = (CodeValue → Term CodeValue) → Rewritten CodeValue Limit (Term CodeValue)

abbrev pub member_plan : CodeValue → List ℕ → Planning
member_plan v x = λ rest. Asks (act.Member v x) (complete numbered rest)

abbrev pub sum_plan : CodeValue → CodeValue → Planning
sum_plan u v = λ rest. sum numbered u v rest

abbrev pub print_plan : List CodeValue → Planning
print_plan vs = λ rest. Asks (act.Step 1) (λ _. Asks (act.Print vs) (λ _. Ends (Goes (rest numbered.undefined))))

abbrev pub error_plan : CodeValue → Planning
error_plan v = λ rest. Asks (act.Step 1) (λ _. error_of numbered rest v (look_of v))

abbrev pub import_plan : CodeValue → Planning
import_plan v = λ rest. Asks (act.Step 1) (λ _. Asks (act.Import v) (λ p. Ends (Goes (rest p))))

-- it goes on with this value, leaves by this throw, or stops
abbrev pub gives : CodeValue → Ending
gives v = λ rest. Goes (rest v)

abbrev pub leaves : CodeValue → Ending
leaves v = λ rest. Leaves v

abbrev pub halts : Limit → Ending
halts why = λ rest. Stops why

-- ---- what a call of the code gave

abbrev pub out_value : Out → CodeValue
out_value (out.Value v) = value_of v
out_value (out.Thrown v) = value_of v

abbrev pub ends_as : Out → Ending
ends_as (out.Value v) = gives (value_of v)
ends_as (out.Thrown v) = leaves (value_of v)

abbrev pub completed : Out → Completion CodeValue
completed (out.Value v) = Normal (value_of v)
completed (out.Thrown v) = Throw (value_of v)

abbrev pub thrown_value : Option Value → Option CodeValue
thrown_value None = None
thrown_value (Some v) = Some (value_of v)

abbrev pub AllKnown : (CodeValue → Type 0) → List CodeValue → Type 0
AllKnown K [] = Unit {0}
AllKnown K (v ∷ vs) = K v × AllKnown K vs

abbrev pub KnownIfSome : (CodeValue → Type 0) → Option CodeValue → Type 0
KnownIfSome K None = Unit {0}
KnownIfSome K (Some v) = K v

module _ {W S : Type 0} (state : W → State ℕ S) (modules : S → Modules ℕ) (linked : S → ℕ → Bool) (begins : Importing ℕ S)
    (Ready : W → Type 0) (Keeps : W → W → Type 0) where
  abbrev pub modules_in : W → Modules ℕ
  modules_in w = modules (state w).outer.imports

  abbrev pub IsLinked : W → ℕ → Type 0
  IsLinked w m = linked (state w).outer.imports m ≡ true

  abbrev pub KnowsIn : W → CodeValue → Type 0
  KnowsIn w v = Knows modules linked (state w).outer.imports v

  -- the state with these scopes round the code
  abbrev pub over : List (Scope CodeValue) → W → Inner ℕ S
  over ss w = record { scopes = ss; state = state w }

  -- the world is ready again, and the call has kept what it keeps
  pub record Well (w after : W) : Type 0 where
    pub is_ready : Ready after
    pub keeps : Keeps w after

  -- in code of this module, the plan is followed to this end
  abbrev pub Follow : ℕ → W → Planning → Ending → W → Type 0
  Follow m w plan end after = (ss : List (Scope CodeValue)) (rest : CodeValue → Term CodeValue)
      → Follows (Performs nat_eq modules begins m) (over ss w) (plan rest) (end rest) (over ss after)

  abbrev pub Answered : ℕ → W → Planning → Result Out Stop → W → Type 0
  Answered m w plan (Ok told) after = Follow m w plan (ends_as told) after × KnowsIn after (out_value told) × Well w after
  Answered m w plan (Err (stops.Limit why)) after = Follow m w plan (halts why) after × Keeps w after
  Answered m w plan (Err stops.Memory) after = Unit {0}

  -- a call with these values is a plan that is followed, in code of this module
  abbrev pub AskedIn : ℕ → W → List CodeValue → Planning → Result Out Stop → W → Type 0
  AskedIn m w vs plan result after = Ready w → IsLinked w m → AllKnown (KnowsIn w) vs → Answered m w plan result after

  -- in code of any module
  abbrev pub Asked : W → List CodeValue → Planning → Result Out Stop → W → Type 0
  Asked w vs plan result after = (m : ℕ) → AskedIn m w vs plan result after

  -- a step takes no memory
  abbrev pub Steps : W → Result (Unit {0}) Stop → W → Type 0
  Steps w (Ok u) after = Ready w → (take_steps (state w) 1 ≡ (Ok tt, state after)) × Well w after
  Steps w (Err (stops.Limit why)) after = Ready w → (take_steps (state w) 1 ≡ (Err why, state after)) × Keeps w after
  Steps w (Err stops.Memory) after = ⊥

  abbrev pub Faults : W → FaultKind → List ℕ → Result Value Stop → W → Type 0
  Faults w kind message (Ok v) after = Ready w → (value_of v ≡ new_error (state w))
      × (state after ≡ with_error (state w) (fault kind message)) × Well w after
  Faults w kind message (Err (stops.Limit why)) after = ⊥
  Faults w kind message (Err stops.Memory) after = Unit {0}

  -- a name that no block of the function declares
  abbrev pub Reads : W → ℕ → List ℕ → Result Out Stop → W → Type 0
  Reads w m x (Ok told) after = Ready w → IsLinked w m
      → Performs nat_eq modules begins m (over [] w) (act.Read x) (Ok (completed told)) (over [] after)
      × KnowsIn after (out_value told) × Well w after
  Reads w m x (Err (stops.Limit why)) after = ⊥
  Reads w m x (Err stops.Memory) after = Unit {0}

  abbrev pub Writes : W → ℕ → List ℕ → CodeValue → Result (Option Value) Stop → W → Type 0
  Writes w m x v (Ok told) after = Ready w → IsLinked w m → KnowsIn w v
      → (write_name nat_eq modules begins m (over [] w) x v ≡ (thrown_value told, over [] after))
      × KnownIfSome (KnowsIn after) (thrown_value told) × Well w after
  Writes w m x v (Err (stops.Limit why)) after = ⊥
  Writes w m x v (Err stops.Memory) after = Unit {0}

  abbrev pub IsUrl : W → ℕ → Result Value Memory → Type 0
  IsUrl w m (Ok v) = Ready w → IsLinked w m → value_of v ≡ value.Text ((modules_in w).url m)
  IsUrl w m (Err e) = Unit {0}

  module _ (owns : S → ℕ → List (List ℕ)) where
    abbrev pub owns_in : W → ℕ → List (List ℕ)
    owns_in w m = owns (state w).outer.imports m

    -- what was linked is linked still, with its tree and its names
    pub record Stays (w after : W) : Type 0 where
      pub links : (m : ℕ) → IsLinked w m → IsLinked after m
      pub trees : (m : ℕ) → IsLinked w m → (modules_in after).tree m ≡ (modules_in w).tree m
      pub names : (m : ℕ) → IsLinked w m → owns_in after m ≡ owns_in w m

    -- the name with this place
    abbrev pub ReadsPlace : W → ℕ → ℕ → Result Out Stop → W → Type 0
    ReadsPlace w m k result after = (x : List ℕ) → first_place (owns_in w m) x ≡ Some k → Reads w m x result after

    abbrev pub IsRowIn : W → ℕ → ℕ → Result (Option Row) Memory → Type 0
    IsRowIn w m k (Ok (Some row)) = Ready w → IsLinked w m
        → (f : FunctionCode) × (function_of (modules_in w) m k ≡ Some f) × IsRow (owns_in w m) f row
    IsRowIn w m k (Ok None) = Ready w → IsLinked w m → function_of (modules_in w) m k ≡ None
    IsRowIn w m k (Err e) = Unit {0}
