-- What declarations and assignments do with the names of a function.
use Rattle.std.specs.Prelude.{◌≡◌, ℕ, nat_eq, Bool, true, false, List, [], ◌∷◌, slice_get, slice_set, Option, Some, None, if◌then◌else◌}
use Rattle.std.specs.Str.{bytes_eq}
use Rattle.esm_env.specs.Declarations.{Declaration}
use Rattle.esm_env.specs.Modules.{Modules}
use Rattle.esm_values.specs.Value.{Value}
use Rattle.esm_values.specs.Operators.{values}
use Rattle.esm_values.specs.Errors.{fault}
use Rattle.esm_values.specs.declared.errors.FaultKind.{FaultKind}
use Rattle.esm_values.specs.declared.errors.FaultKind.TheVariants as kinds
use Rattle.esm_expr_eval.specs.Terms.Term.{Val}
use Rattle.esm_rewriting.specs.Rest.{Use as purposes}
use Rattle.esm_rewriting.specs.Rest.{more}
use Rattle.esm_rewriting.specs.Rest.Part.{Does}
use Rattle.esm_rewriting.specs.State.{State, Importing, new_error, with_error}
use Rattle.esm_rewriting.specs.Acts.{not_initialized, is_constant}
use Rattle.esm_rows.specs.Rows.{Names, many_names, Found, found_at, found_among, found_in, found_here}
use Rattle.esm_row_laws.specs.Spots.{Left, Round, names_of, Uses, Has, Between}
use Rattle.esm_row_laws.specs.Remaining.{left_rest, rest_at}
use Rattle.esm_row_laws.specs.Leading.{Leads}
use Rattle.esm_row_laws.specs.Places.{flat, FitNames}
use Rattle.esm_row_laws.specs.Operations.{Values}
use Rattle.esm_row_laws.specs.Landings.{ThrowsIn}

-- the first of a block with this name is set
abbrev pub set_first : List Declaration → List ℕ → Value ℕ → List (Option (Value ℕ)) → List (Option (Value ℕ))
set_first [] x v vs = vs
set_first (d ∷ ds) x v [] = []
set_first (d ∷ ds) x v (u ∷ vs) = if bytes_eq d.name x then Some v ∷ vs else u ∷ set_first ds x v vs

abbrev pub set_by : Option Found → List (Option (Value ℕ)) → List (Option (Value ℕ)) → Values → Values → Values
set_by (Some f) set vs vss later = set ∷ vss
set_by None set vs vss later = vs ∷ later

-- in the innermost block that declares it
abbrev pub set_found : Names → List ℕ → Value ℕ → Values → Values
set_found [] x v vss = vss
set_found (ds ∷ ns) x v [] = []
set_found (ds ∷ ns) x v (vs ∷ vss) = set_by (found_among (many_names ns) ds x) (set_first ds x v vs) vs vss (set_found ns x v vss)

-- in the innermost block
abbrev pub set_here : Names → List ℕ → Value ℕ → Values → Values
set_here [] x v vss = vss
set_here (ds ∷ ns) x v [] = []
set_here (ds ∷ ns) x v (vs ∷ vss) = set_first ds x v vs ∷ vss

module _ {S : Type 0} (modules : S → Modules ℕ) (begins : Importing ℕ S) where
  -- an assignment of a name throws a new error
  abbrev pub WriteThrows : ℕ → Left → List Round → Values → State ℕ S → List ℕ → Value ℕ → FaultKind → List ℕ → Type 0
  WriteThrows m l rs vss w name v kind message =
      ThrowsIn modules begins m rs vss w (more (Does (purposes.Writes name) (Val v)) (left_rest (values nat_eq) l)) (new_error w)
      (with_error w (fault kind message))

  pub record NamesSet : Type 0 where
    pub sets : (m : ℕ) (l : Left) (rs : List Round) (vss : Values) (w : State ℕ S) (name : List ℕ) (v : Value ℕ) (f : Found)
        → FitNames (names_of rs) vss → found_here (names_of rs) name ≡ Some f
        → Leads nat_eq modules begins m w (rest_at (values nat_eq) (Has (Uses (purposes.Sets name) l rs)) vss (v ∷ [])) w
        (rest_at (values nat_eq) (Between l rs) (set_here (names_of rs) name v vss) [])
    pub set_at : (rs : List Round) (vss : Values) (name : List ℕ) (v : Value ℕ) (place : ℕ) (constant : Bool) → FitNames (names_of rs) vss
        → found_here (names_of rs) name ≡ Some (found_at place constant)
        → flat (set_here (names_of rs) name v vss) ≡ slice_set (flat vss) place (Some v)
    pub writes : (m : ℕ) (l : Left) (rs : List Round) (vss : Values) (w : State ℕ S) (name : List ℕ) (v old : Value ℕ) (place : ℕ)
        → FitNames (names_of rs) vss → found_in (names_of rs) name ≡ Some (found_at place false)
        → slice_get (flat vss) place ≡ Some (Some old)
        → Leads nat_eq modules begins m w (rest_at (values nat_eq) (Has (Uses (purposes.Writes name) l rs)) vss (v ∷ [])) w
        (rest_at (values nat_eq) (Between l rs) (set_found (names_of rs) name v vss) [])
    pub written_at : (rs : List Round) (vss : Values) (name : List ℕ) (v : Value ℕ) (place : ℕ) (constant : Bool)
        → FitNames (names_of rs) vss → found_in (names_of rs) name ≡ Some (found_at place constant)
        → flat (set_found (names_of rs) name v vss) ≡ slice_set (flat vss) place (Some v)
    -- that it is unset is told first
    pub unset : (m : ℕ) (l : Left) (rs : List Round) (vss : Values) (w : State ℕ S)
        (name : List ℕ) (v : Value ℕ) (place : ℕ) (constant : Bool)
        → FitNames (names_of rs) vss → found_in (names_of rs) name ≡ Some (found_at place constant)
        → slice_get (flat vss) place ≡ Some None → WriteThrows m l rs vss w name v kinds.ReferenceError (not_initialized name)
    pub constant : (m : ℕ) (l : Left) (rs : List Round) (vss : Values) (w : State ℕ S) (name : List ℕ) (v old : Value ℕ) (place : ℕ)
        → FitNames (names_of rs) vss → found_in (names_of rs) name ≡ Some (found_at place true)
        → slice_get (flat vss) place ≡ Some (Some old) → WriteThrows m l rs vss w name v kinds.TypeError (is_constant name)
