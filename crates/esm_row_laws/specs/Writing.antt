-- What an assignment comes to of a name that no block of the function declares: it is its module's.
use Rattle.std.specs.Prelude.{◌≡◌, ℕ, nat_eq, List, [], ◌∷◌, Option, Some, None}
use Rattle.esm_env.specs.Modules.{Modules}
use Rattle.esm_values.specs.Value.{Value}
use Rattle.esm_values.specs.Operators.{values}
use Rattle.esm_expr_eval.specs.Terms.Term.{Val}
use Rattle.esm_rewriting.specs.Rest.{Use as purposes}
use Rattle.esm_rewriting.specs.Rest.{more}
use Rattle.esm_rewriting.specs.Rest.Part.{Does}
use Rattle.esm_rewriting.specs.State.{State, Importing}
use Rattle.esm_rewriting.specs.Acts.{Inner as OverScopes, write_name}
use Rattle.esm_rows.specs.Rows.{found_in}
use Rattle.esm_row_laws.specs.Spots.{Left, Round, names_of, Uses, Has, Between}
use Rattle.esm_row_laws.specs.Remaining.{left_rest, rest_at}
use Rattle.esm_row_laws.specs.Leading.{Leads}
use Rattle.esm_row_laws.specs.Places.{FitNames}
use Rattle.esm_row_laws.specs.Operations.{Values}
use Rattle.esm_row_laws.specs.Landings.{ThrowsIn}

module _ {S : Type 0} (modules : S → Modules ℕ) (begins : Importing ℕ S) where
  -- the state with no scopes round the code, in which a name is its module's
  abbrev pub bare : State ℕ S → OverScopes ℕ S
  bare w = record { scopes = []; state = w }

  -- what remains behind an assignment goes on in this state, or the assignment throws this
  abbrev pub Assigns : ℕ → Left → List Round → Values → State ℕ S → List ℕ → Value ℕ → Option (Value ℕ) → State ℕ S → Type 0
  Assigns m l rs vss w name v None late =
      Leads nat_eq modules begins m w (rest_at (values nat_eq) (Has (Uses (purposes.Writes name) l rs)) vss (v ∷ [])) late
      (rest_at (values nat_eq) (Between l rs) vss [])
  Assigns m l rs vss w name v (Some thrown) late =
      ThrowsIn modules begins m rs vss w (more (Does (purposes.Writes name) (Val v)) (left_rest (values nat_eq) l)) thrown late

  abbrev pub OthersWritten : Type 0
  OthersWritten = (m : ℕ) (l : Left) (rs : List Round) (vss : Values) (w late : State ℕ S) (name : List ℕ) (v : Value ℕ)
      (thrown : Option (Value ℕ)) → FitNames (names_of rs) vss → found_in (names_of rs) name ≡ None
      → write_name nat_eq modules begins m (bare w) name v ≡ (thrown, bare late) → Assigns m l rs vss w name v thrown late
