-- What a rewriting of a part comes to, where it asks the world, and what the names of a function read as.
use Rattle.std.proofs.Common.{◌≡◌, ℕ, nat_eq, Bool, List, Option, Some, None, refl, ap, subst, sym, ◌∙◌}
use Rattle.std.specs.Prelude.{slice_get}
use Rattle.esm_base.specs.declared.limits.Limit.{Limit}
use Rattle.esm_env.specs.Cells.{Cell, Reading}
use Rattle.esm_env.specs.Cells.{Reading as reading}
use Rattle.esm_env.specs.Modules.{Modules}
use Rattle.esm_env.specs.Reading.{IsReadingOf}
use Rattle.esm_values.specs.Value.{Value}
use Rattle.esm_values.specs.Operators.{values}
use Rattle.esm_values.specs.Completion.{Normal, Throw}
use Rattle.esm_values.specs.Plans.{Follows as follows}
use Rattle.esm_values.specs.Plans.Rewritten.{Goes, Leaves, Stops}
use Rattle.esm_values.specs.Errors.{fault}
use Rattle.esm_values.specs.declared.errors.FaultKind.TheVariants as kinds
use Rattle.esm_expr_eval.specs.Terms.{Term}
use Rattle.esm_expr_eval.specs.Terms.Term.{Val, Name}
use Rattle.esm_expr_eval.specs.Rewriting.Rewrites.{name as name_rule}
use Rattle.esm_rewriting.specs.Scopes.{in_scopes}
use Rattle.esm_rewriting.specs.State.{State, Importing, new_error, with_error}
use Rattle.esm_rewriting.specs.Acts.{Inner as OverScopes, ReadsBy, ReadsName, modules_of, not_initialized, not_defined}
use Rattle.esm_rewriting.specs.BodyRewriting.{On}
use Rattle.esm_rewriting.specs.Segment.{Active, Segment}
use Rattle.esm_rewriting.specs.Segment.{Ended as ended}
use Rattle.esm_rewriting.specs.Contexts.{scopes_in}
use Rattle.esm_rewriting.proofs.Paths.{outer_goes, outer_stops}
use Rattle.esm_rows.specs.Rows.{found_at, found_in}
use Rattle.esm_row_laws.specs.Spots.{Kont, rounds_of, kont_names}
use Rattle.esm_row_laws.specs.Rooms.{HasRoom}
use Rattle.esm_row_laws.specs.Remaining.{contexts, plug, rest_of}
use Rattle.esm_row_laws.specs.Leading.{Leads}
use Rattle.esm_row_laws.specs.Places.{flat, FitNames, cell_with}
use Rattle.esm_row_laws.specs.Operations.{Values}
use Rattle.esm_row_laws.specs.Landings.{over_names, ThrowsIn}
use Rattle.esm_row_laws.specs.Moving.{Part, Reads, local_reading}
use Rattle.esm_row_laws.proofs.Placing as placing
use Rattle.esm_row_laws.proofs.Plugged as plugged

module _ {S : Type 0} (modules : S → Modules ℕ) (begins : Importing ℕ S) (m : ℕ) (k : Kont) (vss : Values) (vs : List (Value ℕ)) (room : HasRoom k vs) where
  abbrev over : State ℕ S → OverScopes ℕ S
  over w = over_names modules begins (rounds_of k) vss w

  pub goes : (w late : State ℕ S) (e f : Term (Value ℕ)) → Part modules begins m k vss w e (Goes f) late → Leads nat_eq modules begins m w (rest_of (values nat_eq) k vss vs e) late (rest_of (values nat_eq) k vss vs f)
  goes w late e f h callers how after seg =
      Segment.goes (On (Goes (rest_of (values nat_eq) k vss vs f))) (outer_goes nat_eq modules begins m (contexts (values nat_eq) (rounds_of k) vss) w (plug (values nat_eq) k vs e) (plug (values nat_eq) k vs f) (over late) refl (plugged.goes nat_eq modules begins m k vs (over w) (over late) e f room h)) refl seg

  pub throws : (w late : State ℕ S) (e : Term (Value ℕ)) (v : Value ℕ) → Part modules begins m k vss w e (Leaves v) late → ThrowsIn modules begins m (rounds_of k) vss w (plug (values nat_eq) k vs e) v late
  throws w late e v h = plugged.leaves nat_eq modules begins m k vs v (over w) (over late) e room h

  pub stops : (w late : State ℕ S) (e : Term (Value ℕ)) (why : Limit) (callers : List (Active ℕ)) → Part modules begins m k vss w e (Stops why) late → Segment nat_eq modules begins w m (rest_of (values nat_eq) k vss vs e) callers (ended.Stopped why) late
  stops w late e why callers h =
      Segment.over (On (Stops why)) (outer_stops nat_eq modules begins m (contexts (values nat_eq) (rounds_of k) vss) w (plug (values nat_eq) k vs e) why (over late) refl (plugged.stops nat_eq modules begins m k vs why (over w) (over late) e room h)) refl

  -- ---- names

  -- what a name reads as over the names of the function
  abbrev ReadsAs : State ℕ S → List ℕ → Reading (Value ℕ) → Type 0
  ReadsAs w name read = ReadsName nat_eq modules begins m (over w) name read

  pub reads : (w : State ℕ S) (name : List ℕ) (read : Reading (Value ℕ)) → ReadsAs w name read → Reads modules begins m k vss vs w name read
  reads w name (reading.Value v) h = goes w w (Name name) (Val v) (name_rule (follows.asks (Normal v) (reading.Value v, h, refl) follows.ends))
  reads w name reading.Unset h =
      throws w (with_error w (fault kinds.ReferenceError (not_initialized name))) (Name name) (new_error w) (name_rule (follows.asks (Throw (new_error w)) (reading.Unset, h, refl) follows.ends))
  reads w name reading.Undeclared h =
      throws w (with_error w (fault kinds.ReferenceError (not_defined name))) (Name name) (new_error w) (name_rule (follows.asks (Throw (new_error w)) (reading.Undeclared, h, refl) follows.ends))

  abbrev cells_here : List ℕ → Option (Cell (Value ℕ))
  cells_here name = in_scopes (scopes_in (contexts (values nat_eq) (rounds_of k) vss)) name

  by_cell : (w : State ℕ S) (name : List ℕ) (cell : Option (Cell (Value ℕ))) (read : Reading (Value ℕ)) → cells_here name ≡ cell → ReadsBy nat_eq modules begins m w name cell read → Reads modules begins m k vss vs w name read
  by_cell w name cell read e h = reads w name read (subst (λ c. ReadsBy nat_eq modules begins m w name c read) (sym e) h)

  of_local : (w : State ℕ S) (name : List ℕ) (constant : Bool) (v : Option (Value ℕ)) → ReadsBy nat_eq modules begins m w name (Some (cell_with constant v)) (local_reading modules begins v)
  of_local w name constant None = refl
  of_local w name constant (Some v) = refl

  value_in : {A : Type 0} → A → Option A → A
  value_in d None = d
  value_in d (Some a) = a

  same_value : {A : Type 0} (a b : A) → ◌≡◌ {A = Option A} (Some a) (Some b) → a ≡ b
  unfolding value_in
  same_value a b e = ap (value_in a) e

  pub own : (w : State ℕ S) (name : List ℕ) (place : ℕ) (constant : Bool) (v : Option (Value ℕ)) → FitNames (kont_names k) vss → found_in (kont_names k) name ≡ Some (found_at place constant) → slice_get (flat vss) place ≡ Some v → Reads modules begins m k vss vs w name (local_reading modules begins v)
  own w name place constant v fit e at =
      let it = placing.found (values nat_eq) name (rounds_of k) vss (found_at place constant) fit e in
      let same = same_value it.0 v (sym it.1 ∙ at) in
      by_cell w name (Some (cell_with constant v)) (local_reading modules begins v) (it.2 ∙ ap (λ u. Some (cell_with constant u)) same) (of_local w name constant v)

  pub other : (w : State ℕ S) (name : List ℕ) (read : Reading (Value ℕ)) → FitNames (kont_names k) vss → found_in (kont_names k) name ≡ None → IsReadingOf (modules_of modules w) w.cells m name read → Reads modules begins m k vss vs w name read
  other w name read fit e h = by_cell w name None read (placing.none (values nat_eq) name (rounds_of k) vss fit e) h
