-- What the calls of code under way tell: display texts, members and import().
use Rattle.std.specs.Prelude.{◌≡◌, ℕ, Bool, true, false, List, [], ◌∷◌, All, Option, Some, None, Result, Ok, Err, codes}
use Rattle.std.specs.Str.{IsUtf8}
use Rattle.std.specs.Arc.{arc_value}
use Rattle.esm_tree.specs.Syntax.{Item}
use Rattle.esm_base.specs.declared.memory.Memory.{Memory}
use Rattle.esm_base.specs.declared.limits.Limit.{Limit}
use Rattle.esm_resolve.specs.declared.graph.Resolution.{Resolution}
use Rattle.esm_resolve.specs.declared.graph.Resolution.TheVariants as resolutions
use Rattle.esm_resolve.specs.declared.graph.Binding.TheVariants as bindings
use Rattle.esm_resolve.specs.Keys.{AreNamespaceKeysOf}
use Rattle.esm_values.specs.Value as value
use Rattle.esm_values.specs.Code.{CodeValue, value_of}
use Rattle.esm_values.specs.Errors.{Errors, fault, make_error, next_error}
use Rattle.esm_values.specs.Operators.{text_of}
use Rattle.esm_values.specs.Completion.{Normal, Throw}
use Rattle.esm_values.specs.declared.errors.FaultKind.TheVariants as kinds
use Rattle.esm_values.specs.declared.value.FuncId.{FuncId}
use Rattle.esm_values.specs.declared.value.Value.{Value}
use Rattle.esm_expr_eval.specs.declared.world.Out.{Out}
use Rattle.esm_promise.specs.Code.{Numbered}
use Rattle.esm_promise.specs.Promises.{no_promises, make, settle, next_promise}
use Rattle.esm_promise.specs.Promises.Settled.{Rejected}
use Rattle.esm_promise.specs.Outer.{Outer}
use Rattle.esm_env.specs.Declarations.{FunctionCode, functions_by, function_at}
use Rattle.esm_env.specs.Modules.{Modules, graph, name_by}
use Rattle.esm_env.specs.Cells.{Reading, no_cells}
use Rattle.esm_env.specs.Cells.{Reading as reading}
use Rattle.esm_env.specs.Reading.{IsMemberOf}
use Rattle.esm_env.specs.Scopes.{Scopes, scope_in, cells_of, read_end_in, defined}
use Rattle.esm_env.specs.declared.scope.ModuleScope.{ModuleScope}
use Rattle.esm_env.specs.Faithful.{AreScopesOf}
use Rattle.esm_rewriting.specs.State.{State, Importing, opening_engine}
use Rattle.esm_rewriting.specs.Acts.{Displays, DisplaysAll, error_member}
use Rattle.esm_rewriting.specs.Fits.{IsKnown, AreLinked}
use Rattle.esm_body.specs.Importers.{MayBegin, outer_with}
use Rattle.esm_body.specs.Inner.Names.{said_out, told_as}
use Rattle.esm_body.specs.Inner.World.{AllKnown}
use Rattle.esm_rewriting.specs.declared.stop.Stop.{Stop}
use Rattle.esm_rewriting.specs.declared.stop.Stop.TheVariants as stops

-- ---- display texts

abbrev pub first_function : List FunctionCode → Option FunctionCode
first_function [] = None
first_function (f ∷ fs) = Some f

-- the name of the function that an item declares
abbrev pub item_name : Item → List ℕ
item_name item = name_by (first_function (functions_by item))

abbrev pub told_name : Option ModuleScope → ℕ → List ℕ
told_name None index = []
told_name (Some s) index = name_by (function_at (arc_value s.tree).items index)

-- the name of a function of a module that has a scope
abbrev pub name_told : Scopes → FuncId → List ℕ
name_told e f = told_name (scope_in e f.module.0) f.index

abbrev pub IsKeys : Modules ℕ → (ℕ → Bool) → ℕ → List (List ℕ) → Type 0
IsKeys g linked m keys = AreLinked g linked → linked m ≡ true → AreNamespaceKeysOf (graph g) (g.number m) keys × All IsUtf8 keys

-- a state in which nothing but these modules and errors is there
abbrev pub bare_state : Modules ℕ → Errors → State ℕ (Modules ℕ)
bare_state g errors = record { engine = opening_engine false; cells = no_cells; outer = outer_with no_promises errors g }

module _ (g : Modules ℕ) (linked : ℕ → Bool) (e : Scopes) (errors : Errors) where
  -- the text is the value's display text, where its value is known
  abbrev pub IsShown : CodeValue → List ℕ → Type 0
  IsShown v text = AreScopesOf g linked e → AreLinked g linked → IsKnown g linked v → Displays (λ g. g) (bare_state g errors) v text

  abbrev pub AreShown : List CodeValue → List (List ℕ) → Type 0
  AreShown vs texts = AreScopesOf g linked e → AreLinked g linked → AllKnown (IsKnown g linked) vs
      → DisplaysAll (λ g. g) (bare_state g errors) vs texts

-- the text of a specifier, where the value has one
abbrev pub IsSpecifier : Errors → CodeValue → Option (List ℕ) → Type 0
IsSpecifier errors v text = text ≡ text_of errors v

-- ---- members

-- what is read where a resolution ends
abbrev pub end_reading : Scopes → Resolution → Reading CodeValue
end_reading e resolutions.Missing = reading.Value value.Undefined
end_reading e (resolutions.One of (bindings.Local x)) = defined (read_end_in e of.0 x)
end_reading e (resolutions.One of bindings.Whole) = reading.Value (value.Namespace of.0)
end_reading e resolutions.Ambiguous = reading.Value value.Undefined

abbrev pub NoMembers : Errors → Result Out Memory → Errors → Type 0
NoMembers old (Ok told) new = (said_out told ≡ Throw (value.Error (next_error old)))
    × (new ≡ make_error old (fault kinds.TypeError (codes "no members")))
NoMembers old (Err end) new = Unit {0}

module _ (g : Modules ℕ) (linked : ℕ → Bool) (e : Scopes) where
  abbrev pub IsMember : ℕ → List ℕ → Reading CodeValue → Type 0
  IsMember m x read = AreScopesOf g linked e → AreLinked g linked → linked m ≡ true → IsMemberOf g (cells_of e) m x read

  -- what a member of a value is told as, where the value is known
  abbrev pub MemberTold : Errors → CodeValue → List ℕ → Result Out Memory → Errors → Type 0
  MemberTold old v x (Err end) new = Unit {0}
  MemberTold old (value.Namespace m) x (Ok told) new = AreScopesOf g linked e → AreLinked g linked → linked m ≡ true
      → (read : Reading CodeValue) × IsMemberOf g (cells_of e) m x read × (said_out told ≡ (told_as x read old).0)
      × (new ≡ (told_as x read old).1)
  MemberTold old (value.Error id) x (Ok told) new = (said_out told ≡ Normal (error_member old id x)) × (new ≡ old)
  MemberTold old v x (Ok told) new = NoMembers old (Ok told) new

-- ---- import()

-- a promise that is rejected at once
abbrev pub RefusesTold : Numbered → Errors → Result Value Memory → Numbered → Errors → Type 0
RefusesTold promises errors (Ok v) late after = (value_of v ≡ value.Promise (next_promise promises))
    × (late ≡ settle (make promises []) (next_promise promises) (Rejected (value.Error (next_error errors))))
    × (after ≡ make_error errors (fault kinds.TypeError (codes "cannot convert to text")))
RefusesTold promises errors (Err end) late after = Unit {0}

module _ {I : Type 0} (modules : I → Modules ℕ) (linked : I → ℕ → Bool) (fits : Outer ℕ I → Type 0) (begins : Importing ℕ I) where
  abbrev pub BeginsAt : Outer ℕ I → ℕ → List ℕ → ℕ → Result (Unit {0}) Limit → Outer ℕ I → Type 0
  BeginsAt o m specifier p r after = MayBegin modules linked fits begins o m p → begins o m specifier p r after

  -- an import() of a specifier, over a promise that is made for it
  abbrev pub BeginsTold : Outer ℕ I → ℕ → List ℕ → Result Value Stop → Outer ℕ I → Type 0
  BeginsTold o m specifier (Ok v) after = (value_of v ≡ value.Promise (next_promise o.promises))
      × BeginsAt (record o { promises = make o.promises [] }) m specifier (next_promise o.promises) (Ok tt) after
  BeginsTold o m specifier (Err (stops.Limit limit)) after =
      BeginsAt (record o { promises = make o.promises [] }) m specifier (next_promise o.promises) (Err limit) after
  BeginsTold o m specifier (Err stops.Memory) after = Unit {0}
