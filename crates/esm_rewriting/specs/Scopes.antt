-- The scopes of blocks, functions and handlers. ECMA-262, Declarative Environment Records.
use Rattle.std.specs.Prelude.{ℕ, Bool, true, false, List, [], ◌∷◌, ◌++◌, map, Option, Some, None}
use Rattle.std.specs.Option.{option_or}
use Rattle.std.specs.Str.{bytes_eq}
use Rattle.esm_tree.specs.Syntax.{Stmts}
use Rattle.esm_values.specs.Value.{Undefined}
use Rattle.esm_values.specs.Code.{CodeValue}
use Rattle.esm_env.specs.Declarations.{Declaration, declared_in, FunctionCode}
use Rattle.esm_env.specs.Cells.{Cell}

pub record NamedCell (V : Type 0) : Type 0 where
  pub name : List ℕ
  pub cell : Cell V

abbrev pub Scope : Type 0 → Type 0
Scope V = List (NamedCell V)

-- the first of the values, or undefined
abbrev pub argument_of : List CodeValue → CodeValue
argument_of [] = Undefined
argument_of (v ∷ vs) = v

module _ {V : Type 0} where
  abbrev pub named_cell : List ℕ → Bool → Option V → NamedCell V
  named_cell x constant value = record { name = x; cell = record { constant = constant; value = value } }

  -- an unset name
  abbrev pub unset : Declaration → NamedCell V
  unset d = named_cell d.name d.constant None

  -- the scope of these statements
  abbrev pub scope_of : Stmts → Scope V
  scope_of ss = map unset (declared_in ss)

  -- ECMA-262, FunctionDeclarationInstantiation: a missing argument is undefined, further arguments are dropped
  abbrev pub parameters : V → List (List ℕ) → List V → Scope V
  parameters undefined [] vs = []
  parameters undefined (x ∷ xs) [] = named_cell x false (Some undefined) ∷ parameters undefined xs []
  parameters undefined (x ∷ xs) (v ∷ vs) = named_cell x false (Some v) ∷ parameters undefined xs vs

  -- the scope of a call
  abbrev pub call_scope : V → FunctionCode → List V → Scope V
  call_scope undefined f vs = parameters undefined f.parameters vs ++ scope_of f.body

  abbrev pub caught_name : Option (List ℕ) → V → Scope V
  caught_name None v = []
  caught_name (Some x) v = named_cell x false (Some v) ∷ []

  -- ECMA-262, CatchClauseEvaluation: the scope of a handler
  abbrev pub handler_scope : Option (List ℕ) → V → Stmts → Scope V
  handler_scope x v handler = caught_name x v ++ scope_of handler

  abbrev pub cell_by : Bool → Cell V → Option (Cell V) → Option (Cell V)
  cell_by true c later = Some c
  cell_by false c later = later

  abbrev pub in_scope : Scope V → List ℕ → Option (Cell V)
  in_scope [] x = None
  in_scope (s ∷ ss) x = cell_by (bytes_eq s.name x) s.cell (in_scope ss x)

  -- the cell of the innermost scope that declares the name
  abbrev pub in_scopes : List (Scope V) → List ℕ → Option (Cell V)
  in_scopes [] x = None
  in_scopes (s ∷ ss) x = option_or (in_scope s x) (in_scopes ss x)

  abbrev pub set_by : Bool → NamedCell V → V → Scope V → Scope V → Scope V
  set_by true s v rest later = named_cell s.name s.cell.constant (Some v) ∷ rest
  set_by false s v rest later = s ∷ later

  abbrev pub set_in : Scope V → List ℕ → V → Scope V
  set_in [] x v = []
  set_in (s ∷ ss) x v = set_by (bytes_eq s.name x) s v ss (set_in ss x v)

  abbrev pub set_where : Option (Cell V) → Scope V → List (Scope V) → List ℕ → V → List (Scope V) → List (Scope V)
  set_where (Some c) s ss x v later = set_in s x v ∷ ss
  set_where None s ss x v later = s ∷ later

  -- in the innermost scope that declares the name
  abbrev pub set_in_scopes : List (Scope V) → List ℕ → V → List (Scope V)
  set_in_scopes [] x v = []
  set_in_scopes (s ∷ ss) x v = set_where (in_scope s x) s ss x v (set_in_scopes ss x v)
