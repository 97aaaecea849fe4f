-- Which states and rests bodies run in: values that were made there, and statements that stand where they may. A state that no
-- segment reaches, and a rest that no module text has, are left out by these words.
use Rattle.std.specs.Prelude.{◌≡◌, ◌<◌, ℕ, Bool, true, false, List, [], ◌∷◌, length, Option, Some, None, ⊤}
use Rattle.esm_tree.specs.Syntax.{Stmt, Stmts}
use Rattle.esm_ast.specs.Entries.{stmt_awaits, stmts_await}
use Rattle.esm_ast.specs.ModuleTree.{IsModuleTree, stmt_returns, stmts_return}
use Rattle.esm_values.specs.Value.{Value, Undefined, Truth, Text, Func, Error, Namespace, Promise}
use Rattle.esm_expr_eval.specs.Ready.{Holds}
use Rattle.esm_env.specs.Declarations.{FunctionCode}
use Rattle.esm_env.specs.Modules.{Modules, entries, function_of}
use Rattle.esm_env.specs.Cells.{Cells, Reading}
use Rattle.esm_env.specs.Cells.{Reading as reading}
use Rattle.esm_rewriting.specs.Scopes.{Scope}
use Rattle.esm_rewriting.specs.Rest.{Use, Part, Rest, end, more}
use Rattle.esm_rewriting.specs.Rest.Use.{Drops, Sets, Writes, Throws, Returns, Prints, Chooses, Awaits}
use Rattle.esm_rewriting.specs.Rest.Part.{Whole, Does, Stands, In, Tries}
use Rattle.esm_promise.specs.Outer.{Outer}
use Rattle.esm_rewriting.specs.State.{State, Standing}
use Rattle.esm_rewriting.specs.Segment.{Active, Ended, Normal, Thrown, Awaiting, Stopped}

-- ---- values and modules

module _ {N : Type 0} (g : Modules N) (linked : N → Bool) where
  -- a function is one of a linked module, and a namespace that of one
  abbrev pub IsKnown : Value N → Type 0
  IsKnown Undefined = ⊤
  IsKnown (Truth b) = ⊤
  IsKnown (Text text) = ⊤
  IsKnown (Func m index) = (linked m ≡ true) × ((f : FunctionCode) × (function_of g m index ≡ Some f))
  IsKnown (Error id) = ⊤
  IsKnown (Namespace m) = linked m ≡ true
  IsKnown (Promise id) = ⊤

  abbrev pub IsKnownReading : Reading (Value N) → Type 0
  IsKnownReading (reading.Value v) = IsKnown v
  IsKnownReading reading.Unset = ⊤
  IsKnownReading reading.Undeclared = ⊤

  abbrev pub AreKnownCells : Cells N → Type 0
  AreKnownCells cells = (m : N) (x : List ℕ) (v : Value N) → cells m x ≡ Some v → IsKnown v

  -- a linked module is there, its tree is a module's, and its requests lead to linked modules
  pub record AreLinked : Type 0 where
    pub trees : (m : N) → linked m ≡ true → IsModuleTree (g.tree m)
    pub targets : (m : N) (request : ℕ) → linked m ≡ true → request < length (entries g m).requests
        → linked (g.target m request) ≡ true
    pub below : (m : N) → linked m ≡ true → g.number m < g.size
    pub named : (m : N) → linked m ≡ true → g.named (g.number m) ≡ m

-- ---- what may stand in a body, and in a function

pub record Kind : Type 0 where
  pub returns : Bool
  pub awaits : Bool

abbrev pub of_function : Kind
of_function = record { returns = true; awaits = false }

-- of a body, which awaits or doesn't
abbrev pub of_body : Bool → Kind
of_body awaits = record { returns = false; awaits = awaits }

pub record FitsStmt (k : Kind) (s : Stmt) : Type 0 where
  pub returns : k.returns ≡ false → stmt_returns s ≡ false
  pub awaits : k.awaits ≡ false → stmt_awaits s ≡ false

pub record FitsStmts (k : Kind) (ss : Stmts) : Type 0 where
  pub returns : k.returns ≡ false → stmts_return ss ≡ false
  pub awaits : k.awaits ≡ false → stmts_await ss ≡ false

abbrev pub FitsUse : Kind → Use → Type 0
FitsUse k Drops = ⊤
FitsUse k (Sets x) = ⊤
FitsUse k (Writes x) = ⊤
FitsUse k Throws = ⊤
FitsUse k Returns = k.returns ≡ true
FitsUse k Prints = ⊤
FitsUse k (Chooses ss others) = FitsStmts k ss × FitsStmts k others
FitsUse k (Awaits purpose) = (k.awaits ≡ true) × FitsUse k purpose

-- ---- what remains

abbrev pub HoldsValue : {V : Type 0} → (V → Type 0) → Option V → Type 0
HoldsValue Knows None = ⊤
HoldsValue Knows (Some v) = Knows v

abbrev pub HoldsScope : {V : Type 0} → (V → Type 0) → Scope V → Type 0
HoldsScope Knows [] = ⊤
HoldsScope Knows (s ∷ ss) = HoldsValue Knows s.cell.value × HoldsScope Knows ss

abbrev pub HoldScopes : {V : Type 0} → (V → Type 0) → List (Scope V) → Type 0
HoldScopes Knows [] = ⊤
HoldScopes Knows (s ∷ ss) = HoldsScope Knows s × HoldScopes Knows ss

-- each value in it is known, and each statement stands where it may; waits says whether a call or an await may be under way
module _ {V : Type 0} (Knows : V → Type 0) (waits : Type 0) (k : Kind) where
  abbrev mutual
    pub HoldsPart : Part V → Type 0
    HoldsPart (Whole s) = FitsStmt k s
    HoldsPart (Does purpose e) = FitsUse k purpose × Holds Knows waits e
    HoldsPart (Stands purpose) = FitsUse k purpose × waits
    HoldsPart (In scope rest) = HoldsScope Knows scope × HoldsRest rest
    HoldsPart (Tries rest caught handler) = HoldsRest rest × FitsStmts k handler

    pub HoldsRest : Rest V → Type 0
    HoldsRest end = ⊤
    HoldsRest (more p rest) = HoldsPart p × HoldsRest rest

-- ---- states

module _ {N I : Type 0} (modules : I → Modules N) (linked : I → N → Bool) where
  abbrev pub Knows : I → Value N → Type 0
  Knows i v = IsKnown (modules i) (linked i) v

  -- the callers of what runs, the last of them a body, which awaits or doesn't
  abbrev pub kind_by : Bool → List (Active N) → Kind
  kind_by awaits [] = of_body awaits
  kind_by awaits (c ∷ cs) = of_function

  abbrev pub FitCallers : I → Bool → List (Active N) → Type 0
  FitCallers i awaits [] = ⊤
  FitCallers i awaits (c ∷ cs) = (linked i c.at ≡ true) × HoldsRest (Knows i) ⊤ (kind_by awaits cs) c.rest × FitCallers i awaits cs

  -- the bodies that stand at an await
  abbrev pub FitStanding : I → List (Standing N) → Type 0
  FitStanding i [] = ⊤
  FitStanding i (s ∷ ss) = (linked i s.at ≡ true) × HoldsRest (Knows i) ⊤ (of_body true) s.rest × FitStanding i ss

  -- Whole is what is asked of promises, errors and modules
  module _ (Whole : Outer N I → Type 0) where
    pub record FitsState (w : State N I) : Type 0 where
      pub whole : Whole w.outer
      pub cells : AreKnownCells (modules w.outer.imports) (linked w.outer.imports) w.cells
      pub standing : FitStanding w.outer.imports w.engine.standing

    -- a rest runs in a module, with its callers
    pub record FitsRun (w : State N I) (m : N) (awaits : Bool) (rest : Rest (Value N)) (callers : List (Active N)) : Type 0 where
      pub state : FitsState w
      pub home : linked w.outer.imports m ≡ true
      pub holds : HoldsRest (Knows w.outer.imports) ⊥ (kind_by awaits callers) rest
      pub before : FitCallers w.outer.imports awaits callers

    -- the state fits still, and what was known is known still
    pub record FitsAfter (w after : State N I) : Type 0 where
      pub fits : FitsState after
      pub keeps : (v : Value N) → Knows w.outer.imports v → Knows after.outer.imports v

    -- how a segment ends: only a body that awaits stands at an await, with a rest that fits
    abbrev pub FitsEnd : State N I → Bool → Ended N → State N I → Type 0
    FitsEnd w awaits Normal after = FitsAfter w after
    FitsEnd w awaits (Thrown v) after = FitsAfter w after × Knows after.outer.imports v
    FitsEnd w awaits (Awaiting v rest) after = FitsAfter w after × (awaits ≡ true) × Knows after.outer.imports v
        × HoldsRest (Knows after.outer.imports) ⊤ (of_body awaits) rest
    FitsEnd w awaits (Stopped why) after = FitsAfter w after
