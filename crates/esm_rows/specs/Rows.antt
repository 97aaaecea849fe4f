-- What a function does as a row of small operations, made from its syntax. A jump tells how many operations are left where it
-- leads to.
use Rattle.std.specs.Prelude.{ℕ, zero, suc, ◌+◌, Bool, true, false, List, [], ◌∷◌, ◌++◌, length, map, Option, Some, None, if◌then◌else◌}
use Rattle.std.specs.Option.{option_or}
use Rattle.std.specs.Str.{bytes_eq}
use Rattle.esm_base.specs.DefaultExport.{star_default}
use Rattle.esm_tree.specs.Syntax as x
use Rattle.esm_tree.specs.Syntax.{Expr, Exprs, none, more, Compared, last, compared, Links, ends, member, call, Init, absent, plain, awaited, Bindings, no_more, binding, Stmt, Stmts, nothing, first}
use Rattle.esm_env.specs.Declarations.{Declaration, FunctionCode, declared_in}

pub data Operation : Type 0 where
  -- a statement begins
  Step : Operation
  -- a value is put on the operands
  Text : (s : List ℕ) → Operation
  Truth : (b : Bool) → Operation
  Undefined : Operation
  Url : Operation
  -- the value of a name: of the function, by its place, or of the module
  Local : (place : ℕ) (name : List ℕ) → Operation
  Name : (name : List ℕ) → Operation
  -- where the value on top decides, it stays, and so many operations are left; else it goes
  OrElse : (left : ℕ) → Operation
  AndAlso : (left : ℕ) → Operation
  -- two values, or one, become one
  Compare : (alike : Bool) → Operation
  Add : Operation
  Not : Operation
  Member : (name : List ℕ) → Operation
  -- a callee with so many arguments above it
  Call : (count : ℕ) → Operation
  Print : (count : ℕ) → Operation
  NewError : Operation
  Import : Operation
  -- the value on top is used
  Drop : Operation
  SetLocal : (place : ℕ) → Operation
  SetName : (name : List ℕ) → Operation
  WriteLocal : (place : ℕ) (name : List ℕ) (constant : Bool) → Operation
  WriteName : (name : List ℕ) → Operation
  Throw : Operation
  Return : Operation
  PrintAwaited : Operation
  Await : Operation
  -- where it is false, so many operations are left
  Choose : (left : ℕ) → Operation
  -- so many names begin, unset
  Enter : (count : ℕ) → Operation
  -- so many names go, and so many operations are left
  Leave : (count left : ℕ) → Operation
  -- so many names begin, unset, and until EndTry a throw leads to where so many operations are left
  Try : (count left : ℕ) → Operation
  -- so many names go, the last Try leads a throw no longer, and so many operations are left
  EndTry : (count left : ℕ) → Operation
  -- a handler begins: whether it names what was thrown, and so many names
  Caught : (named : Bool) (count : ℕ) → Operation
  -- the function ends
  End : Operation

-- the operation that is next comes first
abbrev pub Row : Type 0
Row = List Operation

-- ---- names

-- the names of the blocks round a place, the innermost block first
abbrev pub Names : Type 0
Names = List (List Declaration)

abbrev pub many_names : Names → ℕ
many_names [] = 0
many_names (ds ∷ ns) = length ds + many_names ns

-- a name of the function: its place among the names' values, those of the outermost block first
pub record Found : Type 0 where
  pub place : ℕ
  pub constant : Bool

abbrev pub found_at : ℕ → Bool → Found
found_at place constant = record { place = place; constant = constant }

-- the first of a block with this name, where so many names stand before
abbrev pub found_among : ℕ → List Declaration → List ℕ → Option Found
found_among n [] name = None
found_among n (d ∷ ds) name = if bytes_eq d.name name then Some (found_at n d.constant) else found_among (suc n) ds name

-- in the innermost block that declares it
abbrev pub found_in : Names → List ℕ → Option Found
found_in [] name = None
found_in (ds ∷ ns) name = option_or (found_among (many_names ns) ds name) (found_in ns name)

-- in the innermost block
abbrev pub found_here : Names → List ℕ → Option Found
found_here [] name = None
found_here (ds ∷ ns) name = found_among (many_names ns) ds name

abbrev pub read_by : List ℕ → Option Found → Operation
read_by name None = Name name
read_by name (Some f) = Local f.place name

abbrev pub write_by : List ℕ → Option Found → Operation
write_by name None = WriteName name
write_by name (Some f) = WriteLocal f.place name f.constant

abbrev pub set_by : List ℕ → Option Found → Operation
set_by name None = SetName name
set_by name (Some f) = SetLocal f.place

-- ---- expressions

-- so many, with these
abbrev pub among : ℕ → Exprs → ℕ
among n none = n
among n (more e es) = among (suc n) es

module _ (names : Names) where
  abbrev mutual
    -- the operations of an expression, in front of others
    pub expr_row : Expr → Row → Row
    expr_row (x.Text s) c = Text s ∷ c
    expr_row (x.Truth b) c = Truth b ∷ c
    expr_row x.Undefined c = Undefined ∷ c
    expr_row (x.Name name) c = read_by name (found_in names name) ∷ c
    expr_row (x.Group e) c = expr_row e c
    expr_row (x.Or e es) c = expr_row e (ors_row es (length c) c)
    expr_row (x.And e es) c = expr_row e (ands_row es (length c) c)
    expr_row (x.Equal e cs) c = expr_row e (compared_row cs c)
    expr_row (x.Sum e es) c = expr_row e (sums_row es c)
    expr_row (x.Not e) c = expr_row e (Not ∷ c)
    expr_row (x.Post e ls) c = expr_row e (links_row ls c)
    expr_row (x.Print es) c = exprs_row es (Print (among zero es) ∷ c)
    expr_row x.EmptyError c = Undefined ∷ NewError ∷ c
    expr_row (x.NewError e) c = expr_row e (NewError ∷ c)
    expr_row (x.Import e) c = expr_row e (Import ∷ c)
    expr_row x.Url c = Url ∷ c

    pub exprs_row : Exprs → Row → Row
    exprs_row none c = c
    exprs_row (more e es) c = expr_row e (exprs_row es c)

    pub ors_row : Exprs → ℕ → Row → Row
    ors_row none n c = c
    ors_row (more e es) n c = OrElse n ∷ expr_row e (ors_row es n c)

    pub ands_row : Exprs → ℕ → Row → Row
    ands_row none n c = c
    ands_row (more e es) n c = AndAlso n ∷ expr_row e (ands_row es n c)

    pub compared_row : Compared → Row → Row
    compared_row last c = c
    compared_row (compared alike e cs) c = expr_row e (Compare alike ∷ compared_row cs c)

    pub sums_row : Exprs → Row → Row
    sums_row none c = c
    sums_row (more e es) c = expr_row e (Add ∷ sums_row es c)

    pub links_row : Links → Row → Row
    links_row ends c = c
    links_row (member name ls) c = Member name ∷ links_row ls c
    links_row (call es ls) c = exprs_row es (Call (among zero es) ∷ links_row ls c)

  -- what a binding or an assignment is set to
  abbrev pub init_row : Init → Row → Row
  init_row absent c = Undefined ∷ c
  init_row (plain e) c = expr_row e c
  init_row (awaited e) c = expr_row e (Await ∷ c)

  abbrev pub bindings_row : Bindings → Row → Row
  bindings_row no_more c = c
  bindings_row (binding name value bs) c = init_row value (set_by name (found_here names name) ∷ bindings_row bs c)

-- ---- statements. An inner row is given by what makes it, in front of its last operation

-- a block with these names, behind which so many operations are left
abbrev pub block_row : List Declaration → (Row → Row) → ℕ → Row → Row
block_row ds inner n c = Enter (length ds) ∷ inner (Leave (length ds) n ∷ c)

-- one of two blocks, the second of which is this row already
abbrev pub chosen_row : List Declaration → (Row → Row) → ℕ → Row → Row
chosen_row ds inner n others = Choose (length others) ∷ block_row ds inner n others

abbrev pub caught_names : Option (List ℕ) → List Declaration
caught_names None = []
caught_names (Some name) = record { name = name; constant = false } ∷ []

abbrev pub named : Option (List ℕ) → Bool
named None = false
named (Some name) = true

-- the handler of a `try`
abbrev pub handler_row : Option (List ℕ) → List Declaration → (Row → Row) → Row → Row
handler_row caught ds inner c = Caught (named caught) (length ds) ∷ inner (Leave (length (caught_names caught ++ ds)) (length c) ∷ c)

-- a `try`, whose handler is this row already
abbrev pub try_row : List Declaration → (Row → Row) → ℕ → Row → Row
try_row ds inner n handler = Try (length ds) (length handler) ∷ inner (EndTry (length ds) n ∷ handler)

abbrev mutual
  -- the operations of a statement behind its step
  pub stmt_row : Names → Stmt → Row → Row
  stmt_row ns x.Empty c = c
  stmt_row ns (x.Expression e) c = expr_row ns e (Drop ∷ c)
  stmt_row ns (x.Assign name value) c = init_row ns value (write_by name (found_in ns name) ∷ c)
  stmt_row ns (x.Block ss) c = block_row (declared_in ss) (stmts_row (declared_in ss ∷ ns) ss) (length c) c
  stmt_row ns (x.If e ss) c =
      expr_row ns e (chosen_row (declared_in ss) (stmts_row (declared_in ss ∷ ns) ss) (length c) (block_row [] (λ c. c) (length c) c))
  stmt_row ns (x.IfElse e ss others) c =
      expr_row ns e (chosen_row (declared_in ss) (stmts_row (declared_in ss ∷ ns) ss) (length c)
      (block_row (declared_in others) (stmts_row (declared_in others ∷ ns) others) (length c) c))
  stmt_row ns (x.Try ss handler) c =
      try_row (declared_in ss) (stmts_row (declared_in ss ∷ ns) ss) (length c)
      (handler_row None (declared_in handler) (stmts_row ((caught_names None ++ declared_in handler) ∷ ns) handler) c)
  stmt_row ns (x.TryCatch ss name handler) c =
      try_row (declared_in ss) (stmts_row (declared_in ss ∷ ns) ss) (length c)
      (handler_row (Some name) (declared_in handler) (stmts_row ((caught_names (Some name) ++ declared_in handler) ∷ ns) handler) c)
  stmt_row ns (x.Throw e) c = expr_row ns e (Throw ∷ c)
  stmt_row ns x.Return c = Undefined ∷ Return ∷ c
  stmt_row ns (x.ReturnValue e) c = expr_row ns e (Return ∷ c)
  stmt_row ns (x.Await e) c = expr_row ns e (Await ∷ Drop ∷ c)
  stmt_row ns (x.PrintAwait e) c = expr_row ns e (Await ∷ PrintAwaited ∷ c)
  stmt_row ns (x.Const bs) c = bindings_row ns bs c
  stmt_row ns (x.Let bs) c = bindings_row ns bs c
  stmt_row ns (x.Default value) c = init_row ns value (set_by star_default (found_here ns star_default) ∷ c)

  pub stmts_row : Names → Stmts → Row → Row
  stmts_row ns nothing c = c
  stmts_row ns (first s ss) c = Step ∷ stmt_row ns s (stmts_row ns ss c)

abbrev pub parameter : List ℕ → Declaration
parameter name = record { name = name; constant = false }

-- the names of a call: its parameters, and those that its body declares
abbrev pub call_names : FunctionCode → List Declaration
call_names f = map parameter f.parameters ++ declared_in f.body

abbrev pub function_row : FunctionCode → Row
function_row f = stmts_row (call_names f ∷ []) f.body (End ∷ [])
