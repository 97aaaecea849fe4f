-- What remains of a body, as syntax in which values replace what was evaluated, and in which what is under way stands as its
-- remaining part. ECMA-262, Runtime Semantics: Evaluation of statements.
use Rattle.std.specs.Prelude.{ℕ, suc, Bool, true, false, List, Option, Some, None}
use Rattle.esm_tree.specs.Syntax.{Init, absent, plain, awaited, Bindings, no_more, binding, Stmts, nothing, first}
use Rattle.esm_base.specs.DefaultExport.{star_default}
use Rattle.esm_tree.specs.Syntax.{Stmt as Statement}
use Rattle.esm_tree.specs.Syntax.{Stmt as stmts}
use Rattle.esm_values.specs.Operators.{Values}
use Rattle.esm_expr_eval.specs.Terms.{Term, term, fill}
use Rattle.esm_expr_eval.specs.Terms.Term.{Val}
use Rattle.esm_rewriting.specs.Scopes.{Scope, scope_of}

-- what the value of a statement's expression is for
pub data Use : Type 0 where
  Drops : Use
  Sets : (x : List ℕ) → Use
  Writes : (x : List ℕ) → Use
  Throws : Use
  Returns : Use
  Prints : Use
  Chooses : (ss others : Stmts) → Use
  -- the value is awaited, and what comes of it is for that
  Awaits : (purpose : Use) → Use

mutual
  pub data Part (V : Type 0) : Type 0 where
    -- a statement that hasn't begun
    Whole : (s : Statement) → Part V
    Does : (purpose : Use) (e : Term V) → Part V
    -- an await under way
    Stands : (purpose : Use) → Part V
    -- a block, a function's body or a handler, with its scope
    In : (scope : Scope V) (rest : Rest V) → Part V
    Tries : (rest : Rest V) (caught : Option (List ℕ)) (handler : Stmts) → Part V

  pub data Rest (V : Type 0) : Type 0 where
    end : Rest V
    more : (p : Part V) (rest : Rest V) → Rest V

abbrev pub whole : {V : Type 0} → Stmts → Rest V
whole nothing = end
whole (first s ss) = more (Whole s) (whole ss)

-- how many statements these are
abbrev pub stmt_count : Stmts → ℕ
stmt_count nothing = 0
stmt_count (first s ss) = suc (stmt_count ss)

module _ {V : Type 0} (values : Values V) where
  -- ECMA-262, LexicalDeclaration: `let x` sets undefined
  abbrev pub does_init : Use → Init → Part V
  does_init purpose absent = Does purpose (Val values.undefined)
  does_init purpose (plain e) = Does purpose (term values e)
  does_init purpose (awaited e) = Does (Awaits purpose) (term values e)

  abbrev pub does_bindings : Bindings → Rest V → Rest V
  does_bindings no_more rest = rest
  does_bindings (binding x value bs) rest = more (does_init (Sets x) value) (does_bindings bs rest)

  abbrev pub block : Stmts → Part V
  block ss = In (scope_of ss) (whole ss)

  -- a statement under way, behind its step. The Blocks of `if`, `try` and `catch` take no step of their own
  abbrev pub begin : Statement → Rest V → Rest V
  begin stmts.Empty rest = rest
  begin (stmts.Block ss) rest = more (block ss) rest
  begin (stmts.Const bs) rest = does_bindings bs rest
  begin (stmts.Let bs) rest = does_bindings bs rest
  begin (stmts.Default value) rest = more (does_init (Sets star_default) value) rest
  begin (stmts.Assign x init) rest = more (does_init (Writes x) init) rest
  begin (stmts.If e ss) rest = more (Does (Chooses ss nothing) (term values e)) rest
  begin (stmts.IfElse e ss others) rest = more (Does (Chooses ss others) (term values e)) rest
  begin (stmts.Try ss handler) rest = more (Tries (more (block ss) end) None handler) rest
  begin (stmts.TryCatch ss x handler) rest = more (Tries (more (block ss) end) (Some x) handler) rest
  begin (stmts.Throw e) rest = more (Does Throws (term values e)) rest
  begin stmts.Return rest = more (Does Returns (Val values.undefined)) rest
  begin (stmts.ReturnValue e) rest = more (Does Returns (term values e)) rest
  begin (stmts.Await e) rest = more (Does (Awaits Drops) (term values e)) rest
  begin (stmts.PrintAwait e) rest = more (Does (Awaits Prints) (term values e)) rest
  begin (stmts.Expression e) rest = more (Does Drops (term values e)) rest

  abbrev pub branch : Bool → Stmts → Stmts → Part V
  branch true ss others = block ss
  branch false ss others = block others

-- what stands for the call or the await under way from now on: its value, or that it threw
module _ {V : Type 0} (given : Term V) where
  abbrev mutual
    pub fill_part : Part V → Part V
    fill_part (Whole s) = Whole s
    fill_part (Does purpose e) = Does purpose (fill given e)
    fill_part (Stands purpose) = Does purpose given
    fill_part (In scope rest) = In scope (fill_rest rest)
    fill_part (Tries rest caught handler) = Tries (fill_rest rest) caught handler

    pub fill_rest : Rest V → Rest V
    fill_rest end = end
    fill_rest (more p rest) = more (fill_part p) (fill_rest rest)
