-- What a function that reads statements or items did.
use Rattle.std.specs.Prelude.{◌≡◌, ◌≤◌, ◌<◌, Bool, false, ℕ, List, ◌++◌, length, Option, Some, None, Result, Ok, Err, Vec}
use Rattle.std.specs.declared.alloc.Global.{Global}
use Rattle.esm_tree.specs.Syntax.{Expr, Init, Bindings, Stmt, Stmts, Item, Parts}
use Rattle.esm_tree.specs.Flat.{init_of, init_need, bindings_of, bindings_need, stmt_part, stmt_parts, AllStmtsBelow, item_of, item_need}
use Rattle.esm_tree.specs.declared.node.StmtId.{StmtId}
use Rattle.esm_tree.specs.declared.node.Initializer.{Initializer}
use Rattle.esm_tree.specs.declared.node.LexicalBinding.{LexicalBinding}
use Rattle.esm_tree.specs.declared.node.ItemNode.{ItemNode}
use Rattle.esm_tree.specs.Lexeme.{Lexeme}
use Rattle.esm_grammar.specs.Reading.{Read, ◌>>=◌}
use Rattle.esm_grammar.specs.ReadingStatements.{end_of}
use Rattle.esm_parse_expr.specs.declared.reader.Stop.{Stop}
use Rattle.esm_parse_expr.specs.Outcome.{Refuses}

-- expressions and statements were added, and nothing else changed
pub record Grew (old new : Parts) : Type 0 where
  pub exprs : List Expr
  pub stmts : List Stmt
  pub needs : List ℕ
  pub is : new ≡ record old { exprs = old.exprs ++ exprs; stmts = old.stmts ++ stmts; needs = old.needs ++ needs }

module _ {X A : Type 0} (fits : Parts → X → Type 0) (view : Parts → X → A) where
  -- the result is what the grammar gives, seen through the new tree, unless memory ran out
  abbrev pub Gives : Parts → Result (X × ℕ) Stop → Read A → Type 0
  Gives new (Ok p) read = fits new p.0 × (read ≡ Some (view new p.0, p.1))
  Gives new (Err e) read = Refuses e read

  pub record Reads (old new : Parts) (r : Result (X × ℕ) Stop) (read : Read A) : Type 0 where
    pub grows : Grew old new
    pub gives : Gives new r read

abbrev pub InitFits : Parts → Initializer → Type 0
InitFits t v = init_need v ≤ length t.exprs

abbrev pub ReadsInit : Parts → Parts → Result (Initializer × ℕ) Stop → Read Init → Type 0
ReadsInit = Reads InitFits (λ t v. init_of t.exprs v)

abbrev pub binding_of : Parts → LexicalBinding → List ℕ × Init
binding_of t b = (b.name, init_of t.exprs b.value)

abbrev pub ReadsBinding : Parts → Parts → Result (LexicalBinding × ℕ) Stop → Read (List ℕ × Init) → Type 0
ReadsBinding = Reads (λ t b. InitFits t b.value) binding_of

-- one more, or the end of a list
abbrev pub OptionFits : {X : Type 0} → (Parts → X → Type 0) → Parts → Option X → Type 0
OptionFits fits t None = Unit {0}
OptionFits fits t (Some x) = fits t x

abbrev pub option_view : {X A : Type 0} → (Parts → X → A) → Parts → Option X → Option A
option_view view t None = None
option_view view t (Some x) = Some (view t x)

abbrev pub ReadsBindingStep : Parts → Parts → Result (Option LexicalBinding × ℕ) Stop → Read (Option (List ℕ × Init)) → Type 0
ReadsBindingStep = Reads (OptionFits (λ t b. InitFits t b.value)) (option_view binding_of)

abbrev pub ReadsBindings : Parts → Parts → Result (Vec LexicalBinding Global × ℕ) Stop → Read Bindings → Type 0
ReadsBindings = Reads (λ t bs. bindings_need bs.items ≤ length t.exprs) (λ t bs. bindings_of t.exprs bs.items)

abbrev pub StmtFits : Parts → StmtId → Type 0
StmtFits t id = id.0 < length t.stmts

abbrev pub stmt_view : Parts → StmtId → Stmt
stmt_view t id = stmt_part t.stmts id

abbrev pub ReadsStmt : Parts → Parts → Result (StmtId × ℕ) Stop → Read Stmt → Type 0
ReadsStmt = Reads StmtFits stmt_view

abbrev pub ReadsStmtStep : Parts → Parts → Result (Option StmtId × ℕ) Stop → Read (Option Stmt) → Type 0
ReadsStmtStep = Reads (OptionFits StmtFits) (option_view stmt_view)

abbrev pub ReadsStmts : Parts → Parts → Result (Vec StmtId Global × ℕ) Stop → Read Stmts → Type 0
ReadsStmts = Reads (λ t ids. AllStmtsBelow (length t.stmts) ids.items) (λ t ids. stmt_parts t.stmts ids.items)

abbrev pub ReadsItem : Parts → Parts → Result (ItemNode × ℕ) Stop → Read Item → Type 0
ReadsItem = Reads (λ t n. item_need n ≤ length t.stmts) (λ t n. item_of t.stmts n)

abbrev pub ReadsItemStep : Parts → Parts → Result (Option ItemNode × ℕ) Stop → Read (Option Item) → Type 0
ReadsItemStep = Reads (OptionFits (λ t n. item_need n ≤ length t.stmts)) (option_view (λ t n. item_of t.stmts n))

-- the items of a module, and the place behind them
abbrev pub ReadsModule : Result Parts Stop → Read (List Item) → Type 0
ReadsModule (Ok tree) read = (j : ℕ) × (read ≡ Some (tree.items, j))
ReadsModule (Err e) read = Refuses e read

-- the place behind the end of a statement
abbrev pub EndsAt : List Lexeme → Bool → ℕ → Result ℕ Stop → Type 0
EndsAt ts continued at (Ok j) = end_of ts continued (tt {0}) at ≡ Some (tt {0}, j)
EndsAt ts continued at (Err e) = Refuses e (end_of ts continued (tt {0}) at)

-- bindings and the end behind them
abbrev pub ended : {A : Type 0} → List Lexeme → Read A → Read A
ended ts read = read >>= λ x. end_of ts false x.0 x.1

abbrev pub ReadsDeclaration : List Lexeme → Parts → Parts → Result (Vec LexicalBinding Global × ℕ) Stop → Read Bindings → Type 0
ReadsDeclaration ts old new r read = ReadsBindings old new r (ended ts read)
