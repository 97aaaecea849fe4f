-- What a function that reads a part of an item did.
use Rattle.std.specs.Prelude.{◌≡◌, ℕ, ◌+◌, Bool, true, false, List, length, Some, None, Result, Ok, Err, Vec}
use Rattle.std.specs.declared.alloc.Global.{Global}
use Rattle.esm_tree.specs.Syntax.{Stmt, Stmts, Item, ExportFunction, Function, Parts}
use Rattle.esm_tree.specs.Flat.{stmt_parts, AllStmtsBelow, item_of, item_need}
use Rattle.esm_tree.specs.declared.node.StmtId.{StmtId}
use Rattle.esm_tree.specs.declared.node.ItemNode.{ItemNode}
use Rattle.esm_tree.specs.declared.lexeme.Terminal.TheVariants as t
use Rattle.esm_tree.specs.Lexeme.{Lexeme}
use Rattle.esm_grammar.specs.Reading.{Read, ◌>>=◌, pick, sees}
use Rattle.esm_grammar.specs.ReadingStatements.{block}
use Rattle.esm_grammar.specs.ReadingItems.{listed, parameter}
use Rattle.esm_parse_expr.specs.declared.reader.Stop.{Stop}
use Rattle.esm_parse_expr.specs.Outcome.{Refuses}
use Rattle.esm_parse_mod.specs.Inner.Outcome.{Reads}

-- an item that names no statement
abbrev pub ReadsBare : Result (ItemNode × ℕ) Stop → Read Item → Type 0
ReadsBare (Ok p) read = (item_need p.0 ≡ 0) × ((stmts : List Stmt) → read ≡ Some (item_of stmts p.0, p.1))
ReadsBare (Err e) read = Refuses e read

-- parameters and statements of a function
unfoldable pub body : List Lexeme → ℕ → ℕ → Read (List (List ℕ) × Stmts)
body ts n i =
    pick (sees ts i t.Open)
    (do
      ps ← listed ts (parameter ts) t.Close n (i + 1)
      ss ← block ts n true n ps.1
      Some ((ps.0, ss.0), ss.1))
    None

abbrev pub ReadsBody : Parts → Parts → Result ((Vec (List ℕ) Global × Vec StmtId Global) × ℕ) Stop → Read (List (List ℕ) × Stmts) → Type 0
ReadsBody = Reads (λ t p. AllStmtsBelow (length t.stmts) p.1.items) (λ t p. (p.0.items, stmt_parts t.stmts p.1.items))

-- a function, exported or not
abbrev pub function_of : Bool → List ℕ → List (List ℕ) → Stmts → Item
function_of true = ExportFunction
function_of false = Function
