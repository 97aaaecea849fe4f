-- Which trees hold an import(). ECMA-262, Contains, with ImportCall; it looks into functions too.
use Rattle.std.specs.Prelude.{Bool, true, false, ◌||◌, List}
use Rattle.std.specs.List.{list_any}
use Rattle.esm_tree.specs.Syntax.{Expr, Exprs, Compared, Links, Init, Bindings, Stmt, Stmts, Item}
use Rattle.esm_tree.specs.Syntax as x

abbrev mutual
  pub expr_imports : Expr → Bool
  expr_imports (x.Group e) = expr_imports e
  expr_imports (x.Or e es) = expr_imports e || exprs_import es
  expr_imports (x.And e es) = expr_imports e || exprs_import es
  expr_imports (x.Equal e cs) = expr_imports e || compared_import cs
  expr_imports (x.Sum e es) = expr_imports e || exprs_import es
  expr_imports (x.Not e) = expr_imports e
  expr_imports (x.Post e ls) = expr_imports e || links_import ls
  expr_imports (x.Print es) = exprs_import es
  expr_imports (x.NewError e) = expr_imports e
  expr_imports (x.Import e) = true
  expr_imports _ = false

  pub exprs_import : Exprs → Bool
  exprs_import x.none = false
  exprs_import (x.more e es) = expr_imports e || exprs_import es

  pub compared_import : Compared → Bool
  compared_import x.last = false
  compared_import (x.compared alike e cs) = expr_imports e || compared_import cs

  pub links_import : Links → Bool
  links_import x.ends = false
  links_import (x.member name ls) = links_import ls
  links_import (x.call es ls) = exprs_import es || links_import ls

abbrev pub init_imports : Init → Bool
init_imports x.absent = false
init_imports (x.plain e) = expr_imports e
init_imports (x.awaited e) = expr_imports e

abbrev pub bindings_import : Bindings → Bool
bindings_import x.no_more = false
bindings_import (x.binding name value bs) = init_imports value || bindings_import bs

abbrev mutual
  pub stmt_imports : Stmt → Bool
  stmt_imports (x.Expression e) = expr_imports e
  stmt_imports (x.Assign name value) = init_imports value
  stmt_imports (x.Block ss) = stmts_import ss
  stmt_imports (x.If e ss) = expr_imports e || stmts_import ss
  stmt_imports (x.IfElse e ss others) = expr_imports e || stmts_import ss || stmts_import others
  stmt_imports (x.Try ss handler) = stmts_import ss || stmts_import handler
  stmt_imports (x.TryCatch ss name handler) = stmts_import ss || stmts_import handler
  stmt_imports (x.Throw e) = expr_imports e
  stmt_imports (x.ReturnValue e) = expr_imports e
  stmt_imports (x.Await e) = expr_imports e
  stmt_imports (x.PrintAwait e) = expr_imports e
  stmt_imports (x.Const bs) = bindings_import bs
  stmt_imports (x.Let bs) = bindings_import bs
  stmt_imports (x.Default value) = init_imports value
  stmt_imports _ = false

  pub stmts_import : Stmts → Bool
  stmts_import x.nothing = false
  stmts_import (x.first s ss) = stmt_imports s || stmts_import ss

abbrev pub item_imports : Item → Bool
item_imports (x.ExportStatement s) = stmt_imports s
item_imports (x.ExportFunction name parameters body) = stmts_import body
item_imports (x.ExportDefaultFunction name parameters body) = stmts_import body
item_imports (x.Function name parameters body) = stmts_import body
item_imports (x.Statement s) = stmt_imports s
item_imports _ = false

-- an import() stands in the tree
abbrev pub holds_import : List Item → Bool
holds_import items = list_any item_imports items
