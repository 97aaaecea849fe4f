-- Which trees are a module's. ECMA-262, the parameters of the grammar: a ModuleItem is read with Await and without Return, a
-- FunctionBody with Return and without Await.
use Rattle.std.specs.Prelude.{◌≡◌, Bool, true, false, ◌||◌, List, All, IsUtf8}
use Rattle.std.specs.List.{list_any}
use Rattle.esm_tree.specs.Syntax.{Stmt, Block, If, IfElse, Try, TryCatch, Return, ReturnValue, Stmts, nothing, first, Item, ExportStatement, ExportFunction, ExportDefaultFunction, Function, Statement}
use Rattle.esm_grammar.specs.EarlyErrors.{exported_names, module_names}
use Rattle.esm_ast.specs.Entries.{stmts_await}

-- ECMA-262, Contains, with ReturnStatement
unfoldable mutual
  pub stmt_returns : Stmt → Bool
  stmt_returns Return = true
  stmt_returns (ReturnValue e) = true
  stmt_returns (Block ss) = stmts_return ss
  stmt_returns (If e ss) = stmts_return ss
  stmt_returns (IfElse e ss rs) = stmts_return ss || stmts_return rs
  stmt_returns (Try ss rs) = stmts_return ss || stmts_return rs
  stmt_returns (TryCatch ss n rs) = stmts_return ss || stmts_return rs
  stmt_returns _ = false

  pub stmts_return : Stmts → Bool
  stmts_return nothing = false
  stmts_return (first s ss) = stmt_returns s || stmts_return ss

-- a `return` stands in the item, outside a function's body
unfoldable pub returns_outside : Item → Bool
returns_outside (Statement s) = stmt_returns s
returns_outside (ExportStatement s) = stmt_returns s
returns_outside _ = false

-- an `await` stands in the item, in a function's body
unfoldable pub awaits_inside : Item → Bool
awaits_inside (Function n ps ss) = stmts_await ss
awaits_inside (ExportFunction n ps ss) = stmts_await ss
awaits_inside (ExportDefaultFunction n ps ss) = stmts_await ss
awaits_inside _ = false

-- no `return` stands outside functions, no `await` inside one; own: the names that are exported, and those that are declared
-- outside functions and blocks, are UTF-8
pub record IsModuleTree (items : List Item) : Type 0 where
  pub returns : list_any returns_outside items ≡ false
  pub awaits : list_any awaits_inside items ≡ false
  pub exported : All IsUtf8 (exported_names items)
  pub declared : All IsUtf8 (module_names items)
