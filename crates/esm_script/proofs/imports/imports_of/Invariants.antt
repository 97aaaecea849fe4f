use Rattle.std.proofs.Common.{◌≡◌, ◌++◌, drop}
use Rattle.esm_tree.specs.Flat.{items_of}
use Rattle.esm_ast.specs.Entries.{all_imports}
use Rattle.esm_script.proofs.imports.imports_of.Given as goal

abbrev pub invariant-loop-item : goal.invariant-loop-item
invariant-loop-item l = l.imports.items ++ all_imports l.requests (items_of l.tree.stmts (drop l.item-index l.item-items)) ≡ all_imports l.requests l.tree.items
