use Rattle.std.proofs.Common.{◌≡◌, ◌++◌, drop}
use Rattle.esm_tree.specs.Flat.{items_of}
use Rattle.esm_ast.specs.Entries.{stars_of}
use Rattle.esm_script.proofs.stars.stars_of.Given as goal

abbrev pub invariant-loop-item : goal.invariant-loop-item
invariant-loop-item l = l.stars.items ++ stars_of l.requests (items_of l.tree.stmts (drop l.item-index l.item-items)) ≡ stars_of l.requests l.tree.items
