use Rattle.std.proofs.Common.{◌≡◌, drop}
use Rattle.std.specs.List.{list_any}
use Rattle.esm_tree.specs.Flat.{items_of}
use Rattle.esm_ast.specs.Entries.{item_awaits}
use Rattle.esm_script.proofs.awaits.has_await.Given as goal

abbrev pub invariant-loop-item : goal.invariant-loop-item
invariant-loop-item l = list_any item_awaits (items_of l.tree.stmts (drop l.item-index l.item-items)) ≡ list_any item_awaits l.tree.items
