use Rattle.std.proofs.Common.{◌≡◌, [], drop}
use Rattle.esm_tree.specs.Flat.{items_of}
use Rattle.esm_ast.specs.Entries.{requests_after}
use Rattle.esm_script.proofs.requests.requests_of.Given as goal

abbrev pub invariant-loop-item : goal.invariant-loop-item
invariant-loop-item l = requests_after l.found (items_of l.tree.stmts (drop l.item-index l.item-items)) ≡ requests_after [] l.tree.items
