use Rattle.std.proofs.Common.{drop}
use Rattle.esm_tree.specs.Flat.{items_of}
use Rattle.esm_ast.specs.Entries.{all_exports}
use Rattle.esm_script.proofs.Exported.{Leads}
use Rattle.esm_script.proofs.exports.exports_of.Given as goal

abbrev pub invariant-loop-item : goal.invariant-loop-item
invariant-loop-item l =
    Leads l.initial.exports l.exports (all_exports l.requests l.imports (items_of l.tree.stmts (drop l.item-index l.item-items))) (all_exports l.requests l.imports l.tree.items)
