use Rattle.std.proofs.Common.{◌≡◌, drop}
use Rattle.esm_tree.specs.Flat.{items_of}
use Rattle.esm_parse_mod.specs.Inner.Names.{any_item_wrong, held}
use Rattle.esm_parse_mod.proofs.errors.any_wrong.Given as goal

abbrev pub invariant-loop-item : goal.invariant-loop-item
invariant-loop-item l = any_item_wrong (held l.declared) (items_of l.tree.stmts l.items) ≡ any_item_wrong (held l.declared) (items_of l.tree.stmts (drop l.item-index l.items))
