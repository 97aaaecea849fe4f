use Rattle.std.proofs.Common.{◌≡◌, ◌++◌, drop}
use Rattle.esm_tree.specs.Flat.{items_of}
use Rattle.esm_grammar.specs.EarlyErrors.{exported_names}
use Rattle.esm_parse_mod.specs.Inner.Names.{texts}
use Rattle.esm_parse_mod.proofs.errors.all_exported.Given as goal

abbrev pub invariant-loop-item : goal.invariant-loop-item
invariant-loop-item l = exported_names (items_of l.tree.stmts l.items) ≡ texts l.names.items ++ exported_names (items_of l.tree.stmts (drop l.item-index l.items))
