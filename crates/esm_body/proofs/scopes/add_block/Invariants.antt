use Rattle.std.proofs.Common.{◌≡◌, ◌++◌, drop}
use Rattle.esm_tree.specs.Flat.{stmt_parts}
use Rattle.esm_env.specs.Declarations.{declared_in}
use Rattle.esm_body.specs.Slots.{unset_slots}
use Rattle.esm_body.proofs.scopes.add_block.Given as goal

-- what is there and what is left are the whole
abbrev pub invariant-loop-id : goal.invariant-loop-id
invariant-loop-id l = l.slots.items ++ unset_slots (declared_in (stmt_parts l.tree.stmts (drop l.id-index l.ids))) ≡ l.fn.slots.items ++ unset_slots (declared_in (stmt_parts l.fn.tree.stmts l.ids))
