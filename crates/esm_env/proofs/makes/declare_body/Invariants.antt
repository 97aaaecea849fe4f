use Rattle.std.proofs.Common.{◌≡◌, ◌++◌, drop}
use Rattle.esm_tree.specs.Flat.{items_of}
use Rattle.esm_env.specs.Declarations.{declared_in, body_of}
use Rattle.esm_env.specs.Makes.{unset_slots}
use Rattle.esm_env.proofs.makes.declare_body.Given as goal

-- what is there and what is left are the whole
abbrev pub invariant-loop-item : goal.invariant-loop-item
invariant-loop-item l = l.slots.items ++ unset_slots (declared_in (body_of (items_of l.tree.stmts (drop l.item-index l.items)))) ≡ l.fn.slots.items ++ unset_slots (declared_in (body_of (items_of l.fn.tree.stmts l.items)))
