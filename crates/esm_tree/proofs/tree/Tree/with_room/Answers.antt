use Rattle.std.proofs.Common.{refl, lit<}
use Rattle.esm_tree.specs.Flat.{AreOrdered, AreStmtsOrdered, exprs_from_nodes, stmts_from_nodes}
use Rattle.esm_tree.specs.Tree.{nested}
use Rattle.esm_tree.proofs.tree.Tree.with_room.Goals as goal

pub invariant_of-result : goal.invariant_of-result
unfolding AreOrdered AreStmtsOrdered
invariant_of-result c = rw (c.in_ok-with_capacity.ensures.items, c.in_ok-with_capacity-2.ensures.items, c.new.ensures.items) (record { exprs = tt; stmts = tt; items = tt; few_exprs = lit< tt; few_stmts = lit< tt })

pub returns : goal.returns
unfolding nested exprs_from_nodes stmts_from_nodes
returns c = rw (c.in_ok-with_capacity.ensures.items, c.in_ok-with_capacity-2.ensures.items, c.new.ensures.items) refl
