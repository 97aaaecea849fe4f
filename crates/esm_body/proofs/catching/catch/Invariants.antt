use Rattle.std.proofs.Common.{◌≡◌, ◌<◌, length}
use Rattle.std.specs.Arc.{arc_value}
use Rattle.esm_base.specs.declared.limits.Limit.{Limit}
use Rattle.esm_values.specs.Code.{value_of}
use Rattle.esm_rewriting.specs.Contexts.{caught_in}
use Rattle.esm_body.specs.Code.{contexts_of, AreLevels}
use Rattle.esm_body.proofs.catching.catch.Given as goal

-- a throw leads from here where it leads from the whole
abbrev pub invariant-loop-alloc : goal.invariant-loop-alloc
invariant-loop-alloc l = record {
  levels : 0 < length l.levels.items;
  sound : AreLevels (length (arc_value l.tree).stmts) l.levels.items;
  leads : caught_in {S = Limit} (contexts_of (arc_value l.fn.tree).stmts l.fn.levels.items) (value_of l.fn.thrown) ≡ caught_in {S = Limit} (contexts_of (arc_value l.tree).stmts l.levels.items) (value_of l.thrown);
}

abbrev pub decreases-loop-alloc : goal.decreases-loop-alloc
decreases-loop-alloc l = length l.levels.items
