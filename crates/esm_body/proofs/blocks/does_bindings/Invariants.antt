use Rattle.std.proofs.Common.{ℕ, ◌<◌, List, length, drop}
use Rattle.std.specs.Arc.{arc_value}
use Rattle.esm_tree.specs.Syntax.{Stmt}
use Rattle.esm_tree.specs.Flat.{bindings_of}
use Rattle.esm_values.specs.Code.{numbered}
use Rattle.esm_rewriting.specs.Rest.{does_bindings}
use Rattle.esm_body.specs.Inner.Stack.{IsFront, AreNamed}
use Rattle.esm_body.specs.Code.{innermost, AreLevels}
use Rattle.esm_body.proofs.blocks.does_bindings.Given as goal

-- the bindings from this place on were begun
abbrev pub invariant-loop-place : goal.invariant-loop-place
invariant-loop-place l = record {
  levels : 0 < length l.levels.items;
  begun : (stmts : List Stmt) → AreNamed stmts l.id (bindings_of (arc_value l.tree).exprs l.bindings) → IsFront stmts l.fn.levels.items l.levels.items (does_bindings numbered (bindings_of (arc_value l.tree).exprs (drop l.place l.bindings)) (innermost stmts l.fn.levels.items));
  sound : (n : ℕ) → l.id.0 < n → AreLevels n l.fn.levels.items → AreLevels n l.levels.items;
}
