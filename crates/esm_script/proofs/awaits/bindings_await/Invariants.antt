use Rattle.std.proofs.Common.{◌≡◌, List, drop}
use Rattle.esm_tree.specs.Syntax.{Expr}
use Rattle.esm_tree.specs.Flat.{bindings_of}
use Rattle.esm_ast.specs.Entries.{bindings_await}
use Rattle.esm_script.proofs.awaits.bindings_await.Given as goal

abbrev pub invariant-loop-binding : goal.invariant-loop-binding
invariant-loop-binding l = (exprs : List Expr) → bindings_await (bindings_of exprs (drop l.binding-index l.bindings)) ≡ bindings_await (bindings_of exprs l.bindings)
