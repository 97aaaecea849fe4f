use Rattle.std.proofs.Common.{◌≡◌, ◌++◌, List, drop}
use Rattle.esm_tree.specs.Syntax.{Expr}
use Rattle.esm_tree.specs.Flat.{bindings_of}
use Rattle.esm_env.specs.Declarations.{declared_by}
use Rattle.esm_rows.specs.Locals.{declared}
use Rattle.esm_rows.proofs.blocks.add_bindings.Given as goal

-- what is there and what is left are the whole
abbrev pub invariant-loop-binding : goal.invariant-loop-binding
invariant-loop-binding l = (exprs : List Expr) → declared l.names.items ++ declared_by l.constant (bindings_of exprs (drop l.binding-index l.bindings)) ≡ declared l.fn.names.items ++ declared_by l.fn.constant (bindings_of exprs l.fn.bindings)
