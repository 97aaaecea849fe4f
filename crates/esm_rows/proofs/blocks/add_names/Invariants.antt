use Rattle.std.proofs.Common.{◌≡◌, ◌++◌, drop}
use Rattle.esm_tree.specs.Flat.{stmt_parts}
use Rattle.esm_env.specs.Declarations.{declared_in}
use Rattle.esm_rows.specs.Locals.{declared}
use Rattle.esm_rows.proofs.blocks.add_names.Given as goal

-- what is there and what is left are the whole
abbrev pub invariant-loop-id : goal.invariant-loop-id
invariant-loop-id l = declared l.names.items ++ declared_in (stmt_parts l.tree.stmts (drop l.id-index l.ids)) ≡ declared l.fn.names.items ++ declared_in (stmt_parts l.fn.tree.stmts l.fn.ids)
