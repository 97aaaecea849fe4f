use Rattle.std.proofs.Common.{◌≡◌, ◌+◌, ◌*◌, drop}
use Rattle.esm_tree.specs.Flat.{stmt_parts}
use Rattle.esm_ast.specs.Entries.{stmts_await}
use Rattle.esm_script.proofs.awaits.+awaits.Given as goal

abbrev pub decreases-stmts_await : goal.decreases-stmts_await
decreases-stmts_await l = 3 * l.below

abbrev pub decreases-either_awaits : goal.decreases-either_awaits
decreases-either_awaits l = 3 * l.below + 1

abbrev pub decreases-stmt_awaits : goal.decreases-stmt_awaits
decreases-stmt_awaits l = 3 * l.id.0 + 2

abbrev pub invariant-stmts_await-loop-id : goal.invariant-stmts_await-loop-id
invariant-stmts_await-loop-id l = stmts_await (stmt_parts l.tree.stmts (drop l.id-index l.ids)) ≡ stmts_await (stmt_parts l.tree.stmts l.ids)
