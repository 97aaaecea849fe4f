use Rattle.std.proofs.Common.{List, drop, map}
use Rattle.esm_tree.specs.Syntax.{Expr}
use Rattle.esm_tree.specs.Flat.{bindings_of}
use Rattle.esm_grammar.specs.Names.{names_of}
use Rattle.esm_ast.specs.Entries.{own_export}
use Rattle.esm_script.proofs.Exported.{Leads}
use Rattle.esm_script.proofs.exports.add_bindings.Given as goal

abbrev pub invariant-loop-binding : goal.invariant-loop-binding
invariant-loop-binding l = (exprs : List Expr) → Leads l.fn.exports l.exports (map own_export (names_of (bindings_of exprs (drop l.binding-index l.bindings)))) (map own_export (names_of (bindings_of exprs l.bindings)))
