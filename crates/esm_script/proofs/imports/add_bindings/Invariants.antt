use Rattle.std.proofs.Common.{◌≡◌, ◌++◌, drop, map}
use Rattle.esm_ast.specs.Entries.{import_entry}
use Rattle.esm_script.proofs.imports.add_bindings.Given as goal

abbrev pub invariant-loop-binding : goal.invariant-loop-binding
invariant-loop-binding l = l.imports.items ++ map (import_entry l.request) (drop l.binding-index l.bindings) ≡ l.fn.imports.items ++ map (import_entry l.request) l.bindings
