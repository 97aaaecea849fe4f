use Rattle.std.proofs.Common.{sym, ap, ◌++◌, ◌∙◌, append-nil}
use Rattle.esm_ast.specs.Entries.{imports_of}
use Rattle.esm_script.proofs.Items.{other_imports}
use Rattle.esm_script.proofs.imports.add_imports.Goals as goal

pub returns-in-Import : goal.returns-in-Import
unfolding imports_of
returns-in-Import c = λ stmts. rw c.in-Import.is (rw (c.deref-in-Import-2.ensures.value, c.deref-in-Import.ensures, c.place_of-request.ensures, c.deref.ensures) at c.add_bindings.ensures)

pub returns-in_default : goal.returns-in_default
returns-in_default c = λ stmts. sym (ap (λ xs. c.args.imports.now.items ++ xs) (other_imports stmts c.args.requests.now _ c.in_default.not-Import) ∙ append-nil c.args.imports.now.items)
