use Rattle.std.proofs.Common.{[], ◌∷◌, ◌++◌, ap, ◌∙◌}
use Rattle.esm_ast.specs.Entries.{import_entry}
use Rattle.esm_script.proofs.Items.{mapped_next, mapped_end}
use Rattle.esm_script.proofs.imports.add_bindings.Goals as goal

pub loop-binding-preserved : goal.loop-binding-preserved
loop-binding-preserved c =
    mapped_next (import_entry c.args.request) _ c.loop-binding.binding-index c.binding-item.result _ _ _ c.loop-binding-test.true c.binding-item.is
    (c.in_ok-push.ensures.items ∙ ap (λ e. c.loop-binding.imports.items ++ e ∷ []) c.in_ok-entry.ensures) c.loop-binding.invariant

pub returns : goal.returns
returns c = mapped_end (import_entry c.args.request) _ c.loop-binding.binding-index _ _ c.loop-binding-test.false c.loop-binding.invariant
