use Rattle.std.proofs.Common.{◌++◌, ◌∷◌, [], ap, ◌∙◌}
use Rattle.std.proofs.lemmas.List.{append_assoc, replicate_more}
use Rattle.std.specs.Prelude.{None, replicate}
use Rattle.esm_row_machine.proofs.stacks.begin_names.Goals as goal

pub loop-begun-preserved : goal.loop-begun-preserved
loop-begun-preserved c =
    c.in_ok-push.ensures.items ∙ ap (λ xs. xs ++ None ∷ []) c.loop-begun.invariant
    ∙ append_assoc c.args.names.now.items (replicate c.loop-begun.begun None) (None ∷ []) ∙ ap (λ xs. c.args.names.now.items ++ xs) (replicate_more c.loop-begun.begun None)
