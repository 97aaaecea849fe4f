-- One more is added.
use Rattle.std.proofs.Common.{◌++◌, ◌∷◌, [], ap, ◌∙◌, replicate}
use Rattle.std.proofs.lemmas.List.{append_assoc, replicate_more}
use Rattle.esm_loads.proofs.target_places.add_unknown.Goals as goal

pub loop-added-preserved : goal.loop-added-preserved
loop-added-preserved c =
    c.in_ok-push.ensures.items ∙ (ap (λ xs. xs ++ 4096 ∷ []) c.loop-added.invariant
    ∙ (append_assoc c.args.places.now.items (replicate c.loop-added.added 4096) (4096 ∷ []) ∙ ap (λ xs. c.args.places.now.items ++ xs) (replicate_more c.loop-added.added 4096)))
