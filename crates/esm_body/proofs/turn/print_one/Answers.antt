use Rattle.std.proofs.Common.{List, [], ◌∷◌, ◌++◌, ap, ◌∙◌}
use Rattle.esm_values.specs.declared.value.Value.{Value}
use Rattle.esm_body.proofs.TurnSteps.{prints_one}
use Rattle.esm_body.proofs.turn.print_one.Goals as goal

pub returns-in-Ok : goal.returns-in-Ok
returns-in-Ok g c =
    prints_one g.I.Importer.seen g.I.Importer.modules g.I.Importer.linked g.I.Importer.fits g.I.Importer.begins c.args.inside.now c.print.new.self c.args.value c.push.new.self.items c.print.result
    (c.in-Ok.ensures.items ∙ ap (λ (vs : List Value). vs ++ c.args.value ∷ []) c.new-values.ensures.items) c.print.ensures
