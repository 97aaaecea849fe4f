use Rattle.esm_values.specs.Code.{value_of}
use Rattle.esm_body.proofs.Asked.{displays_there}
use Rattle.esm_body.proofs.Shown.{weaker}
use Rattle.esm_body.proofs.displays.display_text.Goals as goal

pub returns : goal.returns
returns g c =
    weaker _ _ (λ text h. λ a l k. displays_there g.I.Importer.modules (g.I.Importer.seen c.args.imports.now) c.args.errors.now (value_of c.args.of.now) text (h a l k)) c.shown_text.result c.shown_text.ensures
