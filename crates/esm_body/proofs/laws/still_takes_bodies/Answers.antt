use Rattle.esm_body.proofs.Stay as stay
use Rattle.esm_body.proofs.laws.still_takes_bodies.Goals as goal

pub returns : goal.returns
returns g c = stay.still_takes_bodies g.I.Importer.modules g.I.Importer.linked g.I.Importer.fits g.I.Importer.begins
