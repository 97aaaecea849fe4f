use Rattle.esm_values.specs.Code.{value_of}
use Rattle.esm_body.proofs.WorldActs.{displays}
use Rattle.esm_body.proofs.world.InsideWorld.display.Goals as goal

pub returns-in-Ok-shared_text : goal.returns-in-Ok-shared_text
returns-in-Ok-shared_text g c = displays g.I.Importer.seen g.I.Importer.modules g.I.Importer.linked g.I.Importer.fits g.I.Importer.begins c.args.self.now (value_of c.args.of.now) c.in-Ok-shared_text.text g.met.I.Importer.lawful (rw c.in-Ok-shared_text.ensures c.in-Ok.ensures)
