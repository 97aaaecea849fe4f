use Rattle.esm_values.specs.Code.{value_of}
use Rattle.esm_body.proofs.WorldActs.{imports}
use Rattle.esm_body.proofs.world.InsideWorld.import.Goals as goal

pub returns : goal.returns
returns g c = imports g.I.Importer.seen g.I.Importer.modules g.I.Importer.linked g.I.Importer.fits g.I.Importer.begins c.args.self.now c.import_from.new.inside (value_of c.args.of) c.import_from.result c.import_from.ensures
