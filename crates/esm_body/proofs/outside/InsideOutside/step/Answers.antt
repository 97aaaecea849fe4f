use Rattle.esm_body.proofs.Lawful.{begins_some, begins_one}
use Rattle.esm_body.proofs.RowActs.{stepped}
use Rattle.esm_body.proofs.outside.InsideOutside.step.Goals as goal

pub returns : goal.returns
returns g c = stepped g.I.Importer.seen g.I.Importer.modules g.I.Importer.linked g.I.Importer.fits g.I.Importer.begins (begins_some g.I.Importer.modules g.I.Importer.linked g.I.Importer.fits g.I.Importer.begins g.met.I.Importer.lawful c.shared_set.ensures.agrees c.shared_set.ensures.ends) (begins_one g.I.Importer.modules g.I.Importer.linked g.I.Importer.fits g.I.Importer.begins g.met.I.Importer.lawful) c.args.self.now c.step.result c.step.new.self c.step.ensures
