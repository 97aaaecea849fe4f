use Rattle.esm_body.proofs.RowPlans.{faults}
use Rattle.esm_body.proofs.outside.InsideOutside.fault.Goals as goal

pub returns-in-Ok : goal.returns-in-Ok
returns-in-Ok g c = faults g.I.Importer.seen g.I.Importer.modules g.I.Importer.linked g.I.Importer.fits g.I.Importer.begins g.met.I.Importer.lawful c.args.self.now c.args.kind c.args.message.now c.in-Ok.error c.throw_new.new.errors c.in-Ok.ensures
