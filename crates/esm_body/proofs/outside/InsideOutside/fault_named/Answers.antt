use Rattle.std.proofs.Common.{◌++◌}
use Rattle.esm_body.proofs.RowPlans.{faults}
use Rattle.esm_body.proofs.outside.InsideOutside.fault_named.Goals as goal

pub returns-in-Ok : goal.returns-in-Ok
returns-in-Ok g c = faults g.I.Importer.seen g.I.Importer.modules g.I.Importer.linked g.I.Importer.fits g.I.Importer.begins g.met.I.Importer.lawful c.args.self.now c.args.kind (c.args.name.now ++ c.args.words.now) c.in-Ok.error c.throw_named.new.errors c.in-Ok.ensures
