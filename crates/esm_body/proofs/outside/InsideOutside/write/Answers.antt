use Rattle.esm_body.proofs.RowPlans.{writes}
use Rattle.esm_body.proofs.outside.InsideOutside.write.Goals as goal

pub returns-in-Ok : goal.returns-in-Ok
returns-in-Ok g c =
    writes g.I.Importer.seen g.I.Importer.modules g.I.Importer.linked g.I.Importer.fits g.I.Importer.begins g.met.I.Importer.lawful c.args.self.now c.args.m.0 c.args.name.now c.args.value c.write-wrote.result c.write-wrote.new.self c.throw_wrote.new.errors c.in-Ok.thrown c.writes_right.ensures c.write-wrote.ensures c.in-Ok.ensures
