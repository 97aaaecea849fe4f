use Rattle.esm_body.proofs.RowPlans.{row_said, no_scope}
use Rattle.esm_body.proofs.outside.InsideOutside.row.Goals as goal

pub returns-in-Some : goal.returns-in-Some
returns-in-Some g c = row_said g.I.Importer.seen g.I.Importer.modules g.I.Importer.linked g.I.Importer.fits g.I.Importer.begins g.met.I.Importer.lawful c.args.self.now c.args.m.0 c.args.function c.in-Some.scope.now c.lower.result c.in-Some.ensures c.lower.ensures

pub returns-in-None : goal.returns-in-None
returns-in-None g c = no_scope g.I.Importer.seen g.I.Importer.modules g.I.Importer.linked g.I.Importer.fits g.I.Importer.begins g.met.I.Importer.lawful c.args.self.now c.args.m.0 c.args.function c.in-None.ensures
