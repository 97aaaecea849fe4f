use Rattle.std.proofs.Common.{◌∙◌}
use Rattle.esm_body.proofs.RowPlans.{urls_said}
use Rattle.esm_body.proofs.outside.InsideOutside.url.Goals as goal

pub returns-in-Ok : goal.returns-in-Ok
returns-in-Ok g c = urls_said g.I.Importer.seen g.I.Importer.modules g.I.Importer.linked g.I.Importer.fits g.I.Importer.begins g.met.I.Importer.lawful c.args.self.now c.args.m.0 g.I.ExportGraph.graph g.I.Importer.urls g.met.I.Importer.has_linked c.in-Ok.text (c.in-Ok.ensures ∙ c.url.ensures)
