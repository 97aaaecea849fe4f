use Rattle.esm_body.proofs.TurnsOn.{no_rows}
use Rattle.esm_body.proofs.segment.segment.Goals as goal

pub run_behind-requires-clause-rows : goal.run_behind-requires-clause-rows
run_behind-requires-clause-rows g c = no_rows g.I.Importer.seen g.I.Importer.modules g.I.Importer.linked g.I.Importer.fits g.I.Importer.begins c.args.inside.now c.new-functions.result.rows c.new-functions.ensures
