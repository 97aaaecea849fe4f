use Rattle.std.proofs.Common.{◌∙◌}
use Rattle.esm_body.proofs.RowPlans.{reads}
use Rattle.esm_body.proofs.outside.InsideOutside.read.Goals as goal

pub returns-in-Ok-tell : goal.returns-in-Ok-tell
returns-in-Ok-tell g c =
    let read = c.in-Ok.ensures ∙ c.read.ensures in
    reads g.I.Importer.seen g.I.Importer.modules g.I.Importer.linked g.I.Importer.fits g.I.Importer.begins g.met.I.Importer.lawful c.shared_set.ensures.agrees c.shared_set.ensures.ends c.args.self.now c.args.m.0 c.args.name.now c.in-Ok-tell.out c.tell.new.errors c.reads_right.ensures (rw read at c.in-Ok-tell.ensures)
