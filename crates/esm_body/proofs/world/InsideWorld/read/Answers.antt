use Rattle.esm_body.proofs.WorldActs.{reads}
use Rattle.esm_body.proofs.world.InsideWorld.read.Goals as goal

pub returns-in-Ok-tell : goal.returns-in-Ok-tell
returns-in-Ok-tell g c =
    let read = rw c.as_slice.ensures.value at c.in-Ok.ensures in
    reads g.I.Importer.seen g.I.Importer.modules g.I.Importer.linked g.I.Importer.fits g.I.Importer.begins c.args.self.now c.args.name.now c.in-Ok-tell.out c.tell.new.errors c.reads_right.ensures (rw read at c.in-Ok-tell.ensures)
