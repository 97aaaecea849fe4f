use Rattle.esm_values.specs.Code.{value_of}
use Rattle.esm_body.specs.Inner.World.{url_inside}
use Rattle.esm_body.proofs.RowSums.{sums, sum_stopped}
use Rattle.esm_body.proofs.outside.InsideOutside.add.Goals as goal

pub returns-in-Ok : goal.returns-in-Ok
returns-in-Ok g c = sums g.I.Importer.seen g.I.Importer.modules g.I.Importer.linked g.I.Importer.fits g.I.Importer.begins g.met.I.Importer.lawful c.shared_set.ensures.agrees c.shared_set.ensures.ends c.args.self.now c.sum_of.new.world (url_inside g.I.Importer.urls) (value_of c.args.left.now) (value_of c.args.right.now) c.in-Ok.out c.in-Ok.ensures

pub returns-in-Err-Stopped : goal.returns-in-Err-Stopped
returns-in-Err-Stopped g c = sum_stopped g.I.Importer.seen g.I.Importer.modules g.I.Importer.linked g.I.Importer.fits g.I.Importer.begins g.met.I.Importer.lawful c.shared_set.ensures.agrees c.shared_set.ensures.ends c.args.self.now c.sum_of.new.world (url_inside g.I.Importer.urls) (value_of c.args.left.now) (value_of c.args.right.now) c.in-Err-Stopped.stop (rw c.in-Err-Stopped.field-0-is at c.in-Err-Stopped.ensures)
