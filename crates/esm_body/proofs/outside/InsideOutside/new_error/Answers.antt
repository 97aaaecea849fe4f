use Rattle.std.specs.Prelude.{Ok, Err}
use Rattle.esm_values.specs.Code.{value_of}
use Rattle.esm_body.specs.Inner.World.{url_inside}
use Rattle.esm_body.proofs.RowSums.{makes_errors, error_stopped, error_unstepped}
use Rattle.esm_body.proofs.WorldActs.{Logs, takes_steps}
use Rattle.esm_body.proofs.outside.InsideOutside.new_error.Goals as goal

pub returns-in-Ok-error_from : goal.returns-in-Ok-error_from
returns-in-Ok-error_from g c =
    makes_errors g.I.Importer.seen g.I.Importer.modules g.I.Importer.linked g.I.Importer.fits g.I.Importer.begins g.met.I.Importer.lawful c.shared_set.ensures.agrees c.shared_set.ensures.ends c.args.self.now (Logs c.args.self.now c.step.new.self) c.error_from.new.world (url_inside g.I.Importer.urls) (value_of c.args.of.now) c.in-Ok-error_from.out (takes_steps g.I.Importer.seen g.I.Importer.modules g.I.Importer.linked g.I.Importer.fits g.I.Importer.begins c.args.self.now 1 (Ok tt) c.step.new.self c.in-Ok.ensures) c.in-Ok-error_from.ensures

pub returns-in-Err-Stopped : goal.returns-in-Err-Stopped
returns-in-Err-Stopped g c =
    error_stopped g.I.Importer.seen g.I.Importer.modules g.I.Importer.linked g.I.Importer.fits g.I.Importer.begins g.met.I.Importer.lawful c.shared_set.ensures.agrees c.shared_set.ensures.ends c.args.self.now (Logs c.args.self.now c.step.new.self) c.error_from.new.world (url_inside g.I.Importer.urls) (value_of c.args.of.now) c.in-Err-Stopped.stop (takes_steps g.I.Importer.seen g.I.Importer.modules g.I.Importer.linked g.I.Importer.fits g.I.Importer.begins c.args.self.now 1 (Ok tt) c.step.new.self c.in-Ok.ensures) (rw c.in-Err-Stopped.field-0-is at c.in-Err-Stopped.ensures)

pub returns-in-Err : goal.returns-in-Err
returns-in-Err g c =
    error_unstepped g.I.Importer.seen g.I.Importer.modules g.I.Importer.linked g.I.Importer.fits g.I.Importer.begins g.met.I.Importer.lawful c.shared_set.ensures.agrees c.shared_set.ensures.ends c.args.self.now (Logs c.args.self.now c.step.new.self) (value_of c.args.of.now) c.in-Err.stop (takes_steps g.I.Importer.seen g.I.Importer.modules g.I.Importer.linked g.I.Importer.fits g.I.Importer.begins c.args.self.now 1 (Err c.in-Err.stop) c.step.new.self c.in-Err.ensures)
