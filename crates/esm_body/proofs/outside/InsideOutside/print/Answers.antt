use Rattle.std.specs.Prelude.{Ok, Err}
use Rattle.esm_values.specs.Code.{values_of}
use Rattle.esm_body.proofs.RowPlans.{prints, print_stopped, print_unstepped}
use Rattle.esm_body.proofs.WorldActs.{Logs, takes_steps}
use Rattle.esm_body.proofs.outside.InsideOutside.print.Goals as goal

pub returns-in-Ok-print_line : goal.returns-in-Ok-print_line
returns-in-Ok-print_line g c =
    prints g.I.Importer.seen g.I.Importer.modules g.I.Importer.linked g.I.Importer.fits g.I.Importer.begins g.met.I.Importer.lawful c.shared_set.ensures.agrees c.shared_set.ensures.ends c.args.self.now (Logs c.args.self.now c.step.new.self) c.print_line.new.inside (values_of c.args.values.now) (takes_steps g.I.Importer.seen g.I.Importer.modules g.I.Importer.linked g.I.Importer.fits g.I.Importer.begins c.args.self.now 1 (Ok tt) c.step.new.self c.in-Ok.ensures) c.in-Ok-print_line.ensures

pub returns-in-Err-print_line : goal.returns-in-Err-print_line
returns-in-Err-print_line g c =
    print_stopped g.I.Importer.seen g.I.Importer.modules g.I.Importer.linked g.I.Importer.fits g.I.Importer.begins g.met.I.Importer.lawful c.shared_set.ensures.agrees c.shared_set.ensures.ends c.args.self.now (Logs c.args.self.now c.step.new.self) c.print_line.new.inside (values_of c.args.values.now) c.in-Err-print_line.stop (takes_steps g.I.Importer.seen g.I.Importer.modules g.I.Importer.linked g.I.Importer.fits g.I.Importer.begins c.args.self.now 1 (Ok tt) c.step.new.self c.in-Ok.ensures) c.in-Err-print_line.ensures

pub returns-in-Err : goal.returns-in-Err
returns-in-Err g c =
    print_unstepped g.I.Importer.seen g.I.Importer.modules g.I.Importer.linked g.I.Importer.fits g.I.Importer.begins g.met.I.Importer.lawful c.shared_set.ensures.agrees c.shared_set.ensures.ends c.args.self.now (Logs c.args.self.now c.step.new.self) (values_of c.args.values.now) c.in-Err.stop (takes_steps g.I.Importer.seen g.I.Importer.modules g.I.Importer.linked g.I.Importer.fits g.I.Importer.begins c.args.self.now 1 (Err c.in-Err.stop) c.step.new.self c.in-Err.ensures)
