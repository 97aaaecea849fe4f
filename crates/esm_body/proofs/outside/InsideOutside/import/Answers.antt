use Rattle.std.specs.Prelude.{Ok, Err}
use Rattle.esm_values.specs.Code.{value_of}
use Rattle.esm_body.proofs.RowPlans.{imports, import_stopped, import_unstepped}
use Rattle.esm_body.proofs.WorldActs.{Logs, takes_steps}
use Rattle.esm_body.proofs.outside.InsideOutside.import.Goals as goal

pub returns-in-Ok-import_from : goal.returns-in-Ok-import_from
returns-in-Ok-import_from g c =
    imports g.I.Importer.seen g.I.Importer.modules g.I.Importer.linked g.I.Importer.fits g.I.Importer.begins g.met.I.Importer.lawful c.shared_set.ensures.agrees c.shared_set.ensures.ends c.args.m.0 c.args.self.now (Logs c.args.self.now c.step.new.self) c.import_from.new.inside (value_of c.args.of) c.in-Ok-import_from.promise (takes_steps g.I.Importer.seen g.I.Importer.modules g.I.Importer.linked g.I.Importer.fits g.I.Importer.begins c.args.self.now 1 (Ok tt) c.step.new.self c.in-Ok.ensures) c.in-Ok-import_from.ensures

pub returns-in-Err-import_from : goal.returns-in-Err-import_from
returns-in-Err-import_from g c =
    import_stopped g.I.Importer.seen g.I.Importer.modules g.I.Importer.linked g.I.Importer.fits g.I.Importer.begins g.met.I.Importer.lawful c.shared_set.ensures.agrees c.shared_set.ensures.ends c.args.m.0 c.args.self.now (Logs c.args.self.now c.step.new.self) c.import_from.new.inside (value_of c.args.of) c.in-Err-import_from.stop (takes_steps g.I.Importer.seen g.I.Importer.modules g.I.Importer.linked g.I.Importer.fits g.I.Importer.begins c.args.self.now 1 (Ok tt) c.step.new.self c.in-Ok.ensures) c.in-Err-import_from.ensures

pub returns-in-Err : goal.returns-in-Err
returns-in-Err g c =
    import_unstepped g.I.Importer.seen g.I.Importer.modules g.I.Importer.linked g.I.Importer.fits g.I.Importer.begins g.met.I.Importer.lawful c.shared_set.ensures.agrees c.shared_set.ensures.ends c.args.m.0 c.args.self.now (Logs c.args.self.now c.step.new.self) (value_of c.args.of) c.in-Err.stop (takes_steps g.I.Importer.seen g.I.Importer.modules g.I.Importer.linked g.I.Importer.fits g.I.Importer.begins c.args.self.now 1 (Err c.in-Err.stop) c.step.new.self c.in-Err.ensures)
