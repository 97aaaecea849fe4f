use Rattle.esm_values.specs.Code.{value_of}
use Rattle.esm_body.proofs.RowPlans.{begins_from, refuses_from}
use Rattle.esm_body.proofs.imports.import_from.Goals as goal

pub returns-in-Some : goal.returns-in-Some
returns-in-Some g c =
    begins_from g.I.Importer.seen g.I.Importer.modules g.I.Importer.linked g.I.Importer.fits g.I.Importer.begins g.met.I.Importer.lawful c.args.m.0 c.args.inside.now (value_of c.args.of) c.in-Some.specifier c.begin_import.result c.begin_import.new.promises c.begin_import.new.errors c.begin_import.new.imports
    c.made_pending.ensures (rw c.in-Some.is at c.in-Ok.ensures) (rw c.as_str.ensures.value at c.begin_import.ensures)

pub returns-in-Ok-refuse_import : goal.returns-in-Ok-refuse_import
returns-in-Ok-refuse_import g c =
    refuses_from g.I.Importer.seen g.I.Importer.modules g.I.Importer.linked g.I.Importer.fits g.I.Importer.begins g.met.I.Importer.lawful c.args.m.0 c.args.inside.now (value_of c.args.of) c.in-Ok-refuse_import.promise c.refuse_import.new.promises c.refuse_import.new.errors
    (rw c.in-None.is at c.in-Ok.ensures) c.in-Ok-refuse_import.ensures
