use Rattle.esm_values.specs.Code.{value_of}
use Rattle.esm_body.proofs.RowPlans as rows
use Rattle.esm_body.proofs.WorldActs.{members}
use Rattle.esm_body.proofs.outside.InsideOutside.member.Goals as goal

pub returns-in-Ok : goal.returns-in-Ok
returns-in-Ok g c =
    rows.members g.I.Importer.seen g.I.Importer.modules g.I.Importer.linked g.I.Importer.fits g.I.Importer.begins g.met.I.Importer.lawful c.shared_set.ensures.agrees c.shared_set.ensures.ends c.args.self.now _ (value_of c.args.of) c.args.name.now c.in-Ok.out
    (members g.I.Importer.seen g.I.Importer.modules g.I.Importer.linked g.I.Importer.fits g.I.Importer.begins c.args.self.now (value_of c.args.of) c.args.name.now c.in-Ok.out c.member_of.new.errors g.met.I.Importer.lawful c.in-Ok.ensures)
