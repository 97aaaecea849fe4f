use Rattle.std.proofs.Common.{ap}
use Rattle.esm_values.specs.Value.{Error}
use Rattle.esm_values.specs.declared.value.Value.TheVariants as values
use Rattle.esm_body.proofs.WorldActs.{makes_fault}
use Rattle.esm_body.proofs.world.InsideWorld.fault.Goals as goal

pub returns-in-Ok : goal.returns-in-Ok
returns-in-Ok g c =
    makes_fault g.I.Importer.seen g.I.Importer.modules g.I.Importer.linked g.I.Importer.fits g.I.Importer.begins c.args.self.now c.args.kind c.args.message.now (values.Error c.in-Ok.id) c.make.new.self
    (ap Error c.in-Ok.ensures.id) c.in-Ok.ensures.ok
