use Rattle.esm_body.proofs.WorldActs.{takes_steps}
use Rattle.esm_body.proofs.world.InsideWorld.step.Goals as goal

pub returns : goal.returns
returns g c = takes_steps g.I.Importer.seen g.I.Importer.modules g.I.Importer.linked g.I.Importer.fits g.I.Importer.begins c.args.self.now c.args.n c.step.result c.step.new.self c.step.ensures
