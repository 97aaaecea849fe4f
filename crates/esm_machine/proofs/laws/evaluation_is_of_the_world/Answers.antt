use Rattle.esm_machine.proofs.Evaluating as lemmas
use Rattle.esm_machine.proofs.laws.evaluation_is_of_the_world.Goals as goal

pub returns : goal.returns
returns g c = lemmas.evaluation_is_of_the_world g.B.ShownBodies.seen g.B.ShownBodies.errors g.B.ShownBodies.cells g.B.ShownBodies.engine g.B.ShownBodies.acts
