use Rattle.esm_eval.proofs.SmallWorlds.{small_worlds_are_lawful}
use Rattle.esm_eval.proofs.examples.small_worlds_are_lawful.Goals as goal

pub returns : goal.returns
returns c = small_worlds_are_lawful
