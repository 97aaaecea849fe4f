use Rattle.esm_world.proofs.OneRun.{turn_one}
use Rattle.esm_world.proofs.laws.one_turn.Goals as goal

pub returns : goal.returns
returns c w one other u outcome p q = turn_one p q
