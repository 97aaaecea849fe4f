use Rattle.esm_body.proofs.WaitLemmas.{AreOthers}
use Rattle.esm_body.proofs.engine.Engine.standing_at.Given as goal

abbrev pub invariant-loop-at : goal.invariant-loop-at
invariant-loop-at l = AreOthers l.self.standing.items l.m.0 l.at
