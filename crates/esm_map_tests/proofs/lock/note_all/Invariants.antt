use Rattle.esm_hlock.specs.Words.{IsPassOf}
use Rattle.esm_map_tests.proofs.lock.note_all.Given as goal

abbrev pub invariant-loop-step : goal.invariant-loop-step
invariant-loop-step g l = IsPassOf l.lock l.pass
