use Rattle.esm_eval.specs.Table.{ArePassed}
use Rattle.esm_eval.proofs.passing.open_from.Given as goal

-- the waits before this place are done, where those before the first are
abbrev pub invariant-loop-place : goal.invariant-loop-place
invariant-loop-place l = ArePassed l.nodes l.waits l.from → ArePassed l.nodes l.waits l.place
