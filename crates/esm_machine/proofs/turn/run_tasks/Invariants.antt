use Rattle.esm_loads.specs.Arrival.{pending_left}
use Rattle.esm_world.specs.World.{World}
use Rattle.esm_machine.specs.Inner.Parts.{AreLive, AreSound, seen_in}
use Rattle.esm_machine.proofs.Chains.{AreMidway}
use Rattle.esm_machine.proofs.turn.run_tasks.Given as goal

-- what is left to do completes the tasks
abbrev pub invariant-loop-end : goal.invariant-loop-end
invariant-loop-end l = record {
  sound : AreSound l.parts;
  completes : (w : World) → AreLive l.fn.parts w → AreMidway l.parts w;
}

-- the pending of fetched URLs
abbrev pub decreases-loop-end : goal.decreases-loop-end
decreases-loop-end l = pending_left (seen_in l.parts).loading
