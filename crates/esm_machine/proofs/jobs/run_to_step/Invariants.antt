use Rattle.std.specs.Prelude.{◌≡◌, ◌≤◌}
use Rattle.esm_world.specs.World.{World}
use Rattle.esm_machine.specs.Inner.Parts.{AreLive, AreSound}
use Rattle.esm_machine.proofs.Chains.{AreAmid}
use Rattle.esm_machine.proofs.Lowers.{left_before, steps_in}
use Rattle.esm_machine.proofs.jobs.run_to_step.Given as goal

-- what is left to do completes the jobs
abbrev pub invariant-loop-parts : goal.invariant-loop-parts
invariant-loop-parts l = record {
  sound : AreSound l.parts;
  completes : (w : World) → AreLive l.fn.parts w → AreAmid l.parts w;
  before : l.before ≡ steps_in l.fn.parts;
  more : steps_in l.fn.parts ≤ steps_in l.parts;
}

-- what is left, until a step is taken
abbrev pub decreases-loop-parts : goal.decreases-loop-parts
decreases-loop-parts l = left_before l.before l.parts
