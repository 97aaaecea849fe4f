use Rattle.std.specs.Prelude.{◌-◌}
use Rattle.esm_base.specs.declared.limits.TheConstants.{MAX_STEPS}
use Rattle.esm_world.specs.World.{World}
use Rattle.esm_machine.specs.Inner.Parts.{AreLive, AreSound}
use Rattle.esm_machine.specs.Machine.{held_of}
use Rattle.esm_machine.proofs.Chains.{AreAmid}
use Rattle.esm_machine.proofs.jobs.run_jobs.Given as goal

-- what is left to do completes the jobs
abbrev pub invariant-loop-end : goal.invariant-loop-end
invariant-loop-end l = record {
  sound : AreSound l.parts;
  completes : (w : World) → AreLive l.fn.parts w → AreAmid l.parts w;
}

-- the steps that may still be taken
abbrev pub decreases-loop-end : goal.decreases-loop-end
decreases-loop-end l = MAX_STEPS - (held_of l.parts).engine.steps
