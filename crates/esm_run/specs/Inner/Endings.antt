-- How a run ends.
use Rattle.std.specs.Prelude.{◌≡◌, ℕ, List, ◌++◌, true, Option, Some, None}
use Rattle.esm_base.specs.declared.status.Status.{Status}
use Rattle.esm_base.specs.declared.status.Status.TheVariants.{Memory}
use Rattle.esm_world.specs.Run.{Shown}
use Rattle.esm_machine.specs.Machine.{MachineParts, state_of}
use Rattle.esm_machine.specs.Represents.{ShownBy}
use Rattle.esm_run.specs.declared.ending.Ending.{Ending}
use Rattle.esm_run.specs.Written.{SinkChange, IsUnwritten, EndsAs, written_text}

-- the status and the text of a run that has ended, behind what is written before it
pub record IsEndingOf (front : List ℕ) (what : Shown) (ending : Ending) : Type 0 where
  pub ended : what.ended ≡ true
  pub status : what.status ≡ Some ending.status
  pub text : ending.text.items ≡ front ++ written_text what

-- the text of the machine's run was written; nothing, where there is no machine, since memory ran out
abbrev pub EndsRun : Option MachineParts → List ℕ → Status → SinkChange → Type 0
EndsRun None front status sink = (status ≡ Memory) × IsUnwritten sink
EndsRun (Some machine) front status sink = ShownBy (state_of machine) (EndsAs status sink front)
