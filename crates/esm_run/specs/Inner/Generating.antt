-- How a run over generated input ends.
use Rattle.std.specs.Prelude.{◌≡◌, ℕ, List, Option, Some, None}
use Rattle.esm_base.specs.declared.status.Status.{Status}
use Rattle.esm_base.specs.declared.status.Status.TheVariants.{Memory}
use Rattle.esm_arguments.specs.declared.command.Generation.{Generation}
use Rattle.esm_gen.specs.declared.source.GeneratedSource.{GeneratedSource}
use Rattle.esm_gen.specs.Generated.{generated_at}
use Rattle.esm_machine.specs.Machine.{MachineParts, state_of}
use Rattle.esm_machine.specs.Represents.{ShownBy}
use Rattle.esm_run.specs.Generated.{EndsSummed}
use Rattle.esm_run.specs.Written.{SinkChange, IsUnwritten}

-- the summary of the machine's run was written; nothing, where there is no machine, since memory ran out
abbrev pub EndsGenerated : Option MachineParts → ℕ → Status → SinkChange → Type 0
EndsGenerated None count status sink = (status ≡ Memory) × IsUnwritten sink
EndsGenerated (Some machine) count status sink = ShownBy (state_of machine) (EndsSummed count status sink)

-- the source holds the generated files
abbrev pub HoldsGenerated : Generation → GeneratedSource → Type 0
HoldsGenerated generation source =
    (url : List ℕ) → generated_at source.start source.count url ≡ generated_at generation.start generation.count url
