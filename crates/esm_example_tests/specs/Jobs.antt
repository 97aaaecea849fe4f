-- Jobs over sources in memory.
use Rattle.std.specs.Prelude.{Some}
use Rattle.atomic_table.specs.Seated.{TableId}
use Rattle.esm_ports.specs.Files.{held_at}
use Rattle.esm_ports.specs.MemSources.{SourcePlan}
use Rattle.esm_fetch.specs.declared.pool.Job.{Job}
use Rattle.esm_fetch.specs.Pool.{IsToBegin}

-- a job of this map that is to begin
abbrev pub IsNew : TableId → Job SourcePlan → Type 0
IsNew table job = IsToBegin table (λ s. Some (held_at s.files)) (λ s. s.asked) job
