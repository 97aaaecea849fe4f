-- What one call of `fetch` does to a source in memory that fails by a plan.
use Rattle.std.specs.Prelude.{◌+◌, ℕ, List, length, Result, Ok, Err, Contains, ⊤}
use Rattle.esm_ports.specs.declared.asked.Asked.{Asked}
use Rattle.esm_ports.specs.declared.source.FetchEnd.{FetchEnd}
use Rattle.esm_ports.specs.declared.source.FetchEnd.TheVariants.{Absent, Failed, Memory}
use Rattle.esm_ports.specs.Files.{FilesByUrl}

-- what it holds, at which calls it fails, and what it was asked
pub record SourcePlan : Type 0 where
  pub files : FilesByUrl
  pub fail_at : List ℕ
  pub asked : List Asked

-- the number of the next call is in the plan
abbrev pub IsPlanned : SourcePlan → Type 0
IsPlanned source = Contains source.fail_at (length source.asked + 1)

-- the call fails where its number is in the plan, and else doesn't
abbrev pub FetchesByPlan : {B : Type 0} → SourcePlan → Result B FetchEnd → Type 0
FetchesByPlan source (Ok body) = IsPlanned source → ⊥
FetchesByPlan source (Err Absent) = IsPlanned source → ⊥
FetchesByPlan source (Err Failed) = IsPlanned source
FetchesByPlan source (Err Memory) = ⊤
