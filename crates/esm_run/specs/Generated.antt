-- A run over generated input, and its summary. own
use Rattle.std.specs.Prelude.{◌≡◌, ◌≢◌, ℕ, List, take, Option, Some, None, IsSomeAnd, All, AllPairs, true, false, ◌⊎◌}
use Rattle.esm_ports.specs.Sink.{Grew}
use Rattle.esm_base.specs.declared.status.Status.{Status}
use Rattle.esm_base.specs.declared.status.Status.TheVariants.{Memory}
use Rattle.esm_import_map.specs.ImportMap.{no_maps}
use Rattle.esm_loads.specs.LoadsView.{every_form}
use Rattle.esm_world.specs.Run.{Shown, StandardRun}
use Rattle.esm_ast.specs.Deliveries.{Delivery}
use Rattle.esm_ast.specs.Outcome.{OutcomeView, Script, Broken, Absent, Failed}
use Rattle.esm_base.specs.declared.limits.TheConstants.{MAX_BODY_BYTES}
use Rattle.esm_fetch.specs.Answered.{IsRead}
use Rattle.esm_arguments.specs.declared.command.Generation.{Generation}
use Rattle.esm_gen.specs.Generated.{generated_at, module_url}
use Rattle.esm_gen.specs.Summary.{summary_text}
use Rattle.esm_run.specs.Summed.{summary_of}
use Rattle.esm_run.specs.Written.{SinkChange, IsUnwritten, EndsWith}

-- The summary of a run that has ended was written and its status answered, but for a failed sink and running out of memory; or memory
-- ran out before, and nothing was written.
abbrev pub EndsSummed : ℕ → Status → SinkChange → Shown → Type 0
EndsSummed count status sink what = ((status ≡ Memory) × IsUnwritten sink)
    ⊎ ((what.ended ≡ true) × (end : Status) × (what.status ≡ Some end)
    × EndsWith (Some end) (summary_text (summary_of count what end)) status sink)

-- the outcome is that of the generated file at a URL, or says that there is none; no fetch fails
abbrev pub IsOfFile : Option (List ℕ) → OutcomeView → Type 0
IsOfFile held (Script text) = IsSomeAnd held (λ bytes. text.bytes ≡ take MAX_BODY_BYTES bytes)
IsOfFile held (Broken broken) = IsSomeAnd held (λ bytes. broken.bytes ≡ take MAX_BODY_BYTES bytes)
IsOfFile held Absent = held ≡ None
IsOfFile held Failed = ⊥

abbrev pub IsGenerated : Generation → Delivery → Type 0
IsGenerated generation delivery = IsOfFile (generated_at generation.start generation.count delivery.url) delivery.outcome

-- The deliveries are allowed, of different URLs, read rightly and of the generated files. Their standard run from the first module, under
-- the empty import map, has ended, and its summary was written.
pub record RunsGenerated (generation : Generation) (taken : List Delivery) (status : Status) (sink : SinkChange) : Type 0 where
  pub what : Shown
  pub run : StandardRun no_maps every_form (module_url 0) false taken what
  pub once : AllPairs (λ a b. a.url ≢ b.url) taken
  pub read : All (λ delivery. IsRead delivery.outcome) taken
  pub generated : All (IsGenerated generation) taken
  pub ends : EndsSummed generation.count status sink what

-- the run went to its end: the status and the whole summary are those of the standard run
pub record RunsGeneratedWhole (generation : Generation) (taken : List Delivery) (status : Status) (sink : SinkChange) : Type 0 where
  pub what : Shown
  pub run : StandardRun no_maps every_form (module_url 0) false taken what
  pub ended : what.ended ≡ true
  pub status_is : what.status ≡ Some status
  pub whole : Grew sink.written_before sink.written_after (summary_text (summary_of generation.count what status))
