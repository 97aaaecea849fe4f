-- Workers that are to begin, and workers that have ended.
use Rattle.std.specs.Prelude.{◌≡◌, ℕ, ◌<◌, List, [], ◌∷◌, Option, Some}
use Rattle.atomic_table.specs.Seated.{TableId}
use Rattle.esm_hlock.specs.Makers.{times}
use Rattle.esm_hlock.specs.declared.view.View.{View}
use Rattle.esm_ports.specs.declared.asked.Asked.{Asked}
use Rattle.esm_module_map.specs.declared.event.MapEvent.{MapEvent}
use Rattle.esm_import_map.specs.ImportMap.{Maps}
use Rattle.esm_module_map.specs.Leading.{guide_in}
use Rattle.esm_module_map.specs.Views.{view_in, table_of}
use Rattle.esm_fetch.specs.declared.posted.Posted.{Posted}
use Rattle.esm_fetch.specs.declared.pool.Job.{Job}
use Rattle.esm_fetch.specs.declared.pool.Done.{Done}
use Rattle.esm_fetch.specs.Answered.{Contents}
use Rattle.esm_fetch.specs.Serving.{Serves, ServedIf}

module _ {S : Type 0} where
  abbrev pub caller_in : Done S → ℕ
  caller_in d = d.number

  abbrev pub source_in : Done S → S
  source_in d = d.source

  abbrev pub source_of : Job S → S
  source_of job = job.source

  -- own: the worker's caller is listed, and its source was asked for what that caller took, by the history of the view
  abbrev pub IsDone : {G : Type 0} → (S → Option Contents) → (S → List Asked) → View (MapEvent Posted G) → Done S → Type 0
  IsDone holds_of asked_of v d =
      (0 < times d.number v.numbers) × ServedIf d.short (holds_of d.source) (asked_of d.source) d.number v.seen

  -- the history that its caller has seen begins with this import map
  abbrev pub IsGuided : Maps → Job S → Type 0
  IsGuided maps job = guide_in (view_in job.caller.pass).seen ≡ Some maps

  -- own: a caller of this map that has one share and one number, and its source
  abbrev pub IsToBegin : TableId → (S → Option Contents) → (S → List Asked) → Job S → Type 0
  IsToBegin table holds_of asked_of job =
      (table_of table job.caller.pass ≡ table) × ((view_in job.caller.pass).shares ≡ 1)
      × ((view_in job.caller.pass).numbers ≡ job.caller.number ∷ [])
      × Serves (holds_of job.source) (asked_of job.source) job.caller.number (view_in job.caller.pass).seen
