-- The threads of a run: how a caller begins, and how a worker, or the calling thread's part, has ended.
use Rattle.std.specs.Prelude.{◌≡◌, ℕ, List, [], ◌∷◌, map, Option, Some}
use Rattle.std.specs.Vec.{vec_capacity}
use Rattle.atomic_table.specs.Seated.{TableId}
use Rattle.esm_hlock.specs.declared.pass.PassOf.{PassOf}
use Rattle.esm_ports.specs.declared.asked.Asked.{Asked}
use Rattle.esm_import_map.specs.ImportMap.{Maps}
use Rattle.esm_module_map.specs.declared.event.MapEvent.{MapEvent}
use Rattle.esm_module_map.specs.Histories.{asks_by}
use Rattle.esm_module_map.specs.Leading.{guide_in}
use Rattle.esm_module_map.specs.Views.{view_in, table_of}
use Rattle.esm_fetch.specs.declared.posted.Posted.{Posted}
use Rattle.esm_fetch.specs.declared.working.WorkerEnd.{WorkerEnd}
use Rattle.esm_fetch.specs.Answered.{Contents}
use Rattle.esm_fetch.specs.Serving.{weight, ServedIf}
use Rattle.esm_run.specs.declared.lead.Led.{Led}
use Rattle.esm_run.specs.Inner.Leading.{IsNew}

module _ {T : Type 0} where
  -- own: the guide of the history that the caller with this pass has seen is this import map
  abbrev pub IsGuided : Maps → Option (PassOf T (MapEvent Posted Maps)) → Type 0
  IsGuided maps pass = guide_in (view_in pass).seen ≡ Some maps

  -- own: a caller of this module map, with this number and this import map, that has asked for, taken and posted nothing
  abbrev pub IsCallerOf : TableId → Maps → ℕ → Option (PassOf T (MapEvent Posted Maps)) → Type 0
  IsCallerOf table maps number pass = (table_of table pass ≡ table) × IsGuided maps pass × IsNew number (view_in pass)

  -- own: a caller of this module map, with this number and one share, that has asked for, taken and posted nothing
  abbrev pub IsToWork : TableId → ℕ → Option (PassOf T (MapEvent Posted Maps)) → Type 0
  IsToWork table number pass = (table_of table pass ≡ table) × ((view_in pass).shares ≡ 1) × IsNew number (view_in pass)

-- own: a worker has ended. Its caller is of this module map, has this many shares and its own number alone, and asked for nothing; its
-- source was asked for what the caller took, and tells this of what it holds
abbrev pub HasWorked : {S : Type 0} → TableId → (S → Option Contents) → (S → List Asked) → ℕ → Option Contents → WorkerEnd S → Type 0
HasWorked table holds_of asked_of shares holds end =
    (table_of table end.caller.pass ≡ table) × ((view_in end.caller.pass).shares ≡ shares)
    × ((view_in end.caller.pass).numbers ≡ end.caller.number ∷ [])
    × ServedIf end.short (holds_of end.source) (asked_of end.source) end.caller.number (view_in end.caller.pass).seen
    × (asks_by weight end.caller.number (view_in end.caller.pass).seen ≡ []) × (holds_of end.source ≡ holds)

-- own: the calling thread's part has ended. Its caller is of this module map and has this many shares; the sources, in order, tell this of
-- what they hold, and have this capacity
abbrev pub HasLed : {S : Type 0} → TableId → (S → Option Contents) → ℕ → List (Option Contents) → ℕ → Led S → Type 0
HasLed table holds_of shares holds capacity led =
    (table_of table led.caller.pass ≡ table) × ((view_in led.caller.pass).shares ≡ shares)
    × (map holds_of led.sources.items ≡ holds) × (vec_capacity led.sources ≡ capacity)
