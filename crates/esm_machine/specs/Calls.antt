-- What the calls of loading leave of what lies outside of bodies.
use Rattle.std.specs.Prelude.{◌≡◌, Bool, true, false, [], Some, None, Result, Ok, Err}
use Rattle.esm_base.specs.declared.end.End.{End}
use Rattle.esm_base.specs.declared.end.End.TheVariants as ends
use Rattle.esm_base.specs.declared.limits.Limit.{Limit}
use Rattle.esm_base.specs.Urls.{Url}
use Rattle.esm_import_map.specs.ImportMap.{Maps}
use Rattle.esm_loads.specs.Arrival.{AnswersNext, next}
use Rattle.esm_loads.specs.Host.{Host}
use Rattle.esm_loads.specs.Loading.{opening_loading}
use Rattle.esm_loads.specs.LoadsView.{every_form}
use Rattle.esm_machine.specs.Seen.{Seen}
use Rattle.esm_machine.specs.ModuleStore.{condition_by}
use Rattle.esm_machine.specs.declared.condition.Condition.{Condition}
use Rattle.esm_machine.specs.declared.condition.Condition.TheVariants as conditions

-- ---- what is known behind a call

-- behind an import() or an answer
abbrev pub condition_of : {T : Type 0} → Result T (End Limit) → Condition
condition_of (Ok x) = conditions.Whole
condition_of (Err end) = condition_by end

-- behind the end of a fetch
abbrev pub condition_fetched : {T : Type 0} → Result T (End Limit) → Condition
condition_fetched (Ok x) = conditions.Whole
condition_fetched (Err end) = conditions.Lost

abbrev pub UnlessLost : Condition → Type 0 → Type 0
UnlessLost conditions.Whole P = P
UnlessLost (conditions.Stopped limit) P = P
UnlessLost conditions.Lost P = Unit {0}

-- the same modules have records, and the same are linked
pub record KeepsRecords (before after : Seen) : Type 0 where
  pub urls : after.urls ≡ before.urls
  pub linked : after.linked ≡ before.linked

-- ---- the opening

-- the entry alone is asked, by a load that has the first promise
abbrev pub opening_seen : Maps → Url → Seen
opening_seen maps entry = record { loading = opening_loading maps every_form entry 0; urls = []; linked = [] }

-- ---- an answer

-- the next pending request is answered, up to a limit where one is passed; or there is none. Where memory ran out nothing is said
abbrev pub AnswersBy : Result Bool (End Limit) → Host → Host → Type 0
AnswersBy (Ok true) before after = AnswersNext before after
AnswersBy (Ok false) before after = next before.imports ≡ None
AnswersBy (Err (ends.Fault limit)) before after = AnswersNext before after
AnswersBy (Err ends.Memory) before after = Unit {0}

-- ---- the end of a fetch

-- it is taken; or a limit stops it, before anything else happens. Where memory ran out nothing is said
abbrev pub FetchesBy : Result (Unit {0}) (End Limit) → Host → Host → Type 0
FetchesBy (Ok u) fetched after = after ≡ fetched
FetchesBy (Err (ends.Fault limit)) fetched after = fetched.imports.stopped ≡ Some limit
FetchesBy (Err ends.Memory) fetched after = Unit {0}
