-- What the records of modules and the loads show of what lies outside of bodies.
use Rattle.std.specs.Prelude.{ℕ, Bool, true, false, nat_lt, if◌then◌else◌, List, [], filter, map, length, slice_get, Option, Some, None}
use Rattle.esm_base.specs.Urls.{Url}
use Rattle.esm_base.specs.declared.end.End.{End}
use Rattle.esm_base.specs.declared.end.End.TheVariants as ends
use Rattle.esm_base.specs.declared.limits.Limit.{Limit}
use Rattle.esm_base.specs.declared.module_id.ModuleId.{ModuleId}
use Rattle.esm_import_map.specs.ImportMap.{Maps}
use Rattle.esm_realm.specs.ById.{loaded_at}
use Rattle.esm_realm.specs.Sound.{RecordParts, url_of}
use Rattle.esm_resolve.specs.Graph.{Graph, AreAllSound}
use Rattle.esm_env.specs.Modules.{entries}
use Rattle.esm_loads.specs.Loading.{Loading}
use Rattle.esm_loads.specs.LoadsAsLoading.{loading_of}
use Rattle.esm_loads.specs.Hosted.{stopped_by}
use Rattle.esm_loads.specs.declared.loads.Loads.{Loads}
use Rattle.esm_link.specs.Realm.{is_linked}
use Rattle.esm_rewriting.specs.Fits.{AreLinked}
use Rattle.esm_body.specs.Importers.{HasLinked}
use Rattle.esm_rewriting.specs.declared.stop.Stop.{Stop}
use Rattle.esm_rewriting.specs.declared.stop.Stop.TheVariants as stops
use Rattle.esm_machine.specs.Seen.{Seen, names, modules, linked}
use Rattle.esm_machine.specs.declared.condition.Condition.{Condition}
use Rattle.esm_machine.specs.declared.condition.Condition.TheVariants as conditions

-- what contracts see of them: the records, the loads, the import map, and what is known of all that
pub record Imported : Type 0 where
  pub records : List RecordParts
  pub loads : Loads
  pub maps : Maps
  pub condition : Condition

abbrev pub imported : List RecordParts → Loads → Maps → Condition → Imported
imported records loads maps condition = record { records = records; loads = loads; maps = maps; condition = condition }

-- ---- refusals

abbrev pub is_whole : Condition → Bool
is_whole conditions.Whole = true
is_whole (conditions.Stopped limit) = false
is_whole conditions.Lost = false

-- the limit that has stopped loading, as far as it is known
abbrev pub limit_by : Condition → Option Limit
limit_by conditions.Whole = None
limit_by (conditions.Stopped limit) = Some limit
limit_by conditions.Lost = None

abbrev pub condition_by : End Limit → Condition
condition_by (ends.Fault limit) = conditions.Stopped limit
condition_by ends.Memory = conditions.Lost

abbrev pub stop_by : End Limit → Stop
stop_by (ends.Fault limit) = stops.Limit limit
stop_by ends.Memory = stops.Memory

-- ---- as what lies outside of bodies

abbrev pub loading_by : Condition → Loading → Loading
loading_by conditions.Whole l = l
loading_by (conditions.Stopped limit) l = stopped_by l limit
loading_by conditions.Lost l = l

-- the URLs of the Linked modules
abbrev pub linked_urls : List RecordParts → List Url
linked_urls records = map url_of (filter (λ (r : RecordParts). is_linked r.status) records)

-- own: where nothing is known nothing is linked
abbrev pub known_linked : Condition → List Url → List Url
known_linked conditions.Whole us = us
known_linked (conditions.Stopped limit) us = us
known_linked conditions.Lost us = []

abbrev pub seen_of : Imported → Seen
seen_of i = record {
  loading = loading_by i.condition (loading_of i.maps i.loads i.records);
  urls = map url_of i.records;
  linked = known_linked i.condition (linked_urls i.records);
}

-- ---- as a graph

abbrev pub size_by : Condition → ℕ → ℕ
size_by conditions.Whole n = n
size_by (conditions.Stopped limit) n = n
size_by conditions.Lost n = 0

abbrev pub loaded_or : ℕ → Option (Option ModuleId) → ℕ
loaded_or m (Some (Some target)) = target.0
loaded_or m (Some None) = m
loaded_or m None = m

-- the number, if it is below the size, and else that of the module itself
abbrev pub or_itself : ℕ → ℕ → ℕ → ℕ
or_itself size m target = if nat_lt target size then target else m

-- the module of a request: of one that isn't loaded the module itself. Of a linked one it is what is linked
abbrev pub target_of : Imported → ℕ → ℕ → ℕ
target_of i m request =
    if linked (seen_of i) m then (modules (seen_of i)).target m request else loaded_or m (slice_get (loaded_at i.records m) request)

-- exports can be resolved from each id that is there
abbrev pub graph_of : Imported → Graph
graph_of i = record {
  size = size_by i.condition (length i.records);
  entries = λ m. entries (modules (seen_of i)) m;
  target = λ m request. or_itself (size_by i.condition (length i.records)) m (target_of i m request);
}

-- the URL of each id that is there
abbrev pub urls_by_id : Imported → ℕ → List ℕ
urls_by_id i m = if nat_lt m (length i.records) then (names (seen_of i)).name m else []

-- what bodies ask of the code that imports: what is linked is there, by ids, and exports can be resolved from each id that is there
pub record ImportsAreThere : Type 0 where
  pub linked : (i : Imported) → AreLinked (modules (seen_of i)) (linked (seen_of i))
      → HasLinked (modules (seen_of i)) (linked (seen_of i)) (graph_of i) (urls_by_id i)
  pub sound : (i : Imported) → AreAllSound (graph_of i)
