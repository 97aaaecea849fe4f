-- The records of a realm by id.
use Rattle.std.specs.Prelude.{ℕ, Bool, true, false, List, [], map, slice_get, Option, Some, None}
use Rattle.esm_base.specs.Urls.{Url}
use Rattle.esm_base.specs.declared.module_id.ModuleId.{ModuleId}
use Rattle.esm_ast.specs.Entries.{EntryLists, no_entries}
use Rattle.esm_realm.specs.declared.record.ModuleStatus.{ModuleStatus}
use Rattle.esm_realm.specs.declared.record.ModuleStatus.TheVariants.{New, Unlinked, Linking}
use Rattle.esm_realm.specs.declared.record.Record.{Record}
use Rattle.esm_realm.specs.declared.realm.Realm.{Realm}
use Rattle.esm_realm.specs.Sound.{RecordParts}

abbrev pub status_by : Option RecordParts → ModuleStatus
status_by None = New
status_by (Some r) = r.status

abbrev pub status_of : List RecordParts → ℕ → ModuleStatus
status_of rs x = status_by (slice_get rs x)

abbrev pub entries_by : Option RecordParts → EntryLists
entries_by None = no_entries
entries_by (Some r) = r.entries

abbrev pub entries_at : List RecordParts → ℕ → EntryLists
entries_at rs x = entries_by (slice_get rs x)

abbrev pub url_by : Option RecordParts → Url
url_by None = []
url_by (Some r) = r.url

abbrev pub url_at : List RecordParts → ℕ → Url
url_at rs x = url_by (slice_get rs x)

abbrev pub loaded_by : Option RecordParts → List (Option ModuleId)
loaded_by None = []
loaded_by (Some r) = r.loaded

abbrev pub loaded_at : List RecordParts → ℕ → List (Option ModuleId)
loaded_at rs x = loaded_by (slice_get rs x)

-- a request that isn't loaded has a number too, of which nothing is asked
abbrev pub loaded_id : Option ModuleId → ℕ
loaded_id None = 0
loaded_id (Some m) = m.0

abbrev pub target_by : Option (Option ModuleId) → ℕ
target_by None = 0
target_by (Some l) = loaded_id l

-- the module of the i-th request. ECMA-262, GetImportedModule
abbrev pub target_at : List RecordParts → ℕ → ℕ → ℕ
target_at rs x i = target_by (slice_get (loaded_at rs x) i)

-- the modules of all requests, in order
abbrev pub targets_at : List RecordParts → ℕ → List ℕ
targets_at rs x = map loaded_id (loaded_at rs x)

abbrev pub is_unlinked : ModuleStatus → Bool
is_unlinked Unlinked = true
is_unlinked status = false

abbrev pub is_linking : ModuleStatus → Bool
is_linking Linking = true
is_linking status = false

-- all of a record but its status
abbrev pub without_status : RecordParts → RecordParts
without_status r = record r { status = New }

abbrev pub index_by : Option Record → ℕ
index_by None = 0
index_by (Some r) = r.index

-- the place of a module among the open ones, while it is Linking
abbrev pub index_of : Realm → ℕ → ℕ
index_of realm x = index_by (slice_get realm.records.items x)
