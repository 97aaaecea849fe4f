-- What the requests of a module have loaded where a load ends.
use Rattle.std.specs.Prelude.{◌≡◌, ◌⊎◌, ℕ, ◌<◌, true, List, length, slice_get, slice_set, Option, Some, None}
use Rattle.esm_base.specs.Urls.{Url}
use Rattle.esm_base.specs.declared.module_id.ModuleId.{ModuleId}
use Rattle.esm_realm.specs.Sound.{RecordParts}
use Rattle.esm_realm.specs.declared.record.ModuleStatus.{ModuleStatus}
use Rattle.esm_realm.specs.declared.record.ModuleStatus.TheVariants.{New, Unlinked, Linking, Linked}
use Rattle.esm_loads.specs.LoadsView.{id_under, is_past_new}
use Rattle.esm_loads.specs.declared.data.Slot.{Slot}

-- the modules of the table have ids below this number
abbrev pub AreIdsBelow : List Slot → ℕ → Type 0
AreIdsBelow slots many = (u : Url) (id : ℕ) → id_under slots u ≡ Some id → id < many

abbrev pub load_by : Option ℕ → ℕ → List (Option ModuleId) → List (Option ModuleId)
load_by None i loaded = loaded
load_by (Some id) i loaded = slice_set loaded i (Some (record { 0 = id }))

-- the i-th request has loaded the module under this URL, where there is one
abbrev pub load_at : List Slot → Url → ℕ → List (Option ModuleId) → List (Option ModuleId)
load_at slots u i loaded = load_by (id_under slots u) i loaded

-- each of the first so many of these requests, under whose target a module stands, has loaded it
abbrev pub AreFilledTo : List Slot → ℕ → List Url → List (Option ModuleId) → Type 0
AreFilledTo slots many targets loaded = (i id : ℕ) (u : Url) → i < many → slice_get targets i ≡ Some u → id_under slots u ≡ Some id
    → slice_get loaded i ≡ Some (Some (record { 0 = id }))

-- each request, under whose target a module stands, has loaded it
abbrev pub IsFilled : List Slot → RecordParts → Type 0
IsFilled slots r = AreFilledTo slots (length r.targets) r.targets r.loaded

-- the first so many requests of the record with this id, which was r, have loaded their modules, and nothing else has changed
pub record Fills (slots : List Slot) (many id : ℕ) (r : RecordParts) (old new : List RecordParts) : Type 0 where
  pub loaded : List (Option ModuleId)
  pub is : new ≡ slice_set old id (record r { loaded = loaded })
  pub right : AreFilledTo slots many r.targets loaded
  pub as_many : length loaded ≡ length r.loaded

-- a New record becomes Unlinked, and its requests have loaded their modules; any other stays as it is
abbrev pub UnlinksBy : List Slot → ModuleStatus → RecordParts → RecordParts → Type 0
UnlinksBy slots New r now = (loaded : List (Option ModuleId)) × (now ≡ record r { loaded = loaded; status = Unlinked })
    × AreFilledTo slots (length r.targets) r.targets loaded
UnlinksBy slots Unlinked r now = now ≡ r
UnlinksBy slots Linking r now = now ≡ r
UnlinksBy slots Linked r now = now ≡ r

-- the record with this id, which was r, becomes Unlinked where it was New, and nothing else has changed
pub record Unlinks (slots : List Slot) (id : ℕ) (r : RecordParts) (old new : List RecordParts) : Type 0 where
  pub now : RecordParts
  pub is : new ≡ slice_set old id now
  pub how : UnlinksBy slots r.status r now

-- each record that isn't New is as it was, or its requests have loaded their modules
abbrev pub FillsNew : List Slot → List RecordParts → List RecordParts → Type 0
FillsNew slots old new = (id : ℕ) (r : RecordParts) → slice_get new id ≡ Some r → is_past_new r.status ≡ true
    → (slice_get old id ≡ Some r) ⊎ IsFilled slots r
