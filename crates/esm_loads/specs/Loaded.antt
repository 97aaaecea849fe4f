-- What the requests of modules have loaded. ECMA-262, [[LoadedModules]].
use Rattle.std.specs.Prelude.{◌≡◌, ℕ, ◌<◌, true, List, length, slice_get, Option, Some, None}
use Rattle.esm_base.specs.Urls.{Url}
use Rattle.esm_base.specs.declared.module_id.ModuleId.{ModuleId}
use Rattle.esm_realm.specs.ById.{url_at}
use Rattle.esm_realm.specs.Sound.{RecordParts}
use Rattle.esm_loads.specs.LoadsView.{is_past_new}

-- the i-th request of the record has loaded the module under the URL of its target, and that module isn't New
pub record IsLoadedAt (records : List RecordParts) (r : RecordParts) (i : ℕ) : Type 0 where
  pub target : ModuleId
  pub at : slice_get r.loaded i ≡ Some (Some target)
  pub parts : RecordParts
  pub is : slice_get records target.0 ≡ Some parts
  pub under : slice_get r.targets i ≡ Some parts.url
  pub past_new : is_past_new parts.status ≡ true

-- each request of each module that isn't New has loaded the module of its target, which isn't New either
abbrev pub HaveLoaded : List RecordParts → Type 0
HaveLoaded records = (id i : ℕ) (r : RecordParts) → slice_get records id ≡ Some r → is_past_new r.status ≡ true → i < length r.targets
    → IsLoadedAt records r i

-- each record that isn't New is as it was
abbrev pub PastNewStay : List RecordParts → List RecordParts → Type 0
PastNewStay old new = (id : ℕ) (r : RecordParts) → slice_get old id ≡ Some r → is_past_new r.status ≡ true → slice_get new id ≡ Some r

-- the URL of a module, where there is one
abbrev pub root_url : List RecordParts → Option ModuleId → Option Url
root_url records None = None
root_url records (Some m) = Some (url_at records m.0)
