-- What holds of the records of modules and the loads as long as nothing is lost.
use Rattle.std.specs.Prelude.{◌≡◌, ◌<◌, ℕ, true, false, List, length, slice_get}
use Rattle.esm_base.specs.Lists.{EachOnce}
use Rattle.esm_base.specs.Urls.{Url, has, same_url}
use Rattle.esm_realm.specs.ById.{entries_at, loaded_at, url_at, status_of, is_linking}
use Rattle.esm_realm.specs.Sound.{RecordParts, IsSound}
use Rattle.esm_env.specs.Modules.{entries}
use Rattle.esm_loads.specs.Arrival.{open_asks}
use Rattle.esm_loads.specs.Fits.{FitRecords}
use Rattle.esm_loads.specs.Laws.{IsOrderly}
use Rattle.esm_loads.specs.Loaded.{HaveLoaded}
use Rattle.esm_loads.specs.LoadsAsLoading.{loading_of}
use Rattle.esm_loads.specs.LoadsView.{is_unlinked}
use Rattle.esm_loads.specs.Whole.{IsWhole}
use Rattle.esm_link.specs.Scopes.{linked_in}
use Rattle.esm_machine.specs.Seen.{Seen, names, modules, linked}
use Rattle.esm_machine.specs.ModuleStore.{Imported, is_whole, limit_by, seen_of, graph_of, urls_by_id, loaded_or}
use Rattle.esm_machine.specs.declared.condition.Condition.{Condition}
use Rattle.esm_machine.specs.declared.condition.Condition.TheVariants as conditions

-- the records have what is seen of modules: the entries of each, and of a linked one the targets of its requests
pub record Show (records : List RecordParts) (s : Seen) : Type 0 where
  pub entries_are : (m : ℕ) → m < length records → entries_at records m ≡ entries (modules s) m
  pub targets_are : (m request : ℕ) → linked s m ≡ true → request < length (entries (modules s) m).requests
      → loaded_or m (slice_get (loaded_at records m) request) ≡ (modules s).target m request

-- the loads fit the records, what is past New is loaded with all that it reaches, and no walk of linking is under way
pub record GoesOn (i : Imported) : Type 0 where
  pub fits : FitRecords i.loads i.records
  pub orderly : IsOrderly (loading_of i.maps i.loads i.records)
  pub whole : IsWhole (loading_of i.maps i.loads i.records)
  pub loaded : HaveLoaded i.records
  pub idle : (m : ℕ) → is_linking (status_of i.records m) ≡ false

abbrev pub KnownBy : Condition → Imported → Type 0
KnownBy conditions.Whole i = GoesOn i
KnownBy (conditions.Stopped limit) i = Show i.records (seen_of i)
KnownBy conditions.Lost i = Unit {0}

-- the realm is sound whatever was refused
pub record IsKept (i : Imported) : Type 0 where
  pub sound : IsSound i.records
  pub known : KnownBy i.condition i

-- as long as nothing is lost, the records have what is seen of modules
pub record RecordsShow : Type 0 where
  pub entries_are : (i : Imported) (m : ℕ) → IsKept i → m < (graph_of i).size → entries_at i.records m ≡ (graph_of i).entries m
  pub targets_are : (i : Imported) (m request : ℕ) → IsKept i → m < (graph_of i).size → request < length ((graph_of i).entries m).requests
      → loaded_or m (slice_get (loaded_at i.records m) request) ≡ (graph_of i).target m request
  pub urls_are : (i : Imported) (m : ℕ) → IsKept i → url_at i.records m ≡ urls_by_id i m
  -- the records that are Linked are seen to be, and those that are past New
  pub linked_are : (i : Imported) (m : ℕ) → IsKept i → is_whole i.condition ≡ true → linked (seen_of i) m ≡ linked_in i.records m
  pub unlinked_are : (i : Imported) (m : ℕ) → IsKept i → is_whole i.condition ≡ true
      → (seen_of i).loading.unlinked ((names (seen_of i)).name m) ≡ is_unlinked i.records m
  -- the URLs of the records differ, those of what is linked are among them, and no open ask is
  pub apart : (i : Imported) → IsKept i → EachOnce same_url (seen_of i).urls
  pub have_ids : (i : Imported) (u : Url) → has (seen_of i).linked u ≡ true → has (seen_of i).urls u ≡ true
  pub asks_are_new : (i : Imported) (u : Url) → IsKept i → is_whole i.condition ≡ true
      → has (open_asks (seen_of i).loading) u ≡ true → has (seen_of i).urls u ≡ false
  -- the limit that has stopped loading is the one that is known
  pub stops : (i : Imported) → (seen_of i).loading.stopped ≡ limit_by i.condition
