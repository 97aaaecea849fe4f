-- When loads fit the records of a realm, and their indices are right.
use Rattle.std.specs.Prelude.{◌≡◌, ℕ, ◌≤◌, ◌<◌, true, false, List, [], ◌∷◌, ◌++◌, length, slice_get, Some, All}
use Rattle.esm_tree.specs.Syntax.{Item}
use Rattle.esm_ast.specs.Entries.{entries_of}
use Rattle.esm_ast.specs.Spelled.{AreSpelled}
use Rattle.esm_base.specs.declared.limits.TheConstants.{MAX_URLS, MAX_IMPORT_CALLS}
use Rattle.esm_base.specs.Urls.{Url, IsUsable}
use Rattle.esm_realm.specs.Laws.{AreDistinct}
use Rattle.esm_realm.specs.Sound.{RecordParts, new_record}
use Rattle.esm_loads.specs.UrlTable.{Found, Nothing, Faulty, Script}
use Rattle.esm_loads.specs.LoadsView.{urls_of, place_in, is_open, LoadView}
use Rattle.esm_loads.specs.LoadsAsLoading.{trees_of}
use Rattle.esm_loads.specs.Inner.Targets.{KnowTargets}
use Rattle.esm_loads.specs.declared.data.Slot.{Slot}
use Rattle.esm_loads.specs.declared.data.UrlState.TheVariants as states
use Rattle.esm_loads.specs.declared.data.Waiting.{Waiting}
use Rattle.esm_loads.specs.declared.data.Requester.{Requester}
use Rattle.esm_loads.specs.declared.data.Requester.TheVariants as requesters
use Rattle.esm_loads.specs.declared.data.Stage.{Stage}
use Rattle.esm_loads.specs.declared.data.Stage.TheVariants as stages
use Rattle.esm_loads.specs.declared.data.Cause.TheVariants as causes
use Rattle.esm_loads.specs.declared.loads.Loads.{Loads}

-- ---- the tables among themselves

abbrev pub IsRequesterWithin : ℕ → Requester → Type 0
IsRequesterWithin many requesters.Root = Unit {0}
IsRequesterWithin many (requesters.Module referrer request) = referrer < many

abbrev pub IsWaitingWithin : ℕ → Waiting → Type 0
IsWaitingWithin many w = IsRequesterWithin many w.requester

abbrev pub IsStageWithin : ℕ → Stage → Type 0
IsStageWithin many stages.Asked = Unit {0}
IsStageWithin many (stages.Open root) = root < many
IsStageWithin many (stages.Complete root) = root < many
IsStageWithin many (stages.Thrown (causes.Unfetched place)) = place < many
IsStageWithin many (stages.Thrown (causes.Kept error)) = Unit {0}

abbrev pub AreBelow : ℕ → List ℕ → Type 0
AreBelow many ids = All (λ (id : ℕ). id < many) ids

abbrev pub IsLoadWithin : ℕ → ℕ → LoadView → Type 0
IsLoadWithin urls records l = IsStageWithin urls l.stage × AreBelow records l.visited

-- of the fetched URLs only the one at this place has pending requests
abbrev pub OnlyLastHasPending : List Slot → List (List Waiting) → ℕ → Type 0
OnlyLastHasPending slots queues place = (k : ℕ) (s : Slot) (q : List Waiting)
    → slice_get slots k ≡ Some s → slice_get queues k ≡ Some q → is_open s.state ≡ false → (k ≡ place → ⊥) → q ≡ []

-- URLs differ, all places are those of URLs, and all ids are below this number
pub record AreJoined (l : Loads) (records : ℕ) : Type 0 where
  pub distinct : AreDistinct (urls_of l.urls.slots)
  pub usable : All IsUsable (urls_of l.urls.slots)
  pub few : length l.urls.slots ≤ MAX_URLS
  pub queues : length l.queues.queues ≡ length l.urls.slots
  pub counts : l.queues.loads ≡ length l.loads.items
  pub requests : All (All (IsWaitingWithin (length l.urls.slots))) l.queues.queues
  pub loads : All (IsLoadWithin (length l.urls.slots) records) l.loads.items
  pub last : OnlyLastHasPending l.urls.slots l.queues.queues l.delivered

-- ---- the tables and the records

-- the module with this id stands at this place
pub record IsModuleAt (slots : List Slot) (k id : ℕ) : Type 0 where
  pub slot : Slot
  pub at : slice_get slots k ≡ Some slot
  pub stands : slot.state ≡ states.Module (record { 0 = id })

-- the record with this id has this URL
pub record HasRecord (records : List RecordParts) (id : ℕ) (url : Url) : Type 0 where
  pub parts : RecordParts
  pub is : slice_get records id ≡ Some parts
  pub under : parts.url ≡ url

-- a text spells each of these trees
abbrev pub HaveTexts : List (List Item) → Type 0
HaveTexts trees = All AreSpelled trees

-- each module of the table has its record, under its URL
pub record HaveRecords (slots : List Slot) (records : List RecordParts) : Type 0 where
  pub kept : (k id : ℕ) (m : IsModuleAt slots k id) → HasRecord records id m.slot.url

-- the realm's records are just the modules of these loads' table, each under its URL, and each has its tree, which was read, and
-- the entries of that tree
pub record RecordsMatch (slots : List Slot) (trees : List (List Item)) (records : List RecordParts) : Type 0 where
  pub have : HaveRecords slots records
  pub known : (id : ℕ) (r : RecordParts) → slice_get records id ≡ Some r → (k : ℕ) × IsModuleAt slots k id
  pub as_many : length trees ≡ length records
  pub entries : (id : ℕ) (r : RecordParts) (tree : List Item)
      → slice_get records id ≡ Some r → slice_get trees id ≡ Some tree → r.entries ≡ entries_of tree
  pub spelled : HaveTexts trees

-- ---- all together

-- the loads fit the records, their indices are right, the places that are kept for targets are theirs, each load has a purpose, and no
-- more than MAX_IMPORT_CALLS calls of import() were begun
pub record FitRecords (l : Loads) (records : List RecordParts) : Type 0 where
  pub joined : AreJoined l (length records)
  pub matching : RecordsMatch l.urls.slots (trees_of l) records
  pub known : KnowTargets l.urls records
  pub purposes : length l.purposes.items ≡ length l.loads.items
  pub few_calls : l.import_calls ≤ MAX_IMPORT_CALLS

-- the URL isn't fetched
abbrev pub IsFetching : Loads → Url → Type 0
IsFetching l u = (k : ℕ) (s : Slot) → place_in (urls_of l.urls.slots) u ≡ Some k
    → slice_get l.urls.slots k ≡ Some s → is_open s.state ≡ true

-- ---- what a fetch brings

-- a module text brings one record more, which is New, and anything else none
abbrev pub records_with : List RecordParts → Url → Found → List RecordParts
records_with records url Nothing = records
records_with records url (Faulty f) = records
records_with records url (Script m) = records ++ new_record url (entries_of m.body) m.targets ∷ []
