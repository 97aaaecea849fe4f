-- What stands under URLs, requests and loads, as the tables of the code have them.
use Rattle.std.specs.Prelude.{ℕ, suc, Bool, true, false, List, [], ◌∷◌, map, slice_get, slice_index_or, Option, Some, None, option_map, nat_eq}
use Rattle.std.specs.List.{list_any}
use Rattle.std.specs.Arc.{arc_value}
use Rattle.std.specs.declared.alloc.Global.{Global}
use Rattle.std.specs.declared.sync.Arc.{Arc}
use Rattle.esm_tree.specs.Syntax.{Item, Parts}
use Rattle.esm_base.specs.Urls.{Url, same_url}
use Rattle.esm_base.specs.declared.module_id.ModuleId.{ModuleId}
use Rattle.esm_realm.specs.Sound.{RecordParts}
use Rattle.esm_realm.specs.declared.record.ModuleStatus.{ModuleStatus}
use Rattle.esm_realm.specs.declared.record.ModuleStatus.TheVariants.{New, Unlinked, Linking, Linked}
use Rattle.esm_loads.specs.UrlTable.{TableEntry, Entries, Failed, Broken, Module, Throw, fetch_error}
use Rattle.esm_loads.specs.UrlTable as table
use Rattle.esm_loads.specs.Loading as loading
use Rattle.esm_loads.specs.Loading.{PendingRequest, Root, Request, LoadState}
use Rattle.esm_loads.specs.declared.data.Slot.{Slot}
use Rattle.esm_loads.specs.declared.data.UrlState.{UrlState}
use Rattle.esm_loads.specs.declared.data.UrlState.TheVariants as states
use Rattle.esm_loads.specs.declared.data.Waiting.{Waiting}
use Rattle.esm_loads.specs.declared.data.Requester.{Requester}
use Rattle.esm_loads.specs.declared.data.Requester.TheVariants as requesters
use Rattle.esm_loads.specs.declared.data.Stage.{Stage}
use Rattle.esm_loads.specs.declared.data.Stage.TheVariants as stages
use Rattle.esm_loads.specs.declared.data.Cause.{Cause}
use Rattle.esm_loads.specs.declared.data.Cause.TheVariants as causes
use Rattle.esm_loads.specs.declared.data.Purpose.{Purpose}
use Rattle.esm_loads.specs.declared.data.Purpose.TheVariants as purposes
use Rattle.esm_values.specs.declared.value.PromiseId.{PromiseId}

-- each module text can be run
abbrev pub every_form : List Item → Bool
every_form items = true

-- the items of a shared tree
abbrev pub tree_items : Arc Parts Global → List Item
tree_items tree = (arc_value tree).items

-- ---- places of URLs

abbrev pub url_of_slot : Slot → Url
url_of_slot s = s.url

-- the asked URLs
abbrev pub urls_of : List Slot → List Url
urls_of slots = map url_of_slot slots

-- the URL at a place
abbrev pub url_at : List Url → ℕ → Url
url_at urls k = slice_index_or urls k []

abbrev pub place_by : Bool → Option ℕ → Option ℕ
place_by true later = Some 0
place_by false later = option_map suc later

-- the place of a URL
abbrev pub place_in : List Url → Url → Option ℕ
place_in [] u = None
place_in (v ∷ vs) u = place_by (same_url u v) (place_in vs u)

abbrev pub get_by : {A : Type 0} → List A → Option ℕ → Option A
get_by xs None = None
get_by xs (Some k) = slice_get xs k

-- what stands in the list at the place of the URL
abbrev pub at_url : {A : Type 0} → List Url → List A → Url → Option A
at_url urls xs u = get_by xs (place_in urls u)

-- ---- what stands under the URLs

abbrev pub is_open : UrlState → Bool
is_open states.Open = true
is_open states.Failed = false
is_open (states.Broken error) = false
is_open (states.Module id) = false

abbrev pub tree_at : List (List Item) → ℕ → List Item
tree_at trees id = slice_index_or trees id []

abbrev pub module_of : List Item → Option RecordParts → Option TableEntry
module_of tree None = None
module_of tree (Some r) = Some (Module (record { body = tree; targets = r.targets }))

-- the entry of a URL in this state: of a module the tree and the targets with its id
abbrev pub entry_at : List (List Item) → List RecordParts → UrlState → Option TableEntry
entry_at trees records states.Open = None
entry_at trees records states.Failed = Some Failed
entry_at trees records (states.Broken error) = Some (Broken error.0)
entry_at trees records (states.Module id) = module_of (tree_at trees id.0) (slice_get records id.0)

abbrev pub entry_by : List (List Item) → List RecordParts → Option Slot → Option TableEntry
entry_by trees records None = None
entry_by trees records (Some s) = entry_at trees records s.state

abbrev pub entries_in : List (List Item) → List RecordParts → List Slot → Entries
entries_in trees records slots = λ u. entry_by trees records (at_url (urls_of slots) slots u)

-- ---- modules by their ids

abbrev pub id_in : UrlState → Option ℕ
id_in states.Open = None
id_in states.Failed = None
id_in (states.Broken error) = None
id_in (states.Module id) = Some id.0

abbrev pub id_by : Option Slot → Option ℕ
id_by None = None
id_by (Some s) = id_in s.state

-- the id of the module under a URL
abbrev pub id_under : List Slot → Url → Option ℕ
id_under slots u = id_by (at_url (urls_of slots) slots u)

abbrev pub has_id : (ℕ → Bool) → Option ℕ → Bool
has_id set None = false
has_id set (Some id) = set id

-- a set of modules, given by their ids
abbrev pub modules_in : List Slot → (ℕ → Bool) → Url → Bool
modules_in slots set = λ u. has_id set (id_under slots u)

abbrev pub is_in : List ℕ → ℕ → Bool
is_in ids id = list_any (nat_eq id) ids

abbrev pub is_past_new : ModuleStatus → Bool
is_past_new New = false
is_past_new _ = true

abbrev pub is_unlinked_by : Option RecordParts → Bool
is_unlinked_by None = false
is_unlinked_by (Some r) = is_past_new r.status

abbrev pub is_unlinked : List RecordParts → ℕ → Bool
is_unlinked records id = is_unlinked_by (slice_get records id)

-- New and Unlinked are one status here
abbrev pub status_before_linking : ModuleStatus → ModuleStatus
status_before_linking New = New
status_before_linking Unlinked = New
status_before_linking Linking = Linking
status_before_linking Linked = Linked

-- what requests have loaded, where the module is past Unlinked
abbrev pub loaded_before_linking : ModuleStatus → List (Option ModuleId) → List (Option ModuleId)
loaded_before_linking New loaded = []
loaded_before_linking Unlinked loaded = []
loaded_before_linking Linking loaded = loaded
loaded_before_linking Linked loaded = loaded

-- a record, but for whether it is New or Unlinked, and for what its requests have loaded where it is one of these
abbrev pub before_linking : RecordParts → RecordParts
before_linking r = record r {
  loaded = loaded_before_linking r.status r.loaded;
  status = status_before_linking r.status;
}

-- ---- requests and loads

abbrev pub request_by : List Url → ℕ → Requester → PendingRequest
request_by urls load requesters.Root = Root load
request_by urls load (requesters.Module referrer request) = Request load (url_at urls referrer) request

abbrev pub request_of : List Url → Waiting → PendingRequest
request_of urls w = request_by urls w.load w.requester

abbrev pub requests_in : List Url → Option (List Waiting) → List PendingRequest
requests_in urls None = []
requests_in urls (Some queue) = map (request_of urls) queue

-- the pending requests of each URL, where each has its queue
abbrev pub pending_in : List Url → List (List Waiting) → Url → List PendingRequest
pending_in urls queues = λ u. requests_in urls (at_url urls queues u)

abbrev pub throw_of : List Url → Cause → Throw
throw_of urls (causes.Unfetched place) = table.New (fetch_error (url_at urls place))
throw_of urls (causes.Kept error) = table.Kept error.0

abbrev pub state_of : List Slot → Stage → List ℕ → LoadState
state_of slots stages.Asked visited = loading.Asked
state_of slots (stages.Open root) visited = loading.Open (url_at (urls_of slots) root) (modules_in slots (is_in visited))
state_of slots (stages.Complete root) visited = loading.LoadComplete (url_at (urls_of slots) root)
state_of slots (stages.Thrown cause) visited = loading.Thrown (throw_of (urls_of slots) cause)

-- a load: how far it has come, and the ids of the modules that it has visited, in order
pub record LoadView : Type 0 where
  pub stage : Stage
  pub visited : List ℕ

abbrev pub load_state : List Slot → LoadView → LoadState
load_state slots l = state_of slots l.stage l.visited

abbrev pub promise_id : Option PromiseId → Option ℕ
promise_id None = None
promise_id (Some p) = Some p.0

abbrev pub purpose_of : Purpose → loading.Purpose
purpose_of (purposes.ForEntry promise) = loading.ForEntry promise.0
purpose_of (purposes.ForImport promise load) = loading.ForImport promise.0 (promise_id load)
