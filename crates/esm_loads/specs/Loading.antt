-- The state that loading reads and writes, and its single steps.
use Rattle.std.specs.Prelude.{ℕ, Bool, true, false, not, ◌||◌, ◌==◌, nat_lt, List, [], ◌∷◌, ◌++◌, length, slice_get, slice_set, Option, Some, None}
use Rattle.std.specs.List.{list_any}
use Rattle.esm_tree.specs.Syntax.{Item}
use Rattle.esm_base.specs.declared.limits.Limit.{Limit}
use Rattle.esm_base.specs.declared.limits.Limit.TheVariants.{L1}
use Rattle.esm_base.specs.declared.limits.TheConstants.{MAX_URLS}
use Rattle.esm_base.specs.Urls.{Url, has}
use Rattle.esm_import_map.specs.ImportMap.{Maps}
use Rattle.esm_loads.specs.UrlTable.{Entries, no_entries, Throw, put_at, with_url, no_urls, targets_in, body_in}

-- a request for a URL that isn't answered yet: of a load for its root, or of a load for the i-th request of a module
pub data PendingRequest : Type 0 where
  Root : (load : ℕ) → PendingRequest
  Request : (load : ℕ) (x : Url) (i : ℕ) → PendingRequest

-- the load that the request is of
abbrev pub load_of : PendingRequest → ℕ
load_of (Root s) = s
load_of (Request s x i) = s

-- ECMA-262, GraphLoadingState Records. It keeps no count: its pending requests are counted where that is needed
pub data LoadState : Type 0 where
  -- its root was asked for
  Asked : LoadState
  -- it has visited these modules
  Open : (root : Url) (visited : Url → Bool) → LoadState
  -- it has ended, and all modules that its root reaches are loaded
  LoadComplete : (root : Url) → LoadState
  -- it has ended by a throw
  Thrown : (thrown : Throw) → LoadState

-- what a load is for. ECMA-262, the payload of HostLoadImportedModule, and [[PromiseCapability]] of a GraphLoadingState Record
pub data Purpose : Type 0 where
  -- the entry, with the promise that the end of the load settles
  ForEntry : (promise : ℕ) → Purpose
  -- an import(), with its promise, and with that of its load once its root is there
  ForImport : (promise : ℕ) (load : Option ℕ) → Purpose

pub record Loading : Type 0 where
  -- the import map, which never changes
  pub maps : Maps
  -- own: which module texts can be run, which never changes
  pub built : List Item → Bool
  -- the URLs asked, in order of asking
  pub asked : List Url
  -- the entries of the fetched ones
  pub entries : Entries
  -- the pending requests of each URL, in order of asking
  pub pending : Url → List PendingRequest
  pub loads : List LoadState
  -- what each load is for
  pub purposes : List Purpose
  -- the modules that have become Unlinked; all others are New
  pub unlinked : Url → Bool
  -- how many bytes were delivered
  pub bytes : ℕ
  -- how many calls of import() were begun
  pub import_calls : ℕ
  pub stopped : Option Limit

abbrev pub no_pending : Url → List PendingRequest
no_pending = λ u. []

-- nothing is asked yet but the entry, by the first load, whose end settles this promise
abbrev pub opening_loading : Maps → (List Item → Bool) → Url → ℕ → Loading
opening_loading maps built entry promise = record {
  maps = maps;
  built = built;
  asked = entry ∷ [];
  entries = no_entries;
  pending = put_at no_pending entry (Root 0 ∷ []);
  loads = Asked ∷ [];
  purposes = ForEntry promise ∷ [];
  unlinked = no_urls;
  bytes = 0;
  import_calls = 0;
  stopped = None;
}

-- the URLs of a module's requests
abbrev pub targets : Loading → Url → List Url
targets l x = targets_in (l.entries x)

-- the items of a module
abbrev pub body : Loading → Url → List Item
body l x = body_in (l.entries x)

-- ---- the states of loads

abbrev pub is_of : ℕ → PendingRequest → Bool
is_of s a = load_of a == s

-- the load has a pending request
abbrev pub has_pending : Loading → ℕ → Bool
has_pending l s = list_any (λ u. list_any (is_of s) (l.pending u)) l.asked

-- the root and the visited modules of a load that goes on
abbrev pub OpenLoad : Type 0
OpenLoad = Url × (Url → Bool)

abbrev pub open_load_in : Option Limit → Option LoadState → Option OpenLoad
open_load_in None (Some (Open root visited)) = Some (root, visited)
open_load_in _ _ = None

-- none where it hasn't begun, has ended, or a limit has stopped loading
abbrev pub open_load : Loading → ℕ → Option OpenLoad
open_load l s = open_load_in l.stopped (slice_get l.loads s)

-- the load begins: nothing is visited
abbrev pub begin : Loading → ℕ → Url → Loading
begin l s root = record l { loads = slice_set l.loads s (Open root no_urls) }

-- the module is New and not visited
abbrev pub is_fresh : Loading → (Url → Bool) → Url → Bool
is_fresh l visited x = not (visited x || l.unlinked x)

abbrev pub visit : Loading → ℕ → OpenLoad → Url → Loading
visit l s o x = record l { loads = slice_set l.loads s (Open o.0 (with_url o.1 x)) }

-- the load ends by a throw
abbrev pub throw : Loading → ℕ → Throw → Loading
throw l s thrown = record l { loads = slice_set l.loads s (Thrown thrown) }

abbrev pub finish_by : Bool → Option OpenLoad → Loading → ℕ → Loading
finish_by is_pending None l s = l
finish_by true (Some o) l s = l
finish_by false (Some o) l s = record l {
  loads = slice_set l.loads s (LoadComplete o.0);
  unlinked = λ u. l.unlinked u || o.1 u;
}

-- a load that goes on and has no pending request left ends: its visited New modules become Unlinked
abbrev pub finish : Loading → ℕ → Loading
finish l s = finish_by (has_pending l s) (open_load l s) l s

-- ---- asking

-- the request waits behind the others of its URL
abbrev pub add_pending : Loading → Url → PendingRequest → Loading
add_pending l u a = record l { pending = put_at l.pending u (l.pending u ++ a ∷ []) }

abbrev pub ask_by : Bool → Bool → Loading → Url → PendingRequest → Loading
ask_by true room l u a = add_pending l u a
ask_by false true l u a = add_pending (record l { asked = l.asked ++ u ∷ [] }) u a
ask_by false false l u a = record l { stopped = Some L1 }

-- the URL is asked for, unless it was, and the request is pending. own: no more than MAX_URLS URLs are asked
abbrev pub ask : Loading → Url → PendingRequest → Loading
ask l u a = ask_by (has l.asked u) (nat_lt (length l.asked) MAX_URLS) l u a

-- ---- what is asked of loads

abbrev pub is_fetching : {E : Type 0} → Option E → Bool
is_fetching None = true
is_fetching (Some e) = false

abbrev pub root_in : Option LoadState → Option Url
root_in (Some (LoadComplete root)) = Some root
root_in _ = None

-- the root of a load that has ended with all modules loaded
abbrev pub root_of_load : Loading → ℕ → Option Url
root_of_load l s = root_in (slice_get l.loads s)

abbrev pub import_promise_in : Option Purpose → Option ℕ
import_promise_in (Some (ForImport promise load)) = Some promise
import_promise_in _ = None

-- the promise of the import() that a load is for
abbrev pub import_promise : Loading → ℕ → Option ℕ
import_promise l s = import_promise_in (slice_get l.purposes s)
