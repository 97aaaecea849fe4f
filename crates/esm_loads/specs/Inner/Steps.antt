-- The steps of loading on its tables.
use Rattle.std.specs.Prelude.{◌≡◌, ℕ, suc, zero, ◌++◌, ◌≤◌, Bool, true, false, All, List, [], ◌∷◌, length, slice_get, Option, Some, None}
use Rattle.std.specs.Vec.{with_item}
use Rattle.esm_base.specs.Urls.{Url}
use Rattle.esm_loads.specs.LoadsView.{is_open, is_in, LoadView}
use Rattle.esm_loads.specs.Inner.Urls.{open_slot}
use Rattle.esm_loads.specs.Inner.Requests.{push_at}
use Rattle.esm_loads.specs.declared.data.Slot.{Slot}
use Rattle.esm_loads.specs.declared.data.UrlState.{UrlState}
use Rattle.esm_loads.specs.declared.data.UrlState.TheVariants as states
use Rattle.esm_loads.specs.declared.data.TargetState.{TargetState}
use Rattle.esm_loads.specs.declared.data.TargetState.TheVariants as targets
use Rattle.esm_loads.specs.declared.data.Stage.{Stage}
use Rattle.esm_loads.specs.declared.data.Stage.TheVariants as stages
use Rattle.esm_loads.specs.declared.data.Cause.TheVariants as causes
use Rattle.esm_loads.specs.declared.data.Waiting.{Waiting}
use Rattle.esm_loads.specs.declared.loads.Loads.{Loads}

abbrev pub add_url : Loads → Url → Loads
add_url l url = record l {
  urls = record l.urls { slots = l.urls.slots ++ open_slot url ∷ [] };
  queues = record l.queues { queues = l.queues.queues ++ [] ∷ [] };
}

-- the URL, which has this place, is asked for, unless it was
abbrev pub with_asked : Loads → Url → Option ℕ → Loads
with_asked l url None = add_url l url
with_asked l url (Some place) = l

abbrev pub place_or : Loads → Option ℕ → ℕ
place_or l None = length l.urls.slots
place_or l (Some place) = place

abbrev pub add_waiting : Loads → ℕ → Waiting → Loads
add_waiting l place w = record l { queues = record l.queues { queues = push_at l.queues.queues place w } }

abbrev pub set_load : Loads → ℕ → LoadView → Loads
set_load l s v = record l { loads = with_item l.loads s v }

abbrev pub with_places : Loads → List ℕ → Loads
with_places l places = record l { urls = record l.urls { places = places } }

abbrev pub target_of : ℕ → UrlState → TargetState
target_of place states.Open = targets.Fetching
target_of place states.Failed = targets.Throws (causes.Unfetched place)
target_of place (states.Broken error) = targets.Throws (causes.Kept error)
target_of place (states.Module id) = targets.Module place id

abbrev pub target_by : ℕ → Option Slot → TargetState
target_by place None = targets.Fetching
target_by place (Some s) = target_of place s.state

-- how the URL at a place stands
abbrev pub target_at : List Slot → Option ℕ → TargetState
target_at slots None = targets.Fetching
target_at slots (Some place) = target_by place (slice_get slots place)

abbrev pub is_open_stage : Stage → Bool
is_open_stage stages.Asked = false
is_open_stage (stages.Open root) = true
is_open_stage (stages.Complete root) = false
is_open_stage (stages.Thrown cause) = false

-- the load goes on
pub record IsLoading (l : Loads) (s : ℕ) : Type 0 where
  pub load : LoadView
  pub root : ℕ
  pub at : slice_get l.loads.items s ≡ Some load
  pub open_is : load.stage ≡ stages.Open root

-- ---- the measure of entering

abbrev pub fresh_by : Bool → ℕ → ℕ
fresh_by true n = n
fresh_by false n = suc n

-- how many ids below this number aren't visited
abbrev pub fresh_below : ℕ → List ℕ → ℕ
fresh_below zero visited = 0
fresh_below (suc n) visited = fresh_by (is_in visited n) (fresh_below n visited)

abbrev pub visited_by : Option LoadView → List ℕ
visited_by None = []
visited_by (Some v) = v.visited

abbrev pub freshness : ℕ → ℕ → Loads → ℕ
freshness records s l = fresh_below records (visited_by (slice_get l.loads.items s))

-- some URLs more are asked for, no module came, and the load has visited no fewer
pub record Grown (records s : ℕ) (old new : Loads) : Type 0 where
  pub more : List Slot
  pub slots : new.urls.slots ≡ old.urls.slots ++ more
  pub fetching : All (λ (s : Slot). is_open s.state ≡ true) more
  pub rest : new ≡ record old { urls = record new.urls { bytes = old.urls.bytes }; queues = new.queues; loads = new.loads }
  pub bytes : new.urls.bytes ≡ old.urls.bytes
  pub loads : length new.loads.items ≡ length old.loads.items
  pub fresh : freshness records s new ≤ freshness records s old
