-- How a pending request is answered.
use Rattle.std.specs.Prelude.{◌≡◌, ℕ, ◌++◌, All, List, length, Some, Result, Err, true}
use Rattle.esm_base.specs.declared.end.End.{End}
use Rattle.esm_base.specs.declared.end.End.TheVariants.{Fault}
use Rattle.esm_base.specs.declared.limits.Limit.{Limit}
use Rattle.esm_base.specs.Urls.{Url}
use Rattle.esm_loads.specs.UrlTable.{TableEntry}
use Rattle.esm_loads.specs.Loading.{Loading, PendingRequest, finish}
use Rattle.esm_loads.specs.Load.{Enters, Answers}
use Rattle.esm_loads.specs.Hosted.{stopped_by}
use Rattle.esm_loads.specs.LoadsView.{is_open}
use Rattle.esm_loads.specs.Inner.Steps.{IsLoading}
use Rattle.esm_loads.specs.declared.data.Slot.{Slot}
use Rattle.esm_loads.specs.declared.data.Waiting.{Waiting}
use Rattle.esm_loads.specs.declared.data.Requester.{Requester}
use Rattle.esm_loads.specs.declared.data.Requester.TheVariants as requesters
use Rattle.esm_loads.specs.declared.loads.Loads.{Loads}

-- the load enters the module, and ends where it has no pending request
pub record Reaches (l : Loading) (s : ℕ) (t : Url) (after : Loading) : Type 0 where
  pub mid : Loading
  pub enters : Enters l s t mid
  pub finishes : after ≡ finish mid s

-- the load of a module's request goes on
abbrev pub MayGoOnBy : Loads → ℕ → Requester → Type 0
MayGoOnBy l s requesters.Root = Unit {0}
MayGoOnBy l s (requesters.Module referrer request) = IsLoading l s

abbrev pub MayGoOn : Loads → Waiting → Type 0
MayGoOn l w = MayGoOnBy l w.load w.requester

-- the request is answered with the entry of the URL
abbrev pub IsAnswered : Loading → PendingRequest → Url → Loading → Type 0
IsAnswered l a u after = (e : TableEntry) → l.entries u ≡ Some e → Answers l a u e after

-- where a limit ends the call, the loading that is left, stopped by it, is that of such an answer
abbrev pub StopsAnswer : {T : Type 0} → Result T (End Limit) → Loading → PendingRequest → Url → Loading → Type 0
StopsAnswer result l a u left = (limit : Limit) → result ≡ Err (Fault limit) → (e : TableEntry) → l.entries u ≡ Some e
    → Answers l a u e (stopped_by left limit)

-- some URLs more are asked for, and no module came; what belongs to other calls is the same
pub record KeepsUrls (old new : Loads) : Type 0 where
  pub more : List Slot
  pub slots : new.urls.slots ≡ old.urls.slots ++ more
  pub fetching : All (λ (s : Slot). is_open s.state ≡ true) more
  pub rest : new ≡ record old { urls = record new.urls { bytes = old.urls.bytes }; queues = new.queues; loads = new.loads }
  pub loads : length new.loads.items ≡ length old.loads.items
