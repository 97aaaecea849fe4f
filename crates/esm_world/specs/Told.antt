-- What the promise of a load tells: it is settled by the end of that load alone, so the job of a reaction to it finds the load ended.
-- own, as far as no algorithm is named
use Rattle.std.specs.Prelude.{◌≡◌, ◌<◌, ℕ, Bool, List, slice_get, Option, Some, None, ⊤}
use Rattle.std.specs.List.{AllByRecursion}
use Rattle.esm_tree.specs.Syntax.{Item}
use Rattle.esm_base.specs.Urls.{Url}
use Rattle.esm_ast.specs.Outcome.{OutcomeView}
use Rattle.esm_import_map.specs.ImportMap.{Maps}
use Rattle.esm_values.specs.Value.{Value}
use Rattle.esm_promise.specs.Promises.{Promises, Settled, Fulfilled, Rejected, Pending, Job, next_promise, next_job, settled}
use Rattle.esm_promise.specs.Reactions.{Reaction, Await, BodyEnd, Loaded, Evaluated, EntryLoaded, EntryDone}
use Rattle.esm_loads.specs.Loading.{Loading, LoadState, LoadComplete, Thrown, Purpose, ForEntry, ForImport, root_of_load, import_promise}
use Rattle.esm_loads.specs.Host.{Host}
use Rattle.esm_loads.specs.Owed.{OwesPromises}
use Rattle.esm_loads.specs.Arrival.{AnswersNext}
use Rattle.esm_loads.specs.Laws.{IsOrderly}
use Rattle.esm_rewriting.specs.State.{Standing}
use Rattle.esm_world.specs.World.{World, opening, stopped, host_of, with_host}
use Rattle.esm_world.specs.Layers.{with_promises}
use Rattle.esm_world.specs.Jobs.{Reacts}
use Rattle.esm_world.specs.Turn.{fetched}
use Rattle.esm_world.specs.Run.{IsAllowed, Runs}
use Rattle.esm_ast.specs.Deliveries.{Delivery}

-- ---- the promises of loads

-- a load that an import() began has two promises: that of the import(), and its own. The entry's load has its own alone
pub data Whose : Type 0 where
  OfImport : Whose
  Own : Whose

-- the promise that the end of the load settles, once its root is there. ECMA-262, [[PromiseCapability]] of a GraphLoadingState Record
abbrev pub own_promise_in : Option Purpose → Option ℕ
own_promise_in (Some (ForEntry promise)) = Some promise
own_promise_in (Some (ForImport promise load)) = load
own_promise_in None = None

abbrev pub load_promise : Loading → ℕ → Whose → Option ℕ
load_promise l s OfImport = import_promise l s
load_promise l s Own = own_promise_in (slice_get l.purposes s)

-- the promise was made, and belongs to no load: evaluation and bodies settle such promises alone
pub record IsFree (l : Loading) (ps : Promises (Reaction Url) (Value Url)) (p : ℕ) : Type 0 where
  pub made : p < next_promise ps
  pub apart : (s : ℕ) (whose : Whose) → load_promise l s whose ≡ Some p → ⊥

-- ---- what is settled

-- a load that is in this state settled its promise so: fulfilled where it is complete, rejected where it threw
abbrev pub HasSettled : Option LoadState → Settled (Value Url) → Type 0
HasSettled (Some (LoadComplete root)) (Fulfilled v) = ⊤
HasSettled (Some (Thrown thrown)) (Rejected v) = ⊤
HasSettled _ _ = ⊥

-- the load of an import() is complete
pub record HasLoaded (l : Loading) (s : ℕ) : Type 0 where
  pub promise : ℕ
  pub load : ℕ
  pub root : Url
  pub purpose : slice_get l.purposes s ≡ Some (ForImport promise (Some load))
  pub is_root : root_of_load l s ≡ Some root

-- the reaction may stand on this promise: a reaction to the end of a load stands on the promise of that load
abbrev pub MayStandOn : Loading → ℕ → Reaction Url → Type 0
MayStandOn l p (Await m) = ⊤
MayStandOn l p (BodyEnd m) = ⊤
MayStandOn l p (Loaded s) = (promise : ℕ) × (slice_get l.purposes s ≡ Some (ForImport promise (Some p)))
MayStandOn l p (Evaluated s) = HasLoaded l s
MayStandOn l p EntryLoaded = slice_get l.purposes 0 ≡ Some (ForEntry p)
MayStandOn l p EntryDone = ⊤

pub record AreToldOf (l : Loading) (ps : Promises (Reaction Url) (Value Url)) : Type 0 where
  -- each promise of a load was made, and is the promise of one load, and that of its import() or its own
  pub made : (s p : ℕ) (whose : Whose) → load_promise l s whose ≡ Some p → p < next_promise ps
  pub once : (s k p : ℕ) (whose other : Whose) → load_promise l s whose ≡ Some p → load_promise l k other ≡ Some p
      → (s ≡ k) × (whose ≡ other)
  -- where reactions stand, and those in jobs stood
  pub reactions : (p : ℕ) (rs : List (Reaction Url)) → slice_get ps.all p ≡ Some (Pending rs) → AllByRecursion (MayStandOn l p) rs
  pub jobs : AllByRecursion (λ (j : Job (Reaction Url)). MayStandOn l j.promise j.reaction) ps.jobs
  -- what settled a load's own promise is the end of that load
  pub ended : (s p : ℕ) (how : Settled (Value Url)) → load_promise l s Own ≡ Some p → settled ps p ≡ Some how
      → HasSettled (slice_get l.loads s) how

-- of what loading and bodies share; and the promise that a load has still to settle is pending
pub record IsHostTold (h : Host) : Type 0 where
  pub orderly : IsOrderly h.imports
  pub owes : OwesPromises h
  pub told : AreToldOf h.imports h.promises

pub record AreTold (w : World) : Type 0 where
  pub host : IsHostTold (host_of w)
  -- no promise of an evaluation belongs to a load, nor does one that the end of a body settles
  pub nodes : (u : Url) (p : ℕ) → (w.nodes u).promise ≡ Some p → IsFree w.loading w.promises p
  pub standing : AllByRecursion (λ (s : Standing Url). IsFree w.loading w.promises s.done) w.engine.standing

-- ---- what a job's promise tells

-- what the job of the reaction needs to know of its load, where its promise was settled so
abbrev pub IsTold : Loading → Reaction Url → Settled (Value Url) → Type 0
IsTold l EntryLoaded (Fulfilled v) = (root : Url) × (root_of_load l 0 ≡ Some root)
IsTold l (Loaded s) (Fulfilled v) = (promise : ℕ) × (root : Url) × (import_promise l s ≡ Some promise) × (root_of_load l s ≡ Some root)
IsTold l (Loaded s) (Rejected v) = (promise : ℕ) × (import_promise l s ≡ Some promise)
IsTold l (Evaluated s) how = (promise : ℕ) × (root : Url) × (import_promise l s ≡ Some promise) × (root_of_load l s ≡ Some root)
IsTold l _ how = ⊤

-- that holds of the opening world, each step keeps it, and then the promise of each job tells what the job needs
pub record StaysTold : Type 0 where
  pub opens : (maps : Maps) (built : List Item → Bool) (entry : Url) (trace : Bool) → AreTold (opening maps built entry trace)
  pub fetches : (w : World) (d : Delivery) → AreTold w → IsAllowed w d → AreTold (fetched w d.url d.outcome)
  pub answers : (w : World) (h : Host) → AreTold w → stopped w ≡ None → AnswersNext (host_of w) h → AreTold (with_host w h)
  pub told : (w : World) (j : Job (Reaction Url)) (left : Promises (Reaction Url) (Value Url)) (how : Settled (Value Url))
      → AreTold w → next_job w.promises ≡ Some (j, left) → settled left j.promise ≡ Some how → IsTold w.loading j.reaction how
  pub reacts : (w after : World) (j : Job (Reaction Url)) (left : Promises (Reaction Url) (Value Url)) (how : Settled (Value Url))
      → AreTold w → next_job w.promises ≡ Some (j, left) → settled left j.promise ≡ Some how
      → Reacts (with_promises w left) j.reaction how after → AreTold after

-- and a load that is complete stays complete, with its root
pub record StaysComplete : Type 0 where
  pub fetches : (w : World) (u : Url) (c : OutcomeView) (s : ℕ) (root : Url) → root_of_load w.loading s ≡ Some root
      → root_of_load (fetched w u c).loading s ≡ Some root
  pub answers : (w : World) (h : Host) (s : ℕ) (root : Url) → AreTold w → stopped w ≡ None → AnswersNext (host_of w) h
      → root_of_load w.loading s ≡ Some root → root_of_load h.imports s ≡ Some root
  pub reacts : (w after : World) (j : Job (Reaction Url)) (left : Promises (Reaction Url) (Value Url)) (how : Settled (Value Url))
      (s : ℕ) (root : Url) → AreTold w → next_job w.promises ≡ Some (j, left) → settled left j.promise ≡ Some how
      → Reacts (with_promises w left) j.reaction how after → root_of_load w.loading s ≡ Some root
      → root_of_load after.loading s ≡ Some root

-- so each world of a run is so
abbrev pub RunsAreTold : Type 0
RunsAreTold = (maps : Maps) (built : List Item → Bool) (entry : Url) (trace : Bool) (deliveries : List Delivery) (w : World)
    → Runs (opening maps built entry trace) deliveries w → AreTold w
