-- The laws of turns and runs.
use Rattle.std.specs.Prelude.{◌≡◌, ◌≢◌, ◌⊎◌, ◌+◌, ◌<◌, Bool, true, false, List, [], ◌∷◌, ◌++◌, length, Some, is_some, Err}
use Rattle.esm_tree.specs.Syntax.{Item}
use Rattle.esm_import_map.specs.ImportMap.{Maps}
use Rattle.esm_base.specs.declared.limits.Limit.{Limit}
use Rattle.esm_base.specs.declared.limits.Limit.TheVariants.{L2}
use Rattle.esm_base.specs.declared.limits.TheConstants.{MAX_DELIVERED_BYTES, MAX_URLS}
use Rattle.esm_base.specs.declared.status.Status.TheVariants as statuses
use Rattle.esm_base.specs.Urls.{Url, has, same_url}
use Rattle.esm_ast.specs.Outcome.{OutcomeView}
use Rattle.esm_realm.specs.Laws.{AreDistinct}
use Rattle.esm_values.specs.Value.{Value}
use Rattle.esm_promise.specs.Promises.{Settled}
use Rattle.esm_loads.specs.Loading.{Loading}
use Rattle.esm_loads.specs.Arrival.{bytes_of}
use Rattle.esm_loads.specs.ImportCall.{BeginsImport}
use Rattle.esm_eval.specs.Nodes.{Call}
use Rattle.esm_eval.specs.Evaluate.{Evaluates}
use Rattle.esm_eval.specs.BodyEnd.{Fulfills}
use Rattle.esm_rewriting.specs.Bodies.{ResumesBody}
use Rattle.esm_rewriting.specs.State.{State}
use Rattle.esm_rewriting.specs.Keeps.{started}
use Rattle.esm_world.specs.World.{World, opening, stopped, modules_in, body_state, with_state}
use Rattle.esm_world.specs.Layers.{CallsForBody, evaluation}
use Rattle.esm_world.specs.Jobs.{Jobs}
use Rattle.esm_world.specs.Turn.{Tasks, Turn}
use Rattle.esm_world.specs.Run.{asks, Runs, IsAllowed, Shown, StandardRun}
use Rattle.esm_ast.specs.Deliveries.{Delivery}

-- a turn has at most one outcome
abbrev pub OneTurn : Type 0
OneTurn = (w one other : World) (u : Url) (c : OutcomeView) → Turn w u c one → Turn w u c other → one ≡ other

-- an allowed delivery has a turn, after any deliveries that are allowed
abbrev pub HasTurn : Type 0
HasTurn = (maps : Maps) (built : List Item → Bool) (entry : Url) (trace : Bool) (deliveries : List Delivery) (w : World) (d : Delivery)
    → Runs (opening maps built entry trace) deliveries w → IsAllowed w d → (after : World) × Turn w d.url d.outcome after

-- so an allowed list of deliveries has a standard run
abbrev pub HasStandardRun : Type 0
HasStandardRun = (maps : Maps) (built : List Item → Bool) (entry : Url) (trace : Bool) (deliveries : List Delivery) (w : World)
    → Runs (opening maps built entry trace) deliveries w → (what : Shown) × StandardRun maps built entry trace deliveries what

-- a turn keeps the import map, and which module texts can be run
abbrev pub KeepsMaps : Type 0
KeepsMaps = (w after : World) (u : Url) (c : OutcomeView) → Turn w u c after
    → (after.loading.maps ≡ w.loading.maps) × (after.loading.built ≡ w.loading.built)

-- a list of deliveries has at most one standard run
abbrev pub OneStandardRun : Type 0
OneStandardRun = (maps : Maps) (built : List Item → Bool) (entry : Url) (trace : Bool) (deliveries : List Delivery) (one other : Shown)
    → StandardRun maps built entry trace deliveries one → StandardRun maps built entry trace deliveries other → one ≡ other

-- no body begins twice
abbrev pub StartsOnce : Type 0
StartsOnce = (maps : Maps) (built : List Item → Bool) (entry : Url) (trace : Bool) (deliveries : List Delivery) (what : Shown)
    → StandardRun maps built entry trace deliveries what → AreDistinct (started what.events)

-- no URL is asked twice
abbrev pub AsksOnce : Type 0
AsksOnce = (maps : Maps) (built : List Item → Bool) (entry : Url) (trace : Bool) (deliveries : List Delivery) (what : Shown)
    → StandardRun maps built entry trace deliveries what → AreDistinct what.asked

-- what was asked stays asked, whatever is delivered behind it
abbrev pub AsksStay : Type 0
AsksStay = (maps : Maps) (built : List Item → Bool) (entry : Url) (trace : Bool) (deliveries more : List Delivery) (what after : Shown)
    (u : Url) → StandardRun maps built entry trace deliveries what → StandardRun maps built entry trace (deliveries ++ more) after
    → has what.asked u ≡ true → has after.asked u ≡ true

-- the URLs of these deliveries
abbrev pub urls_of : List Delivery → List Url
urls_of [] = []
urls_of (d ∷ ds) = d.url ∷ urls_of ds

-- an open ask was asked, and isn't delivered
abbrev pub OpenAsks : Type 0
OpenAsks = (maps : Maps) (built : List Item → Bool) (entry : Url) (trace : Bool) (deliveries : List Delivery) (what : Shown) (u : Url)
    → StandardRun maps built entry trace deliveries what → has what.asks u ≡ true
    → (has what.asked u ≡ true) × (has (urls_of deliveries) u ≡ false)

-- no URL is delivered twice
abbrev pub DeliversOnce : Type 0
DeliversOnce = (maps : Maps) (built : List Item → Bool) (entry : Url) (trace : Bool) (deliveries : List Delivery) (what : Shown)
    → StandardRun maps built entry trace deliveries what → AreDistinct (urls_of deliveries)

-- what is delivered was asked
abbrev pub DeliversOnlyAsked : Type 0
DeliversOnlyAsked = (maps : Maps) (built : List Item → Bool) (entry : Url) (trace : Bool) (deliveries : List Delivery) (what : Shown)
    (u : Url) → StandardRun maps built entry trace deliveries what → has (urls_of deliveries) u ≡ true → has what.asked u ≡ true

-- where no limit has stopped the run, each URL that was asked is an open ask or was delivered
abbrev pub DeliversAll : Type 0
DeliversAll = (maps : Maps) (built : List Item → Bool) (entry : Url) (trace : Bool) (deliveries : List Delivery) (what : Shown) (u : Url)
    → StandardRun maps built entry trace deliveries what → what.status ≢ Some statuses.Limit → has what.asked u ≡ true
    → (has what.asks u ≡ true) ⊎ (has (urls_of deliveries) u ≡ true)

-- while an ask is open there are fewer than 4,096 deliveries
abbrev pub FewDeliveries : Type 0
FewDeliveries = (maps : Maps) (built : List Item → Bool) (entry : Url) (trace : Bool) (deliveries : List Delivery) (what : Shown) (u : Url)
    → StandardRun maps built entry trace deliveries what → has what.asks u ≡ true → length deliveries < MAX_URLS

-- a run that a limit has stopped has no open ask
abbrev pub StoppedAsksNothing : Type 0
StoppedAsksNothing = (w : World) (limit : Limit) → stopped w ≡ Some limit → asks w ≡ []

-- where a limit has stopped, no job and no pending request goes on
pub record StopsAtOnce : Type 0 where
  pub jobs : (w after : World) (limit : Limit) → stopped w ≡ Some limit → Jobs w after → after ≡ w
  pub tasks : (w after : World) (limit : Limit) → stopped w ≡ Some limit → Tasks w after → after ≡ w

-- a delivery that passes 16,777,216 bytes counts its bytes and stops the world, and does nothing else
abbrev pub BytesStopFirst : Type 0
BytesStopFirst = (w after : World) (u : Url) (c : OutcomeView) → MAX_DELIVERED_BYTES < w.loading.bytes + bytes_of c → Turn w u c after
    → after ≡ record w { loading = record w.loading { bytes = w.loading.bytes + bytes_of c; stopped = Some L2 } }

-- a limit is told only where it has stopped the world: by a call for a body, an evaluation, what follows the end of a body, and a
-- body that goes on
pub record StopsAreTold : Type 0 where
  pub executes : (w after : World) (c : Call Url) (limit : Limit) → CallsForBody w c (Err limit) after → is_some (stopped after) ≡ true
  pub evaluates : (w after : World) (m : Url) (limit : Limit) → Evaluates evaluation CallsForBody w m (Err limit) after
      → is_some (stopped after) ≡ true
  pub fulfills : (w after : World) (m : Url) (limit : Limit) → Fulfills evaluation CallsForBody w m (Err limit) after
      → is_some (stopped after) ≡ true
  pub resumes : (w : World) (m : Url) (how : Settled (Value Url)) (limit : Limit) (s : State Url Loading)
      → ResumesBody same_url modules_in BeginsImport (body_state w) m how (Err limit) s → is_some (stopped (with_state w s)) ≡ true
