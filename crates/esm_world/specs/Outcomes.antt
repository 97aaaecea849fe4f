-- Where each single job and each single answer has an outcome, each allowed delivery has a turn: tasks and jobs come to an end.
use Rattle.std.specs.Prelude.{◌≡◌, Bool, List, Some, None}
use Rattle.esm_base.specs.Urls.{Url}
use Rattle.esm_tree.specs.Syntax.{Item}
use Rattle.esm_import_map.specs.ImportMap.{Maps}
use Rattle.esm_values.specs.Value.{Value}
use Rattle.esm_promise.specs.Promises.{Promises, Settled, Job, next_job, settled}
use Rattle.esm_promise.specs.Reactions.{Reaction}
use Rattle.esm_loads.specs.Host.{Host}
use Rattle.esm_loads.specs.Arrival.{Next, next, AnswersNext}
use Rattle.esm_world.specs.World.{World, host_of, with_host, opening, stopped}
use Rattle.esm_world.specs.Layers.{with_promises}
use Rattle.esm_world.specs.Jobs.{Reacts}
use Rattle.esm_world.specs.Turn.{fetched}
use Rattle.esm_world.specs.Run.{IsAllowed}
use Rattle.esm_ast.specs.Deliveries.{Delivery}
use Rattle.esm_world.specs.Laws.{HasTurn}

-- these worlds fit
module _ (Fits : World → Type 0) where
  -- the world fits, unless a limit has stopped it
  abbrev pub FitsUnlessStopped : World → Type 0
  FitsUnlessStopped w = stopped w ≡ None → Fits w

  -- an outcome of the job, where these promises are left
  pub record JobOutcome (w : World) (j : Job (Reaction Url)) (left : Promises (Reaction Url) (Value Url)) : Type 0 where
    pub how : Settled (Value Url)
    pub settled_so : settled left j.promise ≡ Some how
    pub after : World
    pub reacts : Reacts (with_promises w left) j.reaction how after
    pub fits : FitsUnlessStopped after

  -- an outcome of the next answer to a pending request
  pub record AnswerOutcome (w : World) : Type 0 where
    pub host : Host
    pub answers : AnswersNext (host_of w) host
    pub fits : FitsUnlessStopped (with_host w host)

  -- a run begins in a world that fits, and in each world that fits a step has an outcome that fits
  pub record StepsHaveOutcomes : Type 0 where
    pub opens : (maps : Maps) (built : List Item → Bool) (entry : Url) (trace : Bool) → Fits (opening maps built entry trace)
    pub fetches : (w : World) (d : Delivery) → Fits w → IsAllowed w d → (fetched w d.url d.outcome).loading.stopped ≡ None
        → Fits (fetched w d.url d.outcome)
    pub answer : (w : World) (n : Next) → Fits w → stopped w ≡ None → next w.loading ≡ Some n → AnswerOutcome w
    pub job : (w : World) (j : Job (Reaction Url)) (left : Promises (Reaction Url) (Value Url)) → Fits w → stopped w ≡ None
        → next_job w.promises ≡ Some (j, left) → JobOutcome w j left

  abbrev pub TurnsEnd : Type 0
  TurnsEnd = StepsHaveOutcomes → HasTurn
