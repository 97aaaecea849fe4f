-- Bodies that stand at an await, and the reactions that let them go on. own
use Rattle.std.specs.Prelude.{◌≡◌, ◌≤◌, ℕ, ◌+◌, Bool, true, false, cond, List, [], ◌∷◌, is_some, Some}
use Rattle.std.specs.List.{AllByRecursion}
use Rattle.esm_tree.specs.Syntax.{Item}
use Rattle.esm_import_map.specs.ImportMap.{Maps}
use Rattle.esm_base.specs.Urls.{Url, same_url}
use Rattle.esm_ast.specs.Outcome.{OutcomeView}
use Rattle.esm_values.specs.Value.{Value}
use Rattle.esm_promise.specs.Promises.{Promise, Pending, Done, Promises, Settled, Job, next_job, settled}
use Rattle.esm_promise.specs.Reactions.{Reaction, Await}
use Rattle.esm_loads.specs.Host.{Host}
use Rattle.esm_loads.specs.Arrival.{AnswersNext}
use Rattle.esm_rewriting.specs.State.{Standing}
use Rattle.esm_rewriting.specs.Bodies.{Taken, take_standing}
use Rattle.esm_world.specs.World.{World, opening, host_of, with_host}
use Rattle.esm_world.specs.Layers.{with_promises}
use Rattle.esm_world.specs.Jobs.{Reacts}
use Rattle.esm_world.specs.Turn.{fetched}
use Rattle.esm_ast.specs.Deliveries.{Delivery}
use Rattle.esm_world.specs.Run.{Runs}

-- of this module
module _ (m : Url) where
  -- the reaction lets the body of the module go on
  abbrev pub is_await : Reaction Url → Bool
  is_await (Await x) = same_url x m
  is_await _ = false

  abbrev pub awaits_among : List (Reaction Url) → ℕ
  awaits_among [] = 0
  awaits_among (r ∷ rs) = cond (is_await r) 1 0 + awaits_among rs

  abbrev pub awaits_on : Promise (Reaction Url) (Value Url) → ℕ
  awaits_on (Pending reactions) = awaits_among reactions
  awaits_on (Done how) = 0

  abbrev pub awaits_pending : List (Promise (Reaction Url) (Value Url)) → ℕ
  awaits_pending [] = 0
  awaits_pending (p ∷ ps) = awaits_on p + awaits_pending ps

  abbrev pub awaits_in_jobs : List (Job (Reaction Url)) → ℕ
  awaits_in_jobs [] = 0
  awaits_in_jobs (j ∷ js) = cond (is_await j.reaction) 1 0 + awaits_in_jobs js

  -- how many reactions let the body of the module go on: of pending promises, and in jobs
  abbrev pub awaits_of : Promises (Reaction Url) (Value Url) → ℕ
  awaits_of ps = awaits_in_jobs ps.jobs + awaits_pending ps.all

  -- how often the body of the module stands at an await
  abbrev pub standing_count : List (Standing Url) → ℕ
  standing_count [] = 0
  standing_count (s ∷ ss) = cond (same_url s.at m) 1 0 + standing_count ss

-- each job's promise is settled
abbrev pub AreSettled : Promises (Reaction Url) (Value Url) → List (Job (Reaction Url)) → Type 0
AreSettled ps jobs = AllByRecursion (λ (j : Job (Reaction Url)). is_some (settled ps j.promise) ≡ true) jobs

-- each reaction to an await, of a pending promise or in a job, has a body that stands at an await, and each job has a result
pub record HaveStanding (ps : Promises (Reaction Url) (Value Url)) (standing : List (Standing Url)) : Type 0 where
  pub bodies : (m : Url) → awaits_of m ps ≤ standing_count m standing
  pub jobs : AreSettled ps ps.jobs

-- so it is in the world
abbrev pub AwaitsHaveBodies : World → Type 0
AwaitsHaveBodies w = HaveStanding w.promises w.engine.standing

-- that holds of the opening world, and each step keeps it; so each job has a result, and a body that goes on in its job is there
pub record AwaitsKeepBodies : Type 0 where
  pub opens : (maps : Maps) (built : List Item → Bool) (entry : Url) (trace : Bool) → AwaitsHaveBodies (opening maps built entry trace)
  pub fetches : (w : World) (u : Url) (c : OutcomeView) → AwaitsHaveBodies w → AwaitsHaveBodies (fetched w u c)
  pub answers : (w : World) (h : Host) → AwaitsHaveBodies w → AnswersNext (host_of w) h → AwaitsHaveBodies (with_host w h)
  pub result : (w : World) (j : Job (Reaction Url)) (left : Promises (Reaction Url) (Value Url)) → AwaitsHaveBodies w
      → next_job w.promises ≡ Some (j, left) → (how : Settled (Value Url)) × (settled left j.promise ≡ Some how)
  pub body : (w : World) (j : Job (Reaction Url)) (left : Promises (Reaction Url) (Value Url)) (m : Url) → AwaitsHaveBodies w
      → next_job w.promises ≡ Some (j, left) → j.reaction ≡ Await m
      → (t : Taken Url) × (take_standing same_url w.engine.standing m ≡ Some t)
  pub reacts : (w after : World) (j : Job (Reaction Url)) (left : Promises (Reaction Url) (Value Url)) (how : Settled (Value Url))
      → AwaitsHaveBodies w → next_job w.promises ≡ Some (j, left) → Reacts (with_promises w left) j.reaction how after
      → AwaitsHaveBodies after

-- so it is in each world of a run, and no body stands at two awaits
pub record RunHasBodies (w : World) : Type 0 where
  pub bodies : AwaitsHaveBodies w
  pub once : (m : Url) → standing_count m w.engine.standing ≤ 1

abbrev pub RunsHaveBodies : Type 0
RunsHaveBodies = (maps : Maps) (built : List Item → Bool) (entry : Url) (trace : Bool) (deliveries : List Delivery) (w : World)
    → Runs (opening maps built entry trace) deliveries w → RunHasBodies w
