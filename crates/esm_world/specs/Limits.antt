-- A limit is told exactly where it stops the world.
use Rattle.std.specs.Prelude.{◌≡◌, ℕ, Option, Some, None, Result, Ok, Err}
use Rattle.esm_base.specs.declared.limits.Limit.{Limit}
use Rattle.esm_base.specs.Urls.{Url, same_url}
use Rattle.esm_values.specs.Value.{Value}
use Rattle.esm_promise.specs.Promises.{Settled}
use Rattle.esm_loads.specs.Loading.{Loading}
use Rattle.esm_loads.specs.ImportCall.{BeginsImport}
use Rattle.esm_eval.specs.Nodes.{Call, CallAnswer}
use Rattle.esm_eval.specs.Evaluate.{Evaluates}
use Rattle.esm_eval.specs.BodyEnd.{Fulfills, Rejects}
use Rattle.esm_rewriting.specs.Bodies.{ResumesBody}
use Rattle.esm_rewriting.specs.State.{State}
use Rattle.esm_world.specs.World.{World, stopped, modules_in, body_state, with_state}
use Rattle.esm_world.specs.Layers.{CallsForBody, evaluation}

-- the limit that an answer tells, if it tells one
abbrev pub told_limit : {A : Type 0} → Result A Limit → Option Limit
told_limit (Ok a) = None
told_limit (Err limit) = Some limit

-- in a world that no limit has stopped, a call for a body, an evaluation, what follows the end of a body, and a body that goes on tell the
-- limit that has stopped the world then, or none where none has
pub record LimitsAreExact : Type 0 where
  pub executes : (w after : World) (c : Call Url) (r : Result (CallAnswer (Value Url) c) Limit) → stopped w ≡ None
      → CallsForBody w c r after → stopped after ≡ told_limit r
  pub evaluates : (w after : World) (m : Url) (r : Result ℕ Limit) → stopped w ≡ None → Evaluates evaluation CallsForBody w m r after
      → stopped after ≡ told_limit r
  pub fulfills : (w after : World) (m : Url) (r : Result (Unit {0}) Limit) → stopped w ≡ None
      → Fulfills evaluation CallsForBody w m r after → stopped after ≡ told_limit r
  pub rejects : (w after : World) (m : Url) (v : Value Url) → stopped w ≡ None → Rejects evaluation w m v after
      → stopped after ≡ None
  pub resumes : (w : World) (m : Url) (how : Settled (Value Url)) (r : Result (Unit {0}) Limit) (s : State Url Loading)
      → stopped w ≡ None → ResumesBody same_url modules_in BeginsImport (body_state w) m how r s
      → stopped (with_state w s) ≡ told_limit r
