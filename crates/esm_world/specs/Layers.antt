-- The layers over the world: calls for bodies, evaluation, linking.
use Rattle.std.specs.Prelude.{ℕ, List, [], ◌∷◌, ◌++◌, Option, Result}
use Rattle.esm_base.specs.declared.limits.Limit.{Limit}
use Rattle.esm_base.specs.Urls.{Url, same_url}
use Rattle.esm_values.specs.Value.{Value, Undefined}
use Rattle.esm_values.specs.Ran.{Ran}
use Rattle.esm_promise.specs.Promises.{Promises, make, next_promise, settle, Fulfilled, Rejected}
use Rattle.esm_promise.specs.Reactions.{Reaction, BodyEnd}
use Rattle.esm_env.specs.Modules.{entries}
use Rattle.esm_loads.specs.UrlTable.{put_at}
use Rattle.esm_loads.specs.Loading.{Loading}
use Rattle.esm_loads.specs.ImportCall.{BeginsImport}
use Rattle.esm_link.specs.Faults.{FaultAt}
use Rattle.esm_link.specs.Link.{targets, IsLinking}
use Rattle.esm_eval.specs.Nodes.{Call, CallAnswer, Start, Run}
use Rattle.esm_eval.specs.Evaluation.{Evaluation}
use Rattle.esm_rewriting.specs.State.{State, has_begun}
use Rattle.esm_rewriting.specs.Bodies.{StartsBody, RunsBody}
use Rattle.esm_world.specs.World.{World, modules_in, body_state, with_state}

-- ---- calls for bodies

-- what a call for a body does
pub data CallsForBody : World → (c : Call Url) → Result (CallAnswer (Value Url) c) Limit → World → Type 0 where
  -- ECMA-262, ExecuteAsyncModule, up to the first await
  start : {w : World} {m : Url} {done : ℕ} {end : Result (Unit {0}) Limit} {s : State Url Loading}
      → StartsBody same_url modules_in BeginsImport (body_state w) m done end s → CallsForBody w (Start m done) end (with_state w s)
  -- ECMA-262, ExecuteModule
  run : {w : World} {m : Url} {end : Result (Ran (Value Url)) Limit} {s : State Url Loading}
      → RunsBody same_url modules_in BeginsImport (body_state w) m end s → CallsForBody w (Run m) end (with_state w s)

-- ---- evaluation

abbrev pub with_promises : World → Promises (Reaction Url) (Value Url) → World
with_promises w ps = record w { promises = ps }

-- what evaluation reads and writes of the world
abbrev pub evaluation : Evaluation Url (Value Url) World
evaluation = record {
  same = same_url;
  targets = λ w. targets (modules_in w.loading);
  awaits = λ w u. (entries (modules_in w.loading) u).awaits;
  node = λ w. w.nodes;
  put = λ w u n. record w { nodes = put_at w.nodes u n };
  stamps = λ w. w.stamps;
  add_stamp = λ w u. record w { stamps = w.stamps ++ u ∷ [] };
  begun = λ w. has_begun same_url w.engine;
  next_promise = λ w. next_promise w.promises;
  make_promise = λ w. with_promises w (make w.promises []);
  make_body_promise = λ w u. with_promises w (make w.promises (BodyEnd u ∷ []));
  fulfill = λ w p. with_promises w (settle w.promises p (Fulfilled Undefined));
  reject = λ w p v. with_promises w (settle w.promises p (Rejected v));
}

-- ---- linking

-- ECMA-262, Link: the root is linked with this fault, or with none, and then these modules are linked
abbrev pub LinksTo : World → Url → Option (FaultAt Url) → List Url → Type 0
LinksTo w root f linked = IsLinking same_url (modules_in w.loading) w.linked root f linked

abbrev pub with_linked : World → List Url → World
with_linked w linked = record w { linked = linked }
