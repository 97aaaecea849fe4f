-- Jobs: what follows the settling of a promise.
use Rattle.std.specs.Prelude.{◌≡◌, ℕ, List, Option, Some, None, Result, Ok, Err}
use Rattle.esm_base.specs.declared.limits.Limit.{Limit}
use Rattle.esm_base.specs.Urls.{Url, same_url}
use Rattle.esm_values.specs.Value.{Value, Namespace, Error}
use Rattle.esm_values.specs.Errors.{make_error, next_error}
use Rattle.esm_values.specs.declared.errors.Fault.{Fault}
use Rattle.esm_promise.specs.Promises.{Promises, Settled, Fulfilled, Rejected, Job, settle, settled, register, next_job}
use Rattle.esm_promise.specs.Reactions.{Reaction, Await, BodyEnd, Loaded, Evaluated, EntryLoaded, EntryDone}
use Rattle.esm_loads.specs.Loading.{Loading, root_of_load, import_promise}
use Rattle.esm_loads.specs.ImportCall.{BeginsImport}
use Rattle.esm_link.specs.Faults.{FaultAt, link_error}
use Rattle.esm_eval.specs.Evaluate.{Evaluates}
use Rattle.esm_eval.specs.BodyEnd.{Rejects, Fulfills}
use Rattle.esm_rewriting.specs.Bodies.{ResumesBody}
use Rattle.esm_rewriting.specs.State.{State}
use Rattle.esm_world.specs.World.{World, EntryState, Ended, Failed, stopped, modules_in, body_state, with_state}
use Rattle.esm_world.specs.Layers.{CallsForBody, evaluation, LinksTo, with_linked, with_promises}

abbrev pub with_entry_state : World → EntryState → World
with_entry_state w e = record w { entry = e }

abbrev pub settle_promise : World → ℕ → Settled (Value Url) → World
settle_promise w p how = with_promises w (settle w.promises p how)

abbrev pub with_reaction : World → ℕ → Reaction Url → World
with_reaction w p r = with_promises w (register w.promises p r)

-- the value of the error that is made next
abbrev pub new_error : World → Value Url
new_error w = Error (next_error w.errors)

abbrev pub with_error : World → Fault → World
with_error w f = record w { errors = make_error w.errors f }

-- these modules are linked, and the SyntaxError of a link fault was made
abbrev pub link_failed : World → FaultAt Url → List Url → World
link_failed w f linked = with_error (with_linked w linked) (link_error (modules_in w.loading) f)

-- the reaction to an evaluation is registered on its promise. After a stop nothing is
abbrev pub when_evaluated : World → Reaction Url → Result ℕ Limit → World
when_evaluated w r (Ok p) = with_reaction w p r
when_evaluated w r (Err limit) = w

-- the root of that load, which is complete, is linked with this fault, or with none, and then these modules are linked
pub record LinksLoad (w : World) (load : ℕ) (root : Url) (f : Option (FaultAt Url)) (linked : List Url) : Type 0 where
  pub is_root : root_of_load w.loading load ≡ Some root
  pub links : LinksTo w root f linked

-- the root is linked without a fault, and evaluated
pub record EvaluatesLoad (w : World) (load : ℕ) (answer : Result ℕ Limit) (after : World) : Type 0 where
  pub root : Url
  pub linked : List Url
  pub links : LinksLoad w load root None linked
  pub evaluates : Evaluates evaluation CallsForBody (with_linked w linked) root answer after

-- ECMA-262, NewPromiseReactionJob: what a reaction does in its job, where its promise was settled so
pub data Reacts : World → Reaction Url → Settled (Value Url) → World → Type 0 where
  -- HTML, "fetch the descendants of and link a module script" and "run a module script": the entry is linked and evaluated
  entry_linked : {w after : World} {v : Value Url} {answer : Result ℕ Limit} → EvaluatesLoad w 0 answer after
      → Reacts w EntryLoaded (Fulfilled v) (when_evaluated after EntryDone answer)
  entry_fault : {w : World} {v : Value Url} (root : Url) (f : FaultAt Url) (linked : List Url) → LinksLoad w 0 root (Some f) linked
      → Reacts w EntryLoaded (Fulfilled v) (with_entry_state (link_failed w f linked) (Failed (new_error w)))
  entry_refused : {w : World} {v : Value Url} → Reacts w EntryLoaded (Rejected v) (with_entry_state w (Failed v))
  entry_ended : {w : World} {v : Value Url} → Reacts w EntryDone (Fulfilled v) (with_entry_state w Ended)
  entry_threw : {w : World} {v : Value Url} → Reacts w EntryDone (Rejected v) (with_entry_state w (Failed v))
  -- ECMA-262, ContinueDynamicImport: what was imported is linked and evaluated
  linked : {w after : World} {s : ℕ} {v : Value Url} {answer : Result ℕ Limit} → EvaluatesLoad w s answer after
      → Reacts w (Loaded s) (Fulfilled v) (when_evaluated after (Evaluated s) answer)
  fault : {w : World} {s : ℕ} {v : Value Url} (promise : ℕ) (root : Url) (f : FaultAt Url) (linked : List Url)
      → import_promise w.loading s ≡ Some promise → LinksLoad w s root (Some f) linked
      → Reacts w (Loaded s) (Fulfilled v) (settle_promise (link_failed w f linked) promise (Rejected (new_error w)))
  refused : {w : World} {s : ℕ} {v : Value Url} (promise : ℕ) → import_promise w.loading s ≡ Some promise
      → Reacts w (Loaded s) (Rejected v) (settle_promise w promise (Rejected v))
  evaluated : {w : World} {s : ℕ} {v : Value Url} (promise : ℕ) (root : Url) → import_promise w.loading s ≡ Some promise
      → root_of_load w.loading s ≡ Some root → Reacts w (Evaluated s) (Fulfilled v) (settle_promise w promise (Fulfilled (Namespace root)))
  threw : {w : World} {s : ℕ} {v : Value Url} (promise : ℕ) → import_promise w.loading s ≡ Some promise
      → Reacts w (Evaluated s) (Rejected v) (settle_promise w promise (Rejected v))
  -- ECMA-262, AsyncModuleExecutionFulfilled and AsyncModuleExecutionRejected
  body_ended : {w after : World} {m : Url} {v : Value Url} {end : Result (Unit {0}) Limit}
      → Fulfills evaluation CallsForBody w m end after → Reacts w (BodyEnd m) (Fulfilled v) after
  body_threw : {w after : World} {m : Url} {v : Value Url} → Rejects evaluation w m v after
      → Reacts w (BodyEnd m) (Rejected v) after
  -- ECMA-262, Await: the body goes on
  resumes : {w : World} {m : Url} {how : Settled (Value Url)} {end : Result (Unit {0}) Limit} {s : State Url Loading}
      → ResumesBody same_url modules_in BeginsImport (body_state w) m how end s → Reacts w (Await m) how (with_state w s)

-- the first job is taken, and its reaction to this result leads on
pub record FirstReacts (w : World) (how : Settled (Value Url)) (after : World) : Type 0 where
  pub job : Job (Reaction Url)
  pub left : Promises (Reaction Url) (Value Url)
  pub first : next_job w.promises ≡ Some (job, left)
  pub reacts : Reacts (with_promises w left) job.reaction how after

-- the first job is taken and done with the result of its promise; the constructor `job` of Jobs has the same parts
pub record IsJob (w after : World) : Type 0 where
  pub live : stopped w ≡ None
  pub how : Settled (Value Url)
  pub taken : FirstReacts w how after
  pub settled_so : settled taken.left taken.job.promise ≡ Some how

-- HTML, "perform a microtask checkpoint": jobs run, first in, first out, until none is left or a limit stops the world
pub data Jobs : World → World → Type 0 where
  none : {w : World} → next_job w.promises ≡ None → Jobs w w
  stops : {w : World} (limit : Limit) → stopped w ≡ Some limit → Jobs w w
  job : {w mid after : World} (j : Job (Reaction Url)) (left : Promises (Reaction Url) (Value Url)) (how : Settled (Value Url))
      → stopped w ≡ None → next_job w.promises ≡ Some (j, left) → settled left j.promise ≡ Some how
      → Reacts (with_promises w left) j.reaction how mid → Jobs mid after → Jobs w after
