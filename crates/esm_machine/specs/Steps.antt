-- What the steps of a job do to what a machine holds, by the ids of modules, they do in the world.
use Rattle.std.specs.Prelude.{◌≡◌, ℕ, nat_eq, List, Some, None, Result, Ok, Err}
use Rattle.esm_base.specs.declared.limits.Limit.{Limit}
use Rattle.esm_base.specs.Urls.{Url, has}
use Rattle.esm_values.specs.Value.{Value, Error}
use Rattle.esm_values.specs.Errors.{Errors, make_error, next_error}
use Rattle.esm_values.specs.Naming.{renamed_value}
use Rattle.esm_values.specs.declared.errors.Fault.{Fault}
use Rattle.esm_promise.specs.Code.{Numbered}
use Rattle.esm_promise.specs.Promises.{Settled, Job, settle, settled, register, next_job}
use Rattle.esm_promise.specs.Reactions.{Reaction, Await}
use Rattle.esm_promise.specs.Renaming.{renamed, renamed_job, renamed_reaction, renamed_settled}
use Rattle.esm_rewriting.specs.Bodies.{ResumesBody}
use Rattle.esm_rewriting.specs.State.{State}
use Rattle.esm_world.specs.World.{World}
use Rattle.esm_world.specs.Layers as layers
use Rattle.esm_world.specs.Jobs as jobs
use Rattle.esm_world.specs.Jobs.{Reacts, settle_promise, with_reaction, with_error, new_error}
use Rattle.esm_machine.specs.Seen.{Seen, names, modules, BeginsById}
use Rattle.esm_machine.specs.Held.{Held, EntryHeld, IsHalted, renamed_entry, body_state}
use Rattle.esm_machine.specs.Represents.{IsLive}

-- ---- what is held, with another part

abbrev pub with_entry_state : Held → EntryHeld → Held
with_entry_state h e = record h { entry = e }

abbrev pub with_promises : Held → Numbered → Held
with_promises h ps = record h { promises = ps }

abbrev pub with_errors : Held → Errors → Held
with_errors h es = record h { errors = es }

-- these modules are linked
abbrev pub with_linked : Held → List Url → Held
with_linked h us = record h { seen = record h.seen { linked = us } }

-- the parts that bodies read and write
abbrev pub with_state : Held → State ℕ Seen → Held
with_state h s =
    record h { seen = s.outer.imports; promises = s.outer.promises; errors = s.outer.errors; cells = s.cells; engine = s.engine }

-- a world follows that is stood for; or one that this limit has stopped, whose log and number of starts are held
abbrev pub LeavesHeld : Result (Unit {0}) Limit → (World → Type 0) → Held → Type 0
LeavesHeld (Ok done) To h = (after : World) × To after × IsLive h after
LeavesHeld (Err limit) To h = (after : World) × To after × IsHalted limit h.engine after

-- ---- the steps of jobs

pub record StepsAreOfTheWorld : Type 0 where
  -- the first job is taken, and what its promise was settled with is read
  pub takes : (h : Held) (w : World) (j : Job (Reaction ℕ)) (left : Numbered) → IsLive h w → next_job h.promises ≡ Some (j, left)
      → (next_job w.promises ≡ Some (renamed_job (names h.seen).name j, renamed (names h.seen).name left))
      × IsLive (with_promises h left) (layers.with_promises w (renamed (names h.seen).name left))
  pub none : (h : Held) (w : World) → IsLive h w → next_job h.promises ≡ None → next_job w.promises ≡ None
  pub result : (h : Held) (w : World) (p : ℕ) (how : Settled (Value ℕ)) → IsLive h w → settled h.promises p ≡ Some how
      → settled w.promises p ≡ Some (renamed_settled (names h.seen).name how)
  -- the entry has ended, or failed
  pub entry : (h : Held) (w : World) (e : EntryHeld) → IsLive h w
      → IsLive (with_entry_state h e) (jobs.with_entry_state w (renamed_entry (names h.seen).name e))
  pub settles : (h : Held) (w : World) (p : ℕ) (how : Settled (Value ℕ)) → IsLive h w
      → IsLive (with_promises h (settle h.promises p how)) (settle_promise w p (renamed_settled (names h.seen).name how))
  pub registers : (h : Held) (w : World) (p : ℕ) (r : Reaction ℕ) → IsLive h w
      → IsLive (with_promises h (register h.promises p r)) (with_reaction w p (renamed_reaction (names h.seen).name r))
  -- an error is made, of a link fault
  pub errors : (h : Held) (w : World) (f : Fault) → IsLive h w → IsLive (with_errors h (make_error h.errors f)) (with_error w f)
  pub error : (h : Held) (w : World) → IsLive h w
      → new_error w ≡ renamed_value (names h.seen).name (Error (next_error h.errors))
  -- modules are linked
  pub links : (h : Held) (w : World) (held linked : List Url) → IsLive h w → ((u : Url) → has linked u ≡ has held u)
      → IsLive (with_linked h held) (layers.with_linked w linked)
  -- a body goes on behind its await
  pub resumes : (h : Held) (w : World) (m : ℕ) (how : Settled (Value ℕ)) (end : Result (Unit {0}) Limit) (s : State ℕ Seen) → IsLive h w
      → ResumesBody nat_eq modules BeginsById (body_state h) m how end s
      → LeavesHeld end (Reacts w (Await ((names h.seen).name m)) (renamed_settled (names h.seen).name how)) (with_state h s)
