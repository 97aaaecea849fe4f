-- The part of the world that bodies read and write: the engine's own, the written cells, and what lies outside: promises,
-- errors and imports.
use Rattle.std.specs.Prelude.{ℕ, ◌+◌, nat_lt, Bool, true, false, List, [], ◌∷◌, ◌++◌, length, Option, Some, None, Result, Ok, Err, codes}
use Rattle.std.specs.List.{list_any}
use Rattle.esm_base.specs.declared.limits.Limit.{Limit}
use Rattle.esm_base.specs.declared.limits.Limit.TheVariants.{L3, L5}
use Rattle.esm_base.specs.declared.limits.TheConstants.{MAX_STEPS, MAX_LOG_BYTES}
use Rattle.esm_values.specs.Value.{Value, Error}
use Rattle.esm_values.specs.declared.errors.Fault.{Fault}
use Rattle.esm_values.specs.Errors.{make_error, next_error}
use Rattle.esm_promise.specs.Promises.{Promises}
use Rattle.esm_promise.specs.Reactions.{Reaction}
use Rattle.esm_promise.specs.Outer.{Outer}
use Rattle.esm_env.specs.Cells.{Cells}
use Rattle.esm_rewriting.specs.Rest.{Rest}

-- own: a body begins, ends normally, or ends by a throw
pub data Event (N : Type 0) : Type 0 where
  Begins : (m : N) → Event N
  Ends : (m : N) → Event N
  Throws : (m : N) → Event N

-- a body at its await: the promise that its end settles, and what remains of it. ECMA-262, the suspended execution context
-- of Await
pub record Standing (N : Type 0) : Type 0 where
  pub at : N
  pub done : ℕ
  pub rest : Rest (Value N)

pub record Engine (N : Type 0) : Type 0 where
  -- the starts and ends of bodies, in order
  pub events : List (Event N)
  pub log : List ℕ
  pub steps : ℕ
  pub standing : List (Standing N)
  -- starts and ends are written to the log too
  pub trace : Bool
  pub stopped : Option Limit

abbrev pub opening_engine : {N : Type 0} → Bool → Engine N
opening_engine trace = record { events = []; log = []; steps = 0; standing = []; trace = trace; stopped = None }

-- I is what import() reads and writes beside promises and errors
pub record State (N I : Type 0) : Type 0 where
  pub engine : Engine N
  pub cells : Cells N
  pub outer : Outer N I

-- how import() begins: what lies outside, the module in which it stands written, its specifier and its promise; whether a
-- limit was passed, and what lies outside then. ECMA-262, HostLoadImportedModule of an ImportCall
abbrev pub Importing : Type 0 → Type 0 → Type 1
Importing N I = Outer N I → N → List ℕ → ℕ → Result (Unit {0}) Limit → Outer N I → Type 0

-- an answer, or a limit that was passed, and the state then
abbrev pub AnswerWith : Type 0 → Type 0 → Type 0
AnswerWith A W = Result A Limit × W

-- own: the trace line of an event
abbrev pub event_line : {N : Type 0} → (N → List ℕ) → Event N → List ℕ
event_line url (Begins m) = codes "# start " ++ url m
event_line url (Ends m) = codes "# end " ++ url m
event_line url (Throws m) = codes "# throw " ++ url m

module _ {N I : Type 0} where
  abbrev pub stop : State N I → Limit → State N I
  stop w limit = record w { engine = record w.engine { stopped = Some limit } }

  abbrev pub steps_by : Bool → State N I → ℕ → AnswerWith (Unit {0}) (State N I)
  steps_by true w n = (Err L3, stop w L3)
  steps_by false w n = (Ok tt, record w { engine = record w.engine { steps = w.engine.steps + n } })

  -- own: no more than MAX_STEPS steps are taken
  abbrev pub take_steps : State N I → ℕ → AnswerWith (Unit {0}) (State N I)
  take_steps w n = steps_by (nat_lt MAX_STEPS (w.engine.steps + n)) w n

  abbrev pub line_by : Bool → State N I → List ℕ → AnswerWith (Unit {0}) (State N I)
  line_by true w text = (Err L5, stop w L5)
  line_by false w text = (Ok tt, record w { engine = record w.engine { log = w.engine.log ++ text ++ 10 ∷ [] } })

  -- own: a text and a line feed are added to the log, which has no more than MAX_LOG_BYTES
  abbrev pub add_line : State N I → List ℕ → AnswerWith (Unit {0}) (State N I)
  add_line w text = line_by (nat_lt MAX_LOG_BYTES (length w.engine.log + length text + 1)) w text

  -- the value of the error that is made next
  abbrev pub new_error : State N I → Value N
  new_error w = Error (next_error w.outer.errors)

  abbrev pub with_error : State N I → Fault → State N I
  with_error w f = record w { outer = record w.outer { errors = make_error w.outer.errors f } }

  abbrev pub with_promises : State N I → Promises (Reaction N) (Value N) → State N I
  with_promises w ps = record w { outer = record w.outer { promises = ps } }

  abbrev pub add_event : Event N → State N I → State N I
  add_event event w = record w { engine = record w.engine { events = w.engine.events ++ event ∷ [] } }

  abbrev pub event_behind : Event N → AnswerWith (Unit {0}) (State N I) → AnswerWith (Unit {0}) (State N I)
  event_behind event (Ok done, w) = (Ok tt, add_event event w)
  event_behind event (Err limit, w) = (Err limit, w)

  abbrev pub note_by : Bool → (N → List ℕ) → State N I → Event N → AnswerWith (Unit {0}) (State N I)
  note_by true url w event = event_behind event (add_line w (event_line url event))
  note_by false url w event = (Ok tt, add_event event w)

  -- the event is added, with its line before it where they are written
  abbrev pub note : (N → List ℕ) → State N I → Event N → AnswerWith (Unit {0}) (State N I)
  note url w event = note_by w.engine.trace url w event

abbrev pub begins_at : {N : Type 0} → (N → N → Bool) → N → Event N → Bool
begins_at same m (Begins x) = same m x
begins_at same m (Ends x) = false
begins_at same m (Throws x) = false

-- the body of the module has begun
abbrev pub has_begun : {N : Type 0} → (N → N → Bool) → Engine N → N → Bool
has_begun same e m = list_any (begins_at same m) e.events
