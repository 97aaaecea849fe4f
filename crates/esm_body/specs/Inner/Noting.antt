-- What the code notes of bodies, and how it keeps those that stand at an await.
use Rattle.std.specs.Prelude.{◌≡◌, ◌<◌, ℕ, nat_eq, Bool, true, false, List, [], ◌∷◌, ◌++◌, length, map, Option, Some, None, Result, Ok, Err, slice_index_or, codes}
use Rattle.std.specs.List.{remove}
use Rattle.esm_values.specs.Code.{CodeValue}
use Rattle.esm_values.specs.Value.{Promise}
use Rattle.esm_values.specs.declared.value.PromiseId.{PromiseId}
use Rattle.esm_values.specs.declared.value.Ran.{Ran}
use Rattle.esm_promise.specs.Code.{Numbered}
use Rattle.esm_promise.specs.Promises.{Settled, settle, register, make_fulfilled, next_promise}
use Rattle.esm_promise.specs.Reactions.{Await}
use Rattle.esm_values.specs.Value.{Value}
use Rattle.esm_rewriting.specs.Bodies.{await_on, take_standing}
use Rattle.esm_body.specs.View.{standing_of}
use Rattle.esm_body.specs.Inner.Log.{AddedLine}
use Rattle.esm_body.specs.declared.engine.Engine.{Engine}
use Rattle.esm_body.specs.declared.engine.Event.{Event}
use Rattle.esm_body.specs.declared.engine.Event.TheVariants as events
use Rattle.esm_body.specs.declared.log.Log.{Log}
use Rattle.esm_rewriting.specs.declared.stop.Stop.{Stop}
use Rattle.esm_rewriting.specs.declared.stop.Stop.TheVariants as stops
use Rattle.esm_body.specs.declared.work.Standing.{Standing}

-- ---- events

-- the word before the URL in the trace line of an event
abbrev pub word_of : Event → List ℕ
word_of (events.Begins m) = codes "# start "
word_of (events.Ends m) = codes "# end "
word_of (events.Throws m) = codes "# throw "

-- a line was added where lines are written; where memory ran out, nothing is said
abbrev pub AddedWhere : Bool → Log → List ℕ → Result (Unit {0}) Stop → Log → Type 0
AddedWhere true old line r new = AddedLine old line r new
AddedWhere false old line (Ok u) new = new ≡ old
AddedWhere false old line (Err (stops.Limit limit)) new = ⊥
AddedWhere false old line (Err stops.Memory) new = Unit {0}

-- the line before an event was added, where lines are written, and nothing but the log has changed
pub record TracesTo (old : Engine) (event : Event) (url : List ℕ) (r : Result (Unit {0}) Stop) (new : Engine) : Type 0 where
  pub rest : new ≡ record old { log = new.log }
  pub line : AddedWhere old.trace old.log (word_of event ++ url) r new.log

abbrev pub Traces : Engine → Event → List ℕ → Result (Unit {0}) Stop → Engine → Type 0
Traces old event url (Ok u) new = TracesTo old event url (Ok tt) new
Traces old event url (Err (stops.Limit limit)) new = TracesTo old event url (Err (stops.Limit limit)) new
Traces old event url (Err stops.Memory) new = Unit {0}

-- the event was added too
pub record NotesTo (old : Engine) (event : Event) (url : List ℕ) (new : Engine) : Type 0 where
  pub rest : new ≡ record old { log = new.log; events = old.events ++ event ∷ [] }
  pub line : AddedWhere old.trace old.log (word_of event ++ url) (Ok tt) new.log

abbrev pub Notes : Engine → Event → List ℕ → Result (Unit {0}) Stop → Engine → Type 0
Notes old event url (Ok u) new = NotesTo old event url new
Notes old event url (Err (stops.Limit limit)) new = TracesTo old event url (Err (stops.Limit limit)) new
Notes old event url (Err stops.Memory) new = Unit {0}

-- a body has ended: this is noted, and its promise is settled
abbrev pub SettlesEnd : Engine → Numbered → Event → List ℕ → ℕ → Settled (Value ℕ) → Result (Unit {0}) Stop → Engine → Numbered
    → Type 0
SettlesEnd old ps event url done how (Ok u) new late = NotesTo old event url new × (late ≡ settle ps done how)
SettlesEnd old ps event url done how (Err (stops.Limit limit)) new late =
    TracesTo old event url (Err (stops.Limit limit)) new × (late ≡ ps)
SettlesEnd old ps event url done how (Err stops.Memory) new late = Unit {0}

-- a body that doesn't await has ended so
abbrev pub NotesRan : Engine → Event → List ℕ → Ran → Result Ran Stop → Engine → Type 0
NotesRan old event url how (Ok ran) new = NotesTo old event url new × (ran ≡ how)
NotesRan old event url how (Err (stops.Limit limit)) new = TracesTo old event url (Err (stops.Limit limit)) new
NotesRan old event url how (Err stops.Memory) new = Unit {0}

-- ---- awaits

-- the value is this promise; of another value one is made where it is awaited
abbrev pub IsPromise : CodeValue → Option PromiseId → Type 0
IsPromise v None = (ps : Numbered) (m : ℕ) → await_on ps v m ≡ register (make_fulfilled ps v) (next_promise ps) (Await m)
IsPromise v (Some p) = v ≡ Promise p.0

-- a body stands at its await of a value
pub record StandsNow (old : Engine) (ps : Numbered) (s : Standing) (v : CodeValue) (m : ℕ) (new : Engine) (late : Numbered) : Type 0 where
  pub rest : new ≡ record old { standing = new.standing }
  pub items : new.standing.items ≡ old.standing.items ++ s ∷ []
  pub waits : late ≡ await_on ps v m

-- the body of this module is the one at this place, or it doesn't stand at an await
abbrev pub StandsAt : List Standing → ℕ → Option ℕ → Type 0
StandsAt ss m None = take_standing nat_eq (map standing_of ss) m ≡ None
StandsAt ss m (Some at) = (at < length ss) × ((d : Standing) → (slice_index_or ss at d).body.at.0 ≡ m)
    × ((d : Standing) → take_standing nat_eq (map standing_of ss) m
    ≡ Some (record { standing = standing_of (slice_index_or ss at d); others = map standing_of (remove ss at) }))
