-- Events as the code notes them, and the marks of the bodies that have begun.
use Rattle.std.specs.Prelude.{◌≡◌, ℕ, nat_eq, Bool, false, List, map, slice_get, Option, Some, None}
use Rattle.std.specs.List.{list_any}
use Rattle.esm_rewriting.specs.State as state
use Rattle.esm_rewriting.specs.State.{begins_at}
use Rattle.esm_body.specs.declared.engine.Event.{Event}
use Rattle.esm_body.specs.declared.engine.Event.TheVariants as events

abbrev pub event_of : Event → state.Event ℕ
event_of (events.Begins m) = state.Begins m.0
event_of (events.Ends m) = state.Ends m.0
event_of (events.Throws m) = state.Throws m.0

-- the body of the module has begun
abbrev pub begun_in : List Event → ℕ → Bool
begun_in es m = list_any (begins_at nat_eq m) (map event_of es)

abbrev pub marked_by : Option Bool → Bool
marked_by None = false
marked_by (Some b) = b

-- the module with this number is marked
abbrev pub is_marked : List Bool → ℕ → Bool
is_marked marks m = marked_by (slice_get marks m)

-- the modules whose bodies have begun are marked, and no others
pub record AreMarked (marks : List Bool) (es : List Event) : Type 0 where
  pub each : (m : ℕ) → is_marked marks m ≡ begun_in es m
