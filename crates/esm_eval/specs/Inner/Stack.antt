-- The open modules of a walk, with their places.
use Rattle.std.specs.Prelude.{◌≡◌, ◌<◌, ℕ, List, Some, slice_get, length}

-- each of these has its place, by its id
abbrev pub HavePlaces : List ℕ → List ℕ → Type 0
HavePlaces opened places = (k x : ℕ) → slice_get opened k ≡ Some x → slice_get places x ≡ Some k

-- no module stands at two places
abbrev pub StandOnce : List ℕ → Type 0
StandOnce opened = (j k x : ℕ) → slice_get opened j ≡ Some x → slice_get opened k ≡ Some x → j ≡ k

-- each is open once, and there are no places, or each has its own
pub record KeepsPlaces (opened places : List ℕ) : Type 0 where
  pub once : StandOnce opened
  pub right : 0 < length places → HavePlaces opened places
