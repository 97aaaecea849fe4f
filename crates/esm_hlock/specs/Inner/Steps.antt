-- What each kind of step tells the seat that takes it: of the step, the seat before, the number found or stored, and the seat after.
use Rattle.std.specs.Prelude.{◌≡◌, ◌≢◌, ℕ, List, [], ◌∷◌, Option, Some, None}
use mathlib.Core.Option.{some}
use lib.ListN.{get_elem?}
use Rattle.atomic_table.specs.Table.{Me, Step, rest}
use Rattle.esm_hlock.specs.declared.view.View.{View}
use Rattle.esm_hlock.specs.declared.view.Joined.{Joined}
use Rattle.esm_hlock.specs.Makers.{Continues}
use Rattle.esm_hlock.specs.Views.{HasAllMakers}
use Rattle.esm_hlock.specs.Inner.Seats.{with_ticket, with_state, without_ticket, with_history}

module _ {S E : Type 0} where
  -- the seat has the ticket where it was still the next, and else is as it was
  abbrev pub DrewTicket : Step S → Me S (View E) → ℕ → Me S (View E) → Type 0
  DrewTicket st m r n = (r ≡ st.first → n ≡ (with_ticket m.0 st.first, m.1)) × (r ≢ st.first → n ≡ m)

  -- the seat has neither ticket nor state, and its slot is the table's again
  abbrev pub EndedTurn : Step S → Me S (View E) → ℕ → Me S (View E) → Type 0
  EndedTurn st m r n = n ≡ (without_ticket m.0, rest m.1)

module _ {E : Type 0} (maker : E → Option ℕ) where
  -- what the seat has seen continues what each of its two parts had seen
  abbrev pub LookedBack : {S : Type 0} → Step S → Me S (View E) → ℕ → Me S (View E) → Type 0
  LookedBack st m r n =
      (n ≡ (without_ticket m.0, m.1))
      × ((j : ℕ) (o : Joined E) → get_elem? m.0.joined j ≡ some o → Continues maker m.0.seen o.seen o.numbers)
      × HasAllMakers maker m.0

module _ {T E : Type 0} (story : T → List E) (maker : E → Option ℕ) where
  -- the seat has got a state, and has seen its entries, which continue what it had seen
  abbrev pub GotState : Me (Option T) (View E) → Me (Option T) (View E) → Type 0
  GotState m n =
      (state : T) × (n ≡ (with_state m.0 (story state), (0, Some state) ∷ m.1))
      × Continues maker (story state) m.0.seen m.0.numbers × HasAllMakers maker n.0

  -- the seat has got the state where its ticket is served, and else is as it was
  abbrev pub LoadedServing : Step (Option T) → Me (Option T) (View E) → ℕ → Me (Option T) (View E) → Type 0
  LoadedServing st m r n = (m.0.ticket ≡ r → GotState m n) × (m.0.ticket ≢ r → n ≡ m)

  -- the entries of the state in the slot in hand
  abbrev pub story_in : List (ℕ × Option T) → List E
  story_in [] = []
  story_in ((k, None) ∷ more) = []
  story_in ((k, Some state) ∷ more) = story state

  -- the seat's history is that of the state in its slot
  abbrev pub StoredLength : Step (Option T) → Me (Option T) (View E) → ℕ → Me (Option T) (View E) → Type 0
  StoredLength st m r n = (n ≡ (with_history maker m.0 (story_in m.1), m.1)) × HasAllMakers maker n.0
