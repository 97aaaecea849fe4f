-- What the table keeps between any two steps. Its words are the next ticket, the ticket that is served, and the number of entries.
use Rattle.std.specs.Prelude.{◌≡◌, ℕ, ◌+◌, ◌<◌, ◌≤◌, ◌⊎◌, true, List, [], ◌∷◌, length, Option, Some}
use mathlib.Core.Option.{some, none}
use mathlib.Core.Option as maybe
use lib.ListN.{get_elem?}
use Rattle.atomic_table.specs.Table.{State}
use Rattle.esm_hlock.specs.declared.view.View.{View}
use Rattle.esm_hlock.specs.declared.view.Joined.{Joined}
use Rattle.esm_hlock.specs.Makers.{times, names, Continues}

-- f of each, added up
abbrev pub total : {A : Type 0} → (A → ℕ) → List A → ℕ
total f [] = 0
total f (x ∷ xs) = f x + total f xs

-- what holds of each seat, for this history and these two words
pub record Fits {E : Type 0} (maker : E → Option ℕ) (history : List E) (ticket serving : ℕ) (v : View E) : Type 0 where
  -- it has seen a beginning of the history, with all entries of the numbers in its list
  pub begins : Continues maker history v.seen v.numbers
  -- its ticket is out
  pub waiting : v.has_ticket ≡ true → (serving ≤ v.ticket) × (v.ticket < ticket)
  -- while it has the state its ticket is served, and it has seen the whole history
  pub turn : v.has_state ≡ true → (v.has_ticket ≡ true) × (v.ticket ≡ serving) × (v.seen ≡ history)
  -- its own number is among its numbers
  pub own : (k : ℕ) → v.number ≡ Some k → 0 < times k v.numbers
  -- one with no share is spent, and has no numbers
  pub idle : v.shares ≡ 0 → v.numbers ≡ []
  -- one with a ticket has a share
  pub live : v.has_ticket ≡ true → 0 < v.shares
  -- what it has seen continues what each of its two parts had seen
  pub joined : (j : ℕ) (o : Joined E) → get_elem? v.joined j ≡ some o → Continues maker v.seen o.seen o.numbers

-- the state is in its slot, has this history, and is no seat's
pub record AtHome {T E : Type 0} (story : T → List E) (homes : List (maybe.Option (Option T)))
    (views : List (View E)) (history : List E) : Type 0 where
  pub state : T
  pub there : homes ≡ some (Some state) ∷ []
  pub is : story state ≡ history
  pub free : (j : ℕ) (v : View E) → get_elem? views j ≡ some v → ¬ (v.has_state ≡ true)

-- the state's slot is out with a seat that has the state
pub record Away {T E : Type 0} (homes : List (maybe.Option (Option T))) (views : List (View E)) : Type 0 where
  pub seat : ℕ
  pub view : View E
  pub there : homes ≡ none ∷ []
  pub sits : get_elem? views seat ≡ some view
  pub has_state : view.has_state ≡ true

-- no ticket is with two seats
abbrev pub Apart : {E : Type 0} → List (View E) → Type 0
Apart {E} views = (i j : ℕ) (v w : View E) → get_elem? views i ≡ some v → get_elem? views j ≡ some w
    → v.has_ticket ≡ true → w.has_ticket ≡ true → v.ticket ≡ w.ticket → i ≡ j

-- each ticket from one number up to another is with a seat
abbrev pub AreOut : {E : Type 0} → ℕ → ℕ → List (View E) → Type 0
AreOut {E} low high views = (n : ℕ) → low ≤ n → n < high
    → (j : ℕ) × (v : View E) × (get_elem? views j ≡ some v) × (v.has_ticket ≡ true) × (v.ticket ≡ n)

-- where the state is
abbrev pub Place : {T E : Type 0} → (T → List E) → List (maybe.Option (Option T)) → List (View E) → List E → Type 0
Place {T} story homes views history = AtHome story homes views history ⊎ Away {T = T} homes views

-- the rule
pub record Kept {T E : Type 0} (story : T → List E) (maker : E → Option ℕ) (s : State (Option T) (View E)) : Type 0 where
  -- there is one history
  pub history : List E
  pub ticket : ℕ
  pub serving : ℕ
  pub words : s.words ≡ ticket ∷ serving ∷ length history ∷ []
  pub order : serving ≤ ticket
  pub bound : ticket < 18446744073709551616
  pub each : (j : ℕ) (v : View E) → get_elem? s.views j ≡ some v → Fits maker history ticket serving v
  pub apart : Apart s.views
  pub out : AreOut serving ticket s.views
  pub place : Place story s.homes s.views history
  -- no share is made or lost
  pub shares : total (λ v. v.shares) s.views ≡ 1024
  -- each maker of an entry is in the list of one seat, once, and no other number is in any
  pub makers : (k : ℕ) → total (λ v. times k v.numbers) s.views ≡ names maker k history
