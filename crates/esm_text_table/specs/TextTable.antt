-- Texts in order, each once, and where each stands.
use Rattle.std.specs.Prelude.{◌≡◌, ℕ, zero, suc, ◌<◌, Bool, false, List, [], ◌∷◌, ◌++◌, length, map, slice_get, slice_set, position, bytes_eq, nat_eq, bit_and, cond, Option, Some, None, if◌then◌else◌}
use Rattle.std.specs.Cmp.Lexicographic.{slice_cmp}
use Rattle.std.specs.Hash.FoldHasher as folding
use Rattle.std.specs.Ordering.{nat_cmp, is_eq}
use Rattle.esm_base.specs.Lists.{is_in}

-- the texts, with this one behind them unless it is there
abbrev pub with_text : List (List ℕ) → List ℕ → List (List ℕ)
with_text texts text = if is_in bytes_eq texts text then texts else texts ++ text ∷ []

-- own: a number that equal texts have alike. Which one it is, no proof asks
unfoldable pub mark_of : List ℕ → ℕ
mark_of text = folding.finish (folding.write folding.initial text)

-- own: the first slot of a mark, in so many slots that their number's mask is this one
abbrev pub start_of : ℕ → ℕ → ℕ
start_of mask mark = bit_and mark mask

-- own: how many slots from its first on a text can be in
unfoldable pub reach : ℕ
reach = 8

abbrev pub is_text : List ℕ → Option (List ℕ) → Bool
is_text text None = false
is_text text (Some found) = bytes_eq found text

abbrev pub is_mark : ℕ → Option ℕ → Bool
is_mark mark None = false
is_mark mark (Some found) = nat_eq found mark

-- whether a place has this mark and this text
abbrev pub tells : List ℕ → List (List ℕ) → ℕ → List ℕ → ℕ → Bool
tells marks texts mark text place = cond (is_mark mark (slice_get marks place)) (is_text text (slice_get texts place)) false

-- own: a slot has the number of a text, which is its place and one, and a free one 0
abbrev pub look_at : Option ℕ → (ℕ → Bool) → Option ℕ → Option ℕ → Option ℕ
look_at None told other rest = other
look_at (Some zero) told other rest = None
look_at (Some (suc place)) told other rest = cond (told place) (Some place) rest

-- what so many slots from one on say, up to the first that is free, and behind them the others
unfoldable pub look : List ℕ → (ℕ → Bool) → Option ℕ → ℕ → ℕ → Option ℕ
look slots told other zero at = other
look slots told other (suc left) at = look_at (slice_get slots at) told other (look slots told other left (suc at))

abbrev pub room_at : Option ℕ → ℕ → Option ℕ → Option ℕ
room_at None at rest = None
room_at (Some zero) at rest = Some at
room_at (Some (suc place)) at rest = rest

-- the first free slot of so many from one on
unfoldable pub room : List ℕ → ℕ → ℕ → Option ℕ
room slots zero at = None
room slots (suc left) at = room_at (slice_get slots at) at (room slots left (suc at))

-- where a text stands
abbrev pub place_by : List ℕ → ℕ → List ℕ → (List ℕ → Option ℕ) → List (List ℕ) → List ℕ → Option ℕ
place_by slots mask marks others texts text = look slots (tells marks texts (mark_of text) text) (others text) reach (start_of mask (mark_of text))

-- each text stands once, and the others name places of texts
pub record AreSound (others : List ℕ → Option ℕ) (texts : List (List ℕ)) : Type 0 where
  pub once : (text : List ℕ) (place : ℕ) → slice_get texts place ≡ Some text → position (bytes_eq text) texts ≡ Some place
  pub right : (text : List ℕ) (place : ℕ) → others text ≡ Some place → position (bytes_eq text) texts ≡ Some place

-- each text of the first so many is found at its place
abbrev pub AreReached : ℕ → List ℕ → ℕ → List ℕ → (List ℕ → Option ℕ) → List (List ℕ) → Type 0
AreReached count slots mask marks others texts =
    (text : List ℕ) (place : ℕ) → position (bytes_eq text) texts ≡ Some place → place < count → place_by slots mask marks others texts text ≡ Some place

-- each text is found at its place, and nothing else is
pub record AreListed (slots : List ℕ) (mask : ℕ) (marks : List ℕ) (others : List ℕ → Option ℕ) (texts : List (List ℕ)) : Type 0 where
  pub marked : marks ≡ map mark_of texts
  pub sound : AreSound others texts
  pub reached : AreReached (length texts) slots mask marks others texts

-- a text gets a place: in a free slot, where there is one, and else among the others
abbrev pub Puts : Option ℕ → List ℕ → (List ℕ → Option ℕ) → List ℕ → ℕ → List ℕ → (List ℕ → Option ℕ) → Type 0
Puts (Some at) slots others text place slots_now others_now =
    (slots_now ≡ slice_set slots at (suc place)) × ((other : List ℕ) → others_now other ≡ others other)
Puts None slots others text place slots_now others_now =
    (slots_now ≡ slots) × ((other : List ℕ) → others_now other ≡ cond (is_eq (slice_cmp nat_cmp text other)) (Some place) (others other))

-- who has a place keeps it
abbrev pub Keeps : (List ℕ → Option ℕ) → (List ℕ → Option ℕ) → Type 0
Keeps others others_now = (text : List ℕ) (place : ℕ) → others text ≡ Some place → others_now text ≡ Some place
