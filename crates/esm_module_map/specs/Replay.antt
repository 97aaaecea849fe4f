-- The replay of a history, and which histories are legal.
use Rattle.std.specs.Prelude.{ℕ, zero, suc, ◌+◌, ◌==◌, ◌&&◌, not, nat_lt, min, Bool, true, false, bytes_eq, List, [], ◌∷◌, ◌++◌, length, slice_get, position, Option, Some, None, is_some}
use Rattle.std.specs.List.{position_or_len}
use Rattle.std.specs.Arc.{arc_value}
use Rattle.esm_base.specs.Urls.{Url, is_usable}
use Rattle.esm_base.specs.declared.limits.TheConstants.{MAX_URLS, MAX_DELIVERED_BYTES}
use Rattle.esm_module_map.specs.declared.event.Why.{Why}
use Rattle.esm_module_map.specs.declared.event.Why.TheVariants.{Wanted, Ahead}
use Rattle.esm_module_map.specs.declared.event.MapEvent.{MapEvent}
use Rattle.esm_module_map.specs.declared.event.MapEvent.TheVariants.{Begin, Enrol, Ask, Take, Post, Shut}
use Rattle.esm_module_map.specs.declared.number.Number.{Number}

-- own: what a history comes to
pub record Replay : Type 0 where
  -- how many events there are
  pub events : ℕ
  -- how many callers have enrolled; they are numbered from 0
  pub callers : ℕ
  -- the URLs that were asked for, in order of their numbers
  pub urls : List Url
  -- how each of these numbers stands
  pub numbers : List Number
  -- the posted numbers, in order of the posts
  pub posts : List ℕ
  -- how many numbers were made by wanted asks, and by asks ahead
  pub wanted : ℕ
  pub ahead : ℕ
  -- what the posts weigh, at most MAX_DELIVERED_BYTES
  pub weight : ℕ
  -- nothing is asked or taken any more
  pub shut : Bool

-- own: what no event comes to
abbrev pub opening : Replay
opening = record { events = 0; callers = 0; urls = []; numbers = []; posts = []; wanted = 0; ahead = 0; weight = 0; shut = false }

-- the URL's number, or the next one
abbrev pub number_for : Replay → Url → ℕ
number_for s url = position_or_len (bytes_eq url) s.urls

-- the URL has a number
abbrev pub is_numbered : Replay → Url → Bool
is_numbered s url = nat_lt (number_for s url) (length s.urls)

-- the list, changed at a place
abbrev pub change_at : {A : Type 0} → List A → ℕ → (A → A) → List A
change_at [] n f = []
change_at (x ∷ xs) zero f = f x ∷ xs
change_at (x ∷ xs) (suc n) f = x ∷ change_at xs n f

-- ---- how a number stands

abbrev pub fresh_number : Why → Number
fresh_number Wanted = record { wanted = true; taker = None; place = None }
fresh_number (Ahead k) = record { wanted = false; taker = None; place = None }

abbrev pub asked_again : Why → Number → Number
asked_again Wanted x = record { wanted = true; taker = x.taker; place = x.place }
asked_again (Ahead k) x = x

abbrev pub taken_by : ℕ → Number → Number
taken_by c x = record { wanted = x.wanted; taker = Some c; place = None }

abbrev pub posted_at : ℕ → Number → Number
posted_at k x = record { wanted = x.wanted; taker = x.taker; place = Some k }

-- no caller has taken it
abbrev pub is_free : Number → Bool
is_free x = not (is_some x.taker)

abbrev pub is_wanted_and_free : Number → Bool
is_wanted_and_free x = x.wanted && is_free x

-- the option has this number
abbrev pub is_the : ℕ → Option ℕ → Bool
is_the n None = false
is_the n (Some m) = m == n

abbrev pub is_out_with : ℕ → Option Number → Bool
is_out_with c None = false
is_out_with c (Some x) = is_the c x.taker && not (is_some x.place)

-- it is taken and posted
abbrev pub has_place : Option Number → Bool
has_place None = false
has_place (Some x) = is_some x.taker && is_some x.place

-- the caller has taken the number and not posted it
abbrev pub is_order : Replay → ℕ → ℕ → Bool
is_order s c n = is_out_with c (slice_get s.numbers n)

abbrev pub is_posted : Replay → ℕ → Bool
is_posted s n = has_place (slice_get s.numbers n)

-- ---- what is taken next

abbrev pub next_by : Option ℕ → Bool → Option ℕ → Option ℕ
next_by (Some n) light later = Some n
next_by None true later = later
next_by None false later = None

-- own: the least free number that is wanted; where there is none, and the posts weigh less than MAX_DELIVERED_BYTES, the least
-- free number
abbrev pub next_order : Replay → Option ℕ
next_order s = next_by (position is_wanted_and_free s.numbers) (nat_lt s.weight MAX_DELIVERED_BYTES) (position is_free s.numbers)

-- ---- steps

abbrev pub made_wanted : Why → ℕ
made_wanted Wanted = 1
made_wanted (Ahead k) = 0

abbrev pub made_ahead : Why → ℕ
made_ahead Wanted = 0
made_ahead (Ahead k) = 1

-- the URL is asked for: one that has a number, and one that gets the next
abbrev pub asked_by : Bool → Replay → ℕ → Url → Why → Replay
asked_by true s n url why = record s { events = s.events + 1; numbers = change_at s.numbers n (asked_again why) }
asked_by false s n url why =
    record s {
      events = s.events + 1;
      urls = s.urls ++ url ∷ [];
      numbers = s.numbers ++ fresh_number why ∷ [];
      wanted = s.wanted + made_wanted why;
      ahead = s.ahead + made_ahead why;
    }

-- a number can be made by such an ask
abbrev pub room_by : Why → ℕ → ℕ → Bool
room_by Wanted wanted ahead = nat_lt wanted MAX_URLS
room_by (Ahead k) wanted ahead = nat_lt ahead MAX_URLS

abbrev pub has_room : Replay → Why → Bool
has_room s why = room_by why s.wanted s.ahead

abbrev pub may_ask : Bool → Replay → Why → Bool
may_ask true s why = true
may_ask false s why = has_room s why

-- own: an ask of this kind may stand here: it is wanted, or something is posted under its number
abbrev pub may_be_ahead : Replay → Why → Bool
may_be_ahead s Wanted = true
may_be_ahead s (Ahead k) = is_posted s k

module _ {P G : Type 0} where
  -- who made an event
  abbrev pub maker_of : MapEvent P G → Option ℕ
  maker_of (Begin g) = None
  maker_of (Enrol c) = Some c
  maker_of (Ask c n url why) = Some c
  maker_of (Take c n) = Some c
  maker_of (Post c n p) = Some c
  maker_of (Shut c) = Some c

  -- the event may stand behind a history that comes to this
  abbrev pub may_come : Replay → MapEvent P G → Bool
  may_come s (Begin g) = s.events == 0
  may_come s (Enrol c) = (c == s.callers) && nat_lt 0 s.events
  may_come s (Ask c n url why) =
      nat_lt c s.callers && (not s.shut
      && (is_usable url && ((n == number_for s url) && (may_ask (is_numbered s url) s why && may_be_ahead s why))))
  may_come s (Take c n) = nat_lt c s.callers && (not s.shut && is_the n (next_order s))
  may_come s (Post c n p) = nat_lt c s.callers && is_order s c n
  may_come s (Shut c) = nat_lt c s.callers && not s.shut

  module _ (weight : P → ℕ) where
    -- own: what one event changes
    abbrev pub step : Replay → MapEvent P G → Replay
    step s (Begin g) = record s { events = s.events + 1 }
    step s (Enrol c) = record s { events = s.events + 1; callers = s.callers + 1 }
    step s (Ask c n url why) = asked_by (is_numbered s url) s n url why
    step s (Take c n) = record s { events = s.events + 1; numbers = change_at s.numbers n (taken_by c) }
    step s (Post c n p) =
        record s {
          events = s.events + 1;
          numbers = change_at s.numbers n (posted_at s.events);
          posts = s.posts ++ n ∷ [];
          weight = min (s.weight + weight (arc_value p)) MAX_DELIVERED_BYTES;
        }
    step s (Shut c) = record s { events = s.events + 1; shut = true }

    abbrev pub replay_from : Replay → List (MapEvent P G) → Replay
    replay_from s [] = s
    replay_from s (e ∷ es) = replay_from (step s e) es

    abbrev pub is_legal_from : Replay → List (MapEvent P G) → Bool
    is_legal_from s [] = true
    is_legal_from s (e ∷ es) = may_come s e && is_legal_from (step s e) es

    -- what a history comes to
    abbrev pub replay : List (MapEvent P G) → Replay
    replay es = replay_from opening es

    -- own: the history begins with its guide, and each event may stand behind those before it
    abbrev pub is_legal : List (MapEvent P G) → Bool
    is_legal es = is_legal_from opening es
