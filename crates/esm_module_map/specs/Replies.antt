-- What the calls on a map answer, and what they add to its history.
use Rattle.std.specs.Prelude.{◌≡◌, ℕ, Bool, true, false, cond, List, [], ◌∷◌, ◌++◌, slice_get, Option, Some, None, Result, Ok, Err}
use Rattle.esm_base.specs.declared.memory.Memory.{Memory}
use Rattle.esm_hlock.specs.Makers.{names}
use Rattle.esm_base.specs.Urls.{Url}
use Rattle.esm_module_map.specs.declared.event.Why.{Why}
use Rattle.esm_module_map.specs.declared.event.MapEvent.{MapEvent}
use Rattle.esm_module_map.specs.declared.event.MapEvent.TheVariants as event
use Rattle.esm_module_map.specs.declared.reply.Asked.{Asked}
use Rattle.esm_module_map.specs.declared.reply.Asked.TheVariants.{New, Waiting, Here}
use Rattle.esm_module_map.specs.declared.reply.MapEnd.{MapEnd}
use Rattle.esm_module_map.specs.declared.reply.MapEnd.TheVariants as end
use Rattle.esm_module_map.specs.declared.reply.Taken.{Taken}
use Rattle.esm_module_map.specs.declared.reply.Taken.TheVariants as taken
use Rattle.esm_module_map.specs.Replay.{Replay, is_numbered, number_for, is_posted, is_order, has_room, next_order, replay, is_legal, maker_of}

-- the number that an answer has
abbrev pub number_in : Asked → ℕ
number_in (New n) = n
number_in (Waiting n) = n
number_in (Here n) = n

-- how an ask is answered
abbrev pub answer_by : Bool → Bool → ℕ → Asked
answer_by false here n = New n
answer_by true false n = Waiting n
answer_by true true n = Here n

-- how an ask for the URL is answered behind a history that comes to this
abbrev pub answer_for : Replay → Url → Asked
answer_for s url = answer_by (is_numbered s url) (is_posted s (number_for s url)) (number_for s url)

module _ {P G : Type 0} where
  -- the event that a caller makes of an ask
  abbrev pub AskReply : (P → ℕ) → List (MapEvent P G) → ℕ → Url → Why → Result Asked MapEnd → List (MapEvent P G) → Type 0
  AskReply weight found c url why (Ok asked) now =
      (now ≡ found ++ event.Ask c (number_for (replay weight found) url) url why ∷ []) × (asked ≡ answer_for (replay weight found) url)
  AskReply weight found c url why (Err end.Full) now =
      (now ≡ found) × ((replay weight found).shut ≡ false) × (is_numbered (replay weight found) url ≡ false)
      × (has_room (replay weight found) why ≡ false)
  AskReply weight found c url why (Err end.Closed) now = (now ≡ found) × ((replay weight found).shut ≡ true)
  AskReply weight found c url why (Err end.Memory) now = now ≡ found

  -- the event that a caller makes of a take
  abbrev pub TakeReply : (P → ℕ) → List (MapEvent P G) → ℕ → Result Taken Memory → List (MapEvent P G) → Type 0
  TakeReply weight found c (Ok (taken.Order order)) now =
      (now ≡ found ++ event.Take c order.number ∷ []) × (slice_get (replay weight found).urls order.number ≡ Some order.url)
  TakeReply weight found c (Ok taken.NotYet) now =
      (now ≡ found) × ((replay weight found).shut ≡ false) × (next_order (replay weight found) ≡ None)
  TakeReply weight found c (Ok taken.Closed) now = (now ≡ found) × ((replay weight found).shut ≡ true)
  TakeReply weight found c (Err want) now = now ≡ found

  -- a Shut is added where there is none
  abbrev pub ShutReply : (P → ℕ) → List (MapEvent P G) → ℕ → List (MapEvent P G) → Type 0
  ShutReply weight found c now = now ≡ cond (replay weight found).shut found (found ++ event.Shut c ∷ [])

  -- a history begins with what was seen, and behind that no entry has the number
  abbrev pub ContinuesFor : (MapEvent P G → Option ℕ) → List (MapEvent P G) → List (MapEvent P G) → Option ℕ → Type 0
  ContinuesFor maker history seen number =
      (rest : List (MapEvent P G)) × (history ≡ seen ++ rest) × ((k : ℕ) → number ≡ Some k → names maker k rest ≡ 0)

  -- what a caller finds that had seen this
  abbrev pub Found : (P → ℕ) → List (MapEvent P G) → Option ℕ → List (MapEvent P G) → Type 0
  Found weight seen c found = (is_legal weight found ≡ true) × ContinuesFor maker_of found seen c

  -- a call of a caller that had seen this, whose reply is by what it found
  abbrev pub Called : (P → ℕ) → List (MapEvent P G) → Option ℕ → (List (MapEvent P G) → Type 0) → Type 0
  Called weight seen c Reply = (found : List (MapEvent P G)) × Found weight seen c found × Reply found

  -- the caller has taken the number, and not posted it
  abbrev pub IsOrderOf : (P → ℕ) → List (MapEvent P G) → ℕ → ℕ → Type 0
  IsOrderOf weight seen c n = is_order (replay weight seen) c n ≡ true
