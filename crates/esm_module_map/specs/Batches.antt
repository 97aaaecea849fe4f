-- Several posts and takes in one turn.
use Rattle.std.specs.Prelude.{◌≡◌, ◌<◌, ◌≤◌, ℕ, zero, suc, nat_eq, Bool, true, false, List, [], ◌∷◌, ◌++◌, map, All, slice_get, Some, Result, Ok, Err}
use Rattle.std.specs.Arc.{arc_value}
use Rattle.esm_base.specs.declared.memory.Memory.{Memory}
use Rattle.esm_base.specs.Lists.{EachOnce}
use Rattle.esm_base.specs.Urls.{Url}
use Rattle.esm_module_map.specs.declared.event.MapEvent.{MapEvent}
use Rattle.esm_module_map.specs.declared.event.MapEvent.TheVariants.{Post}
use Rattle.esm_module_map.specs.declared.reply.Filled.{Filled}
use Rattle.esm_module_map.specs.declared.reply.Order.{Order}
use Rattle.esm_module_map.specs.declared.reply.Taken.{Taken}
use Rattle.esm_module_map.specs.declared.reply.Taken.TheVariants as taken
use Rattle.esm_module_map.specs.Fitting.{FitsIn}
use Rattle.esm_module_map.specs.Histories.{Answer, url_at, asks_by, takes_by, answers_by, shuts_by}
use Rattle.esm_module_map.specs.Replay.{Replay, replay, is_order}
use Rattle.esm_module_map.specs.Replies.{TakeReply}
use Rattle.esm_module_map.specs.Saying.{Begins, IsOrderIn}

abbrev pub number_filled : {P : Type 0} → Filled P → ℕ
number_filled f = f.number

abbrev pub number_ordered : Order → ℕ
number_ordered order = order.number

abbrev pub url_ordered : Order → Url
url_ordered order = order.url

-- what was posted, by the URLs that the numbers have
abbrev pub answer_of : {P : Type 0} → Replay → Filled P → Answer P
answer_of s f = record { number = f.number; url = url_at s f.number; payload = arc_value f.payload }

-- what a take found that took nothing, by whether the map was shut, or memory ran out
abbrev pub nothing_by : Result Bool Memory → Result Taken Memory
nothing_by (Ok false) = Ok taken.NotYet
nothing_by (Ok true) = Ok taken.Closed
nothing_by (Err want) = Err want

module _ {P G : Type 0} where
  -- the posts of what a caller has filled, in order
  abbrev pub posts_of : ℕ → List (Filled P) → List (MapEvent P G)
  posts_of c [] = []
  posts_of c (f ∷ fs) = Post c f.number f.payload ∷ posts_of c fs

  module _ (weight : P → ℕ) where
    -- the caller takes so many times, until a take takes nothing: these orders, and nothing else
    abbrev pub TakesAll : ℕ → List (MapEvent P G) → ℕ → List Order → Result Bool Memory → List (MapEvent P G) → Type 0
    TakesAll c found zero orders result now = (orders ≡ []) × (result ≡ Ok false) × (now ≡ found)
    TakesAll c found (suc many) [] result now = TakeReply weight found c (nothing_by result) now
    TakesAll c found (suc many) (order ∷ orders) result now =
        (mid : List (MapEvent P G)) × TakeReply weight found c (Ok (taken.Order order)) mid × TakesAll c mid many orders result now

    -- it takes at most as many times as there are rooms, and where there is one, at least once
    abbrev pub TakesUpTo : ℕ → List (MapEvent P G) → ℕ → List Order → Result Bool Memory → List (MapEvent P G) → Type 0
    TakesUpTo c found rooms orders result now =
        (many : ℕ) × (many ≤ rooms) × (0 < rooms → 0 < many) × TakesAll c found many orders result now

    -- what was filled are orders of the caller, of different numbers, and each fits its URL
    pub record AreFilled (fits : G → P → Url → Bool) (h : List (MapEvent P G)) (c : ℕ) (filled : List (Filled P)) : Type 0 where
      pub once : EachOnce nat_eq (map number_filled filled)
      pub orders : All (λ f. is_order (replay weight h) c f.number ≡ true) filled
      pub fit :
          All (λ f. (url : Url) → slice_get (replay weight h).urls f.number ≡ Some url
          → FitsIn fits h (arc_value f.payload) url) filled

    -- what a caller posted and took in one turn
    pub record TookThese (c : ℕ) (filled : List (Filled P)) (orders : List Order) (seen now : List (MapEvent P G)) : Type 0 where
      pub begins : Begins seen now
      pub takes : takes_by weight c now ≡ takes_by weight c seen ++ map url_ordered orders
      pub answers : answers_by weight c now ≡ answers_by weight c seen ++ map (answer_of (replay weight seen)) filled
      pub asks : asks_by weight c now ≡ asks_by weight c seen
      pub shuts : shuts_by weight c now ≡ shuts_by weight c seen
      pub own : All (λ order. IsOrderIn weight now c order.number order.url) orders
      pub once : EachOnce nat_eq (map number_ordered orders)
