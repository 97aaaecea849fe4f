-- Several URLs asked for in one turn.
use Rattle.std.specs.Prelude.{◌≡◌, ◌⊎◌, ℕ, List, [], ◌∷◌, ◌++◌, map, take, slice_get, Some, Ok, Err}
use Rattle.esm_base.specs.Urls.{Url}
use Rattle.esm_module_map.specs.declared.event.Why.TheVariants.{Wanted}
use Rattle.esm_module_map.specs.declared.event.MapEvent.{MapEvent}
use Rattle.esm_module_map.specs.declared.reply.Asked.{Asked}
use Rattle.esm_module_map.specs.declared.reply.MapEnd.{MapEnd}
use Rattle.esm_module_map.specs.declared.reply.MapEnd.TheVariants.{Memory}
use Rattle.esm_module_map.specs.Replay.{replay}
use Rattle.esm_module_map.specs.Replies.{AskReply, number_in}
use Rattle.esm_module_map.specs.Histories.{asks_by, takes_by, answers_by, shuts_by}
use Rattle.esm_module_map.specs.Saying.{Begins}

module _ {P G : Type 0} (weight : P → ℕ) where
  -- the caller asked for each of these URLs as wanted, one after the other, and was answered so
  abbrev pub AskedAll : List (MapEvent P G) → ℕ → List Url → List Asked → List (MapEvent P G) → Type 0
  AskedAll found c [] [] now = now ≡ found
  AskedAll found c [] (asked ∷ others) now = ⊥
  AskedAll found c (url ∷ urls) [] now = ⊥
  AskedAll found c (url ∷ urls) (asked ∷ others) now =
      (mid : List (MapEvent P G)) × AskReply weight found c url Wanted (Ok asked) mid × AskedAll mid c urls others now

  -- it asked so for the first of them, and then an ask was refused, or memory ran out
  abbrev pub AskedUntil : List (MapEvent P G) → ℕ → List Url → MapEnd → List (MapEvent P G) → Type 0
  AskedUntil found c [] end now = (end ≡ Memory) × (now ≡ found)
  AskedUntil found c (url ∷ urls) end now =
      AskReply weight found c url Wanted (Err end) now
      ⊎ ((asked : Asked) × (mid : List (MapEvent P G)) × AskReply weight found c url Wanted (Ok asked) mid
      × AskedUntil mid c urls end now)

  -- what a caller asked for in one turn, and that its numbers have the URLs
  pub record AskedThese (c : ℕ) (urls : List Url) (asked : List Asked) (seen now : List (MapEvent P G)) : Type 0 where
    pub begins : Begins seen now
    pub takes : takes_by weight c now ≡ takes_by weight c seen
    pub answers : answers_by weight c now ≡ answers_by weight c seen
    pub asks : asks_by weight c now ≡ asks_by weight c seen ++ urls
    pub shuts : shuts_by weight c now ≡ shuts_by weight c seen
    pub have_urls : map (λ a. slice_get (replay weight now).urls (number_in a)) asked ≡ map Some urls

  -- the same where it ended early: it asked for the first of them
  pub record AskedFirst (c : ℕ) (urls : List Url) (seen now : List (MapEvent P G)) : Type 0 where
    pub begins : Begins seen now
    pub takes : takes_by weight c now ≡ takes_by weight c seen
    pub answers : answers_by weight c now ≡ answers_by weight c seen
    pub many : ℕ
    pub asks : asks_by weight c now ≡ asks_by weight c seen ++ take many urls
    pub shuts : shuts_by weight c now ≡ shuts_by weight c seen
