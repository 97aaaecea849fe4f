-- What a call changes of what the history has of its caller.
use Rattle.std.specs.Prelude.{◌≡◌, ℕ, true, List, [], ◌∷◌, ◌++◌, slice_get, Some, Result, Ok, Err}
use Rattle.esm_base.specs.declared.memory.Memory.{Memory}
use Rattle.esm_base.specs.Urls.{Url}
use Rattle.esm_module_map.specs.declared.event.MapEvent.{MapEvent}
use Rattle.esm_module_map.specs.declared.reply.Asked.{Asked}
use Rattle.esm_module_map.specs.declared.reply.MapEnd.{MapEnd}
use Rattle.esm_module_map.specs.declared.reply.Taken.{Taken}
use Rattle.esm_module_map.specs.declared.reply.Taken.TheVariants as taken
use Rattle.esm_module_map.specs.Replay.{replay, is_order}
use Rattle.esm_module_map.specs.Replies.{number_in}
use Rattle.esm_module_map.specs.Histories.{asks_by, takes_by, answers_by, shuts_by}

module _ {P G : Type 0} where
  -- the history has grown
  abbrev pub Begins : List (MapEvent P G) → List (MapEvent P G) → Type 0
  Begins old new = (rest : List (MapEvent P G)) × (new ≡ old ++ rest)

  module _ (weight : P → ℕ) where
    -- it has the same of the caller
    abbrev pub SaysSame : ℕ → List (MapEvent P G) → List (MapEvent P G) → Type 0
    SaysSame c seen now =
        (takes_by weight c now ≡ takes_by weight c seen) × (answers_by weight c now ≡ answers_by weight c seen)
        × (asks_by weight c now ≡ asks_by weight c seen) × (shuts_by weight c now ≡ shuts_by weight c seen)

    -- the history has grown, and has the same of the caller
    abbrev pub Stays : ℕ → List (MapEvent P G) → List (MapEvent P G) → Type 0
    Stays c seen now = Begins seen now × SaysSame c seen now

    -- the history has nothing of the caller: it has just enrolled
    abbrev pub SaysNothing : ℕ → List (MapEvent P G) → Type 0
    SaysNothing c h = (takes_by weight c h ≡ []) × (answers_by weight c h ≡ []) × (asks_by weight c h ≡ []) × (shuts_by weight c h ≡ [])

    -- as Stays, but that the caller may have shut the map
    abbrev pub ShutSays : ℕ → List (MapEvent P G) → List (MapEvent P G) → Type 0
    ShutSays c seen now =
        Begins seen now
        × ((takes_by weight c now ≡ takes_by weight c seen) × (answers_by weight c now ≡ answers_by weight c seen)
        × (asks_by weight c now ≡ asks_by weight c seen))

    -- nothing is asked or taken any more
    abbrev pub IsShut : List (MapEvent P G) → Type 0
    IsShut h = (replay weight h).shut ≡ true

    -- the order is the caller's
    pub record IsOrderIn (h : List (MapEvent P G)) (c n : ℕ) (url : Url) : Type 0 where
      pub order : is_order (replay weight h) c n ≡ true
      pub has_url : slice_get (replay weight h).urls n ≡ Some url

    -- what a caller took
    pub record TookOne (c n : ℕ) (url : Url) (seen now : List (MapEvent P G)) : Type 0 where
      pub begins : Begins seen now
      pub takes : takes_by weight c now ≡ takes_by weight c seen ++ url ∷ []
      pub answers : answers_by weight c now ≡ answers_by weight c seen
      pub asks : asks_by weight c now ≡ asks_by weight c seen
      pub shuts : shuts_by weight c now ≡ shuts_by weight c seen
      pub order : IsOrderIn now c n url

    -- what a caller posted
    pub record PostedOne (c n : ℕ) (url : Url) (p : P) (seen now : List (MapEvent P G)) : Type 0 where
      pub begins : Begins seen now
      pub takes : takes_by weight c now ≡ takes_by weight c seen
      pub answers : answers_by weight c now ≡ answers_by weight c seen ++ record { number = n; url = url; payload = p } ∷ []
      pub asks : asks_by weight c now ≡ asks_by weight c seen
      pub shuts : shuts_by weight c now ≡ shuts_by weight c seen

    -- what a caller asked for, and that its number has the URL
    pub record AskedOne (c : ℕ) (url : Url) (asked : Asked) (seen now : List (MapEvent P G)) : Type 0 where
      pub begins : Begins seen now
      pub takes : takes_by weight c now ≡ takes_by weight c seen
      pub answers : answers_by weight c now ≡ answers_by weight c seen
      pub asks : asks_by weight c now ≡ asks_by weight c seen ++ url ∷ []
      pub shuts : shuts_by weight c now ≡ shuts_by weight c seen
      pub has_url : slice_get (replay weight now).urls (number_in asked) ≡ Some url

    -- what a take changes, by its answer
    abbrev pub TakeSays : ℕ → List (MapEvent P G) → Result Taken Memory → List (MapEvent P G) → Type 0
    TakeSays c seen (Ok (taken.Order order)) now = TookOne c order.number order.url seen now
    TakeSays c seen (Ok taken.NotYet) now = Stays c seen now
    TakeSays c seen (Ok taken.Closed) now = Stays c seen now × IsShut now
    TakeSays c seen (Err want) now = Stays c seen now

    -- what an ask changes, by its answer
    abbrev pub AskSays : ℕ → List (MapEvent P G) → Url → Result Asked MapEnd → List (MapEvent P G) → Type 0
    AskSays c seen url (Ok asked) now = AskedOne c url asked seen now
    AskSays c seen url (Err end) now = Stays c seen now
