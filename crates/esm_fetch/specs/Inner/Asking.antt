-- A source that is to be asked for what its caller has taken, and what comes of that.
use Rattle.std.specs.Prelude.{◌≡◌, ◌≤◌, ℕ, nat_eq, length, List, [], ◌∷◌, ◌++◌, map, All, Option, Result, Ok, Err, ⊤}
use Rattle.esm_base.specs.declared.memory.Memory.{Memory}
use Rattle.esm_base.specs.Lists.{EachOnce}
use Rattle.esm_base.specs.Urls.{Url}
use Rattle.esm_import_map.specs.ImportMap.{Maps}
use Rattle.esm_ports.specs.declared.asked.Asked.{Asked}
use Rattle.esm_module_map.specs.declared.event.MapEvent.{MapEvent}
use Rattle.esm_module_map.specs.declared.reply.Filled.{Filled}
use Rattle.esm_module_map.specs.declared.reply.Order.{Order}
use Rattle.esm_module_map.specs.Replay.{replay}
use Rattle.esm_module_map.specs.Saying.{IsOrderIn}
use Rattle.esm_module_map.specs.Batches.{AreFilled, answer_of, number_filled, number_ordered, url_ordered}
use Rattle.esm_module_map.specs.Histories.{Answer, takes_by, answers_by}
use Rattle.esm_fetch.specs.declared.posted.Posted.{Posted}
use Rattle.esm_fetch.specs.declared.working.TheConstants.{BATCH}
use Rattle.esm_fetch.specs.declared.working.Turned.{Turned}
use Rattle.esm_fetch.specs.declared.working.Turned.TheVariants as turned
use Rattle.esm_fetch.specs.Answered.{Contents}
use Rattle.esm_fetch.specs.Serving.{weight, fits, url_in, ask_for, IsTrueAnswer, IsCut}

-- its caller has taken one URL more than it posted, and the source wasn't asked for that
abbrev pub IsAsking : Option Contents → List Asked → List Url → List (Answer Posted) → Url → Type 0
IsAsking holds asked takes answers url =
    (takes ≡ map url_in answers ++ url ∷ []) × (asked ≡ map ask_for answers) × All (IsTrueAnswer holds) answers

module _ {G : Type 0} where
  -- what the caller took was posted under this number
  pub record FilledWith (c n : ℕ) (url : Url) (seen now : List (MapEvent Posted G)) : Type 0 where
    pub answer : Answer Posted
    pub number_is : answer.number ≡ n
    pub url_is : answer.url ≡ url
    pub takes : takes_by weight c now ≡ takes_by weight c seen
    pub answers : answers_by weight c now ≡ answers_by weight c seen ++ answer ∷ []

  -- the same, unless memory ran out
  abbrev pub FilledBy : ℕ → Url → List (MapEvent Posted G) → Result Turned Memory → List (MapEvent Posted G) → Type 0
  FilledBy c url seen (Ok (turned.Posted number)) now = FilledWith c number url seen now
  FilledBy c url seen (Ok turned.NotYet) now = ⊥
  FilledBy c url seen (Ok turned.Closed) now = ⊥
  FilledBy c url seen (Err want) now = ⊤

-- what a caller has posted, and what it is to post
abbrev pub answers_with : ℕ → List (MapEvent Posted Maps) → List (Filled Posted) → List (Answer Posted)
answers_with c h filled = answers_by weight c h ++ map (answer_of (replay weight h)) filled

-- a worker has these fetched, and is still to fetch these, in this order; its source was asked for nothing else
pub record AreInHand (holds : Option Contents) (asked : List Asked) (c : ℕ) (h : List (MapEvent Posted Maps))
    (filled : List (Filled Posted)) (orders : List Order) : Type 0 where
  pub answered : All (IsTrueAnswer holds) (answers_with c h filled)
  pub asked_is : asked ≡ map ask_for (answers_with c h filled)
  pub takes_is : takes_by weight c h ≡ map url_in (answers_with c h filled) ++ map url_ordered orders
  pub own : All (λ order. IsOrderIn weight h c order.number order.url) orders
  pub few : length orders ≤ BATCH
  pub are_filled : AreFilled weight fits h c filled
  pub once : EachOnce nat_eq (map number_filled filled ++ map number_ordered orders)

-- memory ran out before the first of what was still to be fetched came, which the source was asked for at most once
pub record AreCutInHand (holds : Option Contents) (asked : List Asked) (c : ℕ) (h : List (MapEvent Posted Maps))
    (filled : List (Filled Posted)) : Type 0 where
  pub are_filled : AreFilled weight fits h c filled
  pub cut : IsCut BATCH holds asked (takes_by weight c h) (answers_with c h filled)

abbrev pub FetchedBy : {T : Type 0} → Result T Memory → Option Contents → List Asked → ℕ → List (MapEvent Posted Maps)
    → List (Filled Posted) → Type 0
FetchedBy (Ok done) holds asked c h filled = AreInHand holds asked c h filled []
FetchedBy (Err want) holds asked c h filled = AreCutInHand holds asked c h filled
