-- What a source was asked, by what its caller has in the history.
use Rattle.std.specs.Prelude.{◌≡◌, ◌⊎◌, ℕ, ◌<◌, Bool, true, false, List, [], ◌∷◌, ◌++◌, length, map, All, Option, Some, IfSome, Result, Ok, Err, ⊤}
use Rattle.esm_base.specs.declared.memory.Memory.{Memory}
use Rattle.esm_base.specs.Urls.{Url}
use Rattle.esm_ports.specs.declared.asked.Asked.{Asked}
use Rattle.esm_ports.specs.declared.asked.AskKind.{AskKind}
use Rattle.esm_ports.specs.Asks.{asks_with}
use Rattle.esm_ast.specs.Outcome.{OutcomeView, outcome_view}
use Rattle.esm_module_map.specs.declared.event.MapEvent.{MapEvent}
use Rattle.esm_module_map.specs.declared.reply.Taken.TheVariants as taken
use Rattle.esm_module_map.specs.Replies.{Called, TakeReply}
use Rattle.esm_module_map.specs.Saying.{Stays, IsShut}
use Rattle.esm_module_map.specs.Histories.{Answer, takes_by, answers_by}
use Rattle.esm_fetch.specs.declared.posted.Posted.{Posted}
use Rattle.esm_fetch.specs.declared.working.TheConstants.{BATCH}
use Rattle.esm_fetch.specs.declared.working.Turned.{Turned}
use Rattle.esm_fetch.specs.declared.working.Turned.TheVariants as turned
use Rattle.esm_import_map.specs.ImportMap.{Maps}
use Rattle.esm_fetch.specs.Answered.{Contents, kind_of, size_of, requests_in, is_ahead, IsToldOutcome, IsRead}

-- own: how much a payload weighs
abbrev pub weight : Posted → ℕ
weight p = size_of (outcome_view p.outcome)

-- own: by the import map, its targets, if it has them, are what the requests of its outcome resolve to at the URL
abbrev pub fits : Maps → Posted → Url → Bool
fits maps p url = is_ahead maps url (requests_in (outcome_view p.outcome)) p.targets

abbrev pub outcome_in : Answer Posted → OutcomeView
outcome_in a = outcome_view a.payload.outcome

abbrev pub url_in : Answer Posted → Url
url_in a = a.url

-- the ask that a source got for it
abbrev pub ask_for : Answer Posted → Asked
ask_for a = record { url = a.url; kind = kind_of (outcome_in a) }

-- it is read rightly, and where the source tells what it holds, it is of that
abbrev pub IsTrueAnswer : Option Contents → Answer Posted → Type 0
IsTrueAnswer holds a = IsRead (outcome_in a) × IfSome holds (λ contents. IsToldOutcome contents a.url (outcome_in a))

-- own: the source was asked for just what its caller took, in that order, and all of it is posted, as it was answered
pub record IsServed (holds : Option Contents) (asked : List Asked) (takes : List Url) (answers : List (Answer Posted)) : Type 0 where
  pub answered : All (IsTrueAnswer holds) answers
  pub asked_is : asked ≡ map ask_for answers
  pub takes_is : takes ≡ map url_in answers

-- own: the same, but for at most so many URLs that its caller took and didn't post; the source was asked for the first of them
-- at most once, and for the others not at all
pub record IsCut (most : ℕ) (holds : Option Contents) (asked : List Asked) (takes : List Url)
    (answers : List (Answer Posted)) : Type 0 where
  pub answered : All (IsTrueAnswer holds) answers
  pub url : Url
  pub asked_is : (asked ≡ map ask_for answers) ⊎ ((kind : AskKind) × (asked ≡ asks_with (map ask_for answers) url kind))
  pub rest : List Url
  pub few : length rest < most
  pub takes_is : takes ≡ map url_in answers ++ url ∷ rest

module _ {G : Type 0} where
  -- the source of the caller c, by the history that it has seen
  abbrev pub Serves : Option Contents → List Asked → ℕ → List (MapEvent Posted G) → Type 0
  Serves holds asked c h = IsServed holds asked (takes_by weight c h) (answers_by weight c h)

  -- the same where memory may have run out: but for at most so many URLs
  abbrev pub Served : ℕ → Option Contents → List Asked → ℕ → List (MapEvent Posted G) → Type 0
  Served most holds asked c h = Serves holds asked c h ⊎ IsCut most holds asked (takes_by weight c h) (answers_by weight c h)

  -- of a worker, which takes at most BATCH URLs at a time, by whether memory ran out
  abbrev pub ServedIf : Bool → Option Contents → List Asked → ℕ → List (MapEvent Posted G) → Type 0
  ServedIf false holds asked c h = Serves holds asked c h
  ServedIf true holds asked c h = Served BATCH holds asked c h

  -- after a turn that takes one URL: all is posted, unless memory ran out
  abbrev pub ServedBy : {T : Type 0} → Result T Memory → Option Contents → List Asked → ℕ → List (MapEvent Posted G) → Type 0
  ServedBy (Ok turned) holds asked c h = Serves holds asked c h
  ServedBy (Err want) holds asked c h = Served 1 holds asked c h

  -- where a turn ends with a shut map, or memory ran out, the map is shut
  abbrev pub ShutBy : Result Turned Memory → List (MapEvent Posted G) → Type 0
  ShutBy (Ok (turned.Posted number)) h = ⊤
  ShutBy (Ok turned.NotYet) h = ⊤
  ShutBy (Ok turned.Closed) h = IsShut weight h
  ShutBy (Err want) h = IsShut weight h

  -- the caller took one URL more, and posted under its number what came of it
  pub record FilledOne (c n : ℕ) (seen now : List (MapEvent Posted G)) : Type 0 where
    pub answer : Answer Posted
    pub number_is : answer.number ≡ n
    pub takes : takes_by weight c now ≡ takes_by weight c seen ++ answer.url ∷ []
    pub answers : answers_by weight c now ≡ answers_by weight c seen ++ answer ∷ []

  -- what a turn changes: one URL is taken and posted; where it ends with NotYet or Closed nothing is, and the take was
  -- answered so
  abbrev pub TurnSays : ℕ → List (MapEvent Posted G) → Result Turned Memory → List (MapEvent Posted G) → Type 0
  TurnSays c seen (Ok (turned.Posted number)) now = FilledOne c number seen now
  TurnSays c seen (Ok turned.NotYet) now =
      Stays weight c seen now × Called weight seen (Some c) (λ found. TakeReply weight found c (Ok taken.NotYet) now)
  TurnSays c seen (Ok turned.Closed) now =
      Stays weight c seen now × Called weight seen (Some c) (λ found. TakeReply weight found c (Ok taken.Closed) now)
  TurnSays c seen (Err want) now = IsShut weight now
