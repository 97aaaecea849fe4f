-- How far the calling thread has come: what it has asked of the module map, and what it has taken.
use Rattle.std.specs.Prelude.{◌≡◌, ℕ, ◌==◌, Bool, true, List, [], ◌∷◌, Option, Some, None, IfSome, All, Result, Ok, Err, slice_get, position, remove}
use Rattle.std.specs.Arc.{arc_value}
use Rattle.std.specs.List.{list_any}
use Rattle.esm_hlock.specs.declared.view.View.{View}
use Rattle.esm_base.specs.declared.memory.Memory.{Memory}
use Rattle.esm_base.specs.Urls.{Url, has}
use Rattle.esm_ports.specs.declared.asked.Asked.{Asked}
use Rattle.esm_ast.specs.Outcome.{outcome_view}
use Rattle.esm_import_map.specs.ImportMap.{Maps}
use Rattle.esm_module_map.specs.declared.event.MapEvent.{MapEvent}
use Rattle.esm_module_map.specs.declared.reply.Heard.{Heard}
use Rattle.esm_module_map.specs.Hearing.{HearsPosts}
use Rattle.esm_module_map.specs.Replay.{replay}
use Rattle.esm_module_map.specs.Histories.{IsPostIn, asks_by, takes_by, answers_by}
use Rattle.esm_fetch.specs.declared.posted.Posted.{Posted}
use Rattle.esm_fetch.specs.Answered.{Contents}
use Rattle.esm_fetch.specs.Serving.{weight, Served}
use Rattle.esm_loads.specs.Arrival.{AreResolved}
use Rattle.esm_loads.specs.LoadsView.{every_form}
use Rattle.esm_world.specs.World.{World, opening}
use Rattle.esm_world.specs.Run.{Runs, Shown, StandardRun}
use Rattle.esm_ast.specs.Deliveries.{Delivery}
use Rattle.esm_machine.specs.Machine.{MachineParts, state_of}
use Rattle.esm_machine.specs.Represents.{MachineState, Represents, ShownBy, asks_of, maps_of}
use Rattle.esm_run.specs.declared.tickets.Chosen.{Chosen}
use Rattle.esm_run.specs.declared.tickets.Ticket.{Ticket}

-- ---- tickets

-- the ticket has this number
abbrev pub is_for : ℕ → Ticket → Bool
is_for n ticket = ticket.number == n

-- some ticket has it
abbrev pub has_ticket : List Ticket → ℕ → Bool
has_ticket tickets n = list_any (is_for n) tickets

-- some ticket has the post's
abbrev pub is_awaited : List Ticket → Heard Posted → Bool
is_awaited tickets post = has_ticket tickets post.number

-- own: the ticket is for the post that came first of those that have one, what was posted is with it, and that post leaves the others
abbrev pub IsFirstPosted : List Ticket → List (Heard Posted) → Option Chosen → List (Heard Posted) → Type 0
IsFirstPosted tickets posted None left = (position (is_awaited tickets) posted ≡ None) × (left ≡ posted)
IsFirstPosted tickets posted (Some chosen) left =
    (place : ℕ) × (post : Heard Posted) × (position (is_awaited tickets) posted ≡ Some place) × (slice_get posted place ≡ Some post)
    × (post.number ≡ chosen.ticket.number) × (post.payload ≡ chosen.payload) × (left ≡ remove posted place)

-- ---- what is taken

-- own: the machine represents what was taken, and each delivery came about so
pub record IsDriven (Delivered : Delivery → Type 0) (maps : Maps) (entry : Url) (trace : Bool) (machine : MachineParts)
    (taken : List Delivery) : Type 0 where
  pub represents : Represents maps entry trace (state_of machine) taken
  pub delivered : All Delivered taken

-- own: what was taken is allowed and leads to a world, and each delivery came about so
pub record IsCutShort (Delivered : Delivery → Type 0) (maps : Maps) (entry : Url) (trace : Bool) (taken : List Delivery) : Type 0 where
  pub world : World
  pub runs : Runs (opening maps every_form entry trace) taken world
  pub delivered : All Delivered taken

-- own: a machine that has no open ask, or none, since memory ran out
abbrev pub EndsDriven : (Delivery → Type 0) → Maps → Url → Bool → Option MachineParts → List Delivery → Type 0
EndsDriven Delivered maps entry trace (Some machine) taken =
    IsDriven Delivered maps entry trace machine taken × (asks_of (state_of machine) ≡ [])
EndsDriven Delivered maps entry trace None taken = IsCutShort Delivered maps entry trace taken

-- the URL is an open ask of whatever standard run the machine represents
abbrev pub IsOpenAsk : MachineParts → Url → Type 0
IsOpenAsk m url = ShownBy (state_of m) (λ what. has what.asks url ≡ true)

-- as long as the machine goes on, targets that were posted under the URL are by its import map
abbrev pub IsResolved : MachineState → Url → Posted → Type 0
IsResolved m url posted =
    m.stopped ≡ None → IfSome posted.targets (AreResolved (maps_of m) url (outcome_view posted.outcome))

-- a history of a run's module map: its guide is the import map
abbrev pub History : Type 0
History = List (MapEvent Posted Maps)

-- the standard run of what was taken has asked for the URL
abbrev pub IsStandardAsk : Maps → Url → Bool → List Delivery → Url → Type 0
IsStandardAsk maps entry trace taken url = (what : Shown) → StandardRun maps every_form entry trace taken what → has what.asked url ≡ true

module _ {G : Type 0} where
  -- the ticket's number has its URL
  abbrev pub HasTicket : List (MapEvent Posted G) → Ticket → Type 0
  HasTicket h ticket = slice_get (replay weight h).urls ticket.number ≡ Some ticket.url

  -- further posts were heard of: those of the history from `known` on, in their order
  abbrev pub HearsMore : List (MapEvent Posted G) → ℕ → List (Heard Posted) → ℕ → List (Heard Posted) → Type 0
  HearsMore h known heard known_now heard_now = HearsPosts weight h known heard known_now heard_now

  -- the history has the post
  abbrev pub IsHeard : List (MapEvent Posted G) → Heard Posted → Type 0
  IsHeard h post = IsPostIn h post.number (arc_value post.payload)

  -- the delivery is what was posted under a number that has its URL
  pub record WasPosted (h : List (MapEvent Posted G)) (delivery : Delivery) : Type 0 where
    pub number : ℕ
    pub payload : Posted
    pub has_url : slice_get (replay weight h).urls number ≡ Some delivery.url
    pub posted : IsPostIn h number payload
    pub outcome : outcome_view payload.outcome ≡ delivery.outcome

  -- each URL that the caller has asked for is one that the standard run asks for
  abbrev pub AsksStandard : Maps → Url → Bool → List Delivery → ℕ → List (MapEvent Posted G) → Type 0
  AsksStandard maps entry trace taken c h = All (IsStandardAsk maps entry trace taken) (asks_by weight c h)

  -- so it stays as the history grows
  abbrev pub AsksOn : Maps → Url → Bool → List Delivery → ℕ → List (MapEvent Posted G) → List (MapEvent Posted G) → Type 0
  AsksOn maps entry trace taken c old new = AsksStandard maps entry trace taken c old → AsksStandard maps entry trace taken c new

  -- the caller has taken and posted what it had
  abbrev pub KeepsServing : ℕ → List (MapEvent Posted G) → List (MapEvent Posted G) → Type 0
  KeepsServing c old new = (takes_by weight c new ≡ takes_by weight c old) × (answers_by weight c new ≡ answers_by weight c old)

  -- the machine represents what was taken, all of it was posted, and the caller asks as the standard run
  pub record IsLed (maps : Maps) (entry : Url) (trace : Bool) (c : ℕ) (h : List (MapEvent Posted G)) (machine : MachineParts)
      (taken : List Delivery) : Type 0 where
    pub driven : IsDriven (WasPosted h) maps entry trace machine taken
    pub asks : AsksStandard maps entry trace taken c h

  -- the same where memory ran out: what was taken has a standard run
  pub record IsLedShort (maps : Maps) (entry : Url) (trace : Bool) (c : ℕ) (h : List (MapEvent Posted G))
      (taken : List Delivery) : Type 0 where
    pub cut : IsCutShort (WasPosted h) maps entry trace taken
    pub asks : AsksStandard maps entry trace taken c h

  abbrev pub LeadsOn : {T : Type 0} → Maps → Url → Bool → Result T Memory → ℕ → List (MapEvent Posted G) → MachineParts
      → List Delivery → Type 0
  LeadsOn maps entry trace (Ok done) c h machine taken = IsLed maps entry trace c h machine taken
  LeadsOn maps entry trace (Err want) c h machine taken = IsLedShort maps entry trace c h taken

  -- the run went to its end, or memory ran out
  abbrev pub Leads : Maps → Url → Bool → Result MachineParts Memory → ℕ → List (MapEvent Posted G) → List Delivery → Type 0
  Leads maps entry trace (Ok machine) c h taken = IsLed maps entry trace c h machine taken × (asks_of (state_of machine) ≡ [])
  Leads maps entry trace (Err want) c h taken = IsLedShort maps entry trace c h taken

  -- ---- the sources and their callers

  -- a caller that has this number alone, and has asked for, taken and posted nothing
  pub record IsNew (c : ℕ) (v : View (MapEvent Posted G)) : Type 0 where
    pub own : v.numbers ≡ c ∷ []
    pub unasked : asks_by weight c v.seen ≡ []
    pub untaken : takes_by weight c v.seen ≡ []
    pub unanswered : answers_by weight c v.seen ≡ []

  -- each source was asked for what its caller took, by the history, but for at most four URLs where memory ran out; and what the
  -- caller asked for has the property
  abbrev pub AreServed : {S : Type 0} → (S → Option Contents) → (S → List Asked) → (Url → Type 0) → List (MapEvent Posted G) → List ℕ
      → List S → Type 0
  AreServed holds_of asked_of Q h [] [] = Unit {0}
  AreServed holds_of asked_of Q h (c ∷ cs) (s ∷ ss) =
      (Served 4 (holds_of s) (asked_of s) c h × All Q (asks_by weight c h)) × AreServed holds_of asked_of Q h cs ss
  AreServed holds_of asked_of Q h [] (s ∷ ss) = ⊥
  AreServed holds_of asked_of Q h (c ∷ cs) [] = ⊥

  -- the callers of a view, and their sources, behind a run that has ended
  pub record IsShared {S : Type 0} (holds_of : S → Option Contents) (asked_of : S → List Asked) (maps : Maps) (entry : Url) (trace : Bool)
      (v : View (MapEvent Posted G)) (machine : Option MachineParts) (taken : List Delivery) (sources : List S) : Type 0 where
    pub served : AreServed holds_of asked_of (IsStandardAsk maps entry trace taken) v.seen v.numbers sources
    pub ends : EndsDriven (WasPosted v.seen) maps entry trace machine taken
