-- What a machine represents: the standard run of its entry over a list of deliveries.
use Rattle.std.specs.Prelude.{◌≡◌, ◌≢◌, Bool, true, List, [], ◌∷◌, ◌++◌, Option, Some, None, Result, Ok, Err, codes, is_some, length, option_map}
use Rattle.esm_import_map.specs.ImportMap.{Maps}
use Rattle.esm_base.specs.declared.limits.Limit.{Limit}
use Rattle.esm_base.specs.declared.status.Status.TheVariants as statuses
use Rattle.esm_base.specs.Limits.{limit_name}
use Rattle.esm_base.specs.Urls.{Text, Url, has}
use Rattle.esm_base.specs.declared.end.End.{End}
use Rattle.esm_base.specs.declared.end.End.TheVariants as ends
use Rattle.esm_ast.specs.Outcome.{OutcomeView}
use Rattle.esm_ast.specs.Deliveries.{Delivery, completed}
use Rattle.esm_loads.specs.Loading.{Loading}
use Rattle.esm_loads.specs.LoadsView.{every_form}
use Rattle.esm_loads.specs.Arrival.{open_asks}
use Rattle.esm_rewriting.specs.Acts.{Displays}
use Rattle.esm_rewriting.specs.Keeps.{started}
use Rattle.esm_world.specs.World.{World, opening, stopped}
use Rattle.esm_world.specs.LastLine.{Ending, Stopped, ending_by, exit_status}
use Rattle.esm_world.specs.Turn.{Turn}
use Rattle.esm_world.specs.Run.{Runs, Shown, StandardRun, IsAllowed}
use Rattle.esm_machine.specs.Seen.{names, modules}
use Rattle.esm_machine.specs.Held.{Held, EntryHeld, Underway, Ended, Failed, StandsFor, IsHalted, renamed_entry, body_state, opening_held}

-- how a turn ends early: by a limit (`Fault`), or because memory ran out
abbrev pub TurnEnd : Type 0
TurnEnd = End Limit

-- what contracts see of a machine
pub record MachineState : Type 0 where
  pub held : Held
  pub stopped : Option TurnEnd

-- the import map of a machine
abbrev pub maps_of : MachineState → Maps
maps_of m = m.held.seen.loading.maps

-- no limit has stopped the world, and it is stood for
pub record IsLive (h : Held) (w : World) : Type 0 where
  pub live : stopped w ≡ None
  pub stands : StandsFor h w

-- the machine is in the state of the world. After a limit its log and its number of starts are; after it ran out of memory nothing of it is
abbrev pub ShowsBy : Option TurnEnd → Held → World → Type 0
ShowsBy None h w = IsLive h w
ShowsBy (Some (ends.Fault limit)) h w = IsHalted limit h.engine w
ShowsBy (Some ends.Memory) h w = ⊥

abbrev pub Shows : MachineState → World → Type 0
Shows m w = ShowsBy m.stopped m.held w

-- the machine represents these deliveries: it is in the state of the world that they lead to. Every module text can be run
abbrev pub Represents : Maps → Url → Bool → MachineState → List Delivery → Type 0
Represents maps entry trace m deliveries = (w : World) × Runs (opening maps every_form entry trace) deliveries w × Shows m w

-- whatever standard run the machine represents, that run shows this
abbrev pub ShownBy : MachineState → (Shown → Type 0) → Type 0
ShownBy m P = (maps : Maps) (entry : Url) (trace : Bool) (deliveries : List Delivery) (what : Shown)
    → Represents maps entry trace m deliveries → StandardRun maps every_form entry trace deliveries what → P what

-- ---- taking a delivery

-- the URL is among the asks, or the machine has stopped
abbrev pub MayTakeBy : Option TurnEnd → Loading → Url → Type 0
MayTakeBy None l u = has (open_asks l) u ≡ true
MayTakeBy (Some end) l u = Unit {0}

abbrev pub MayTake : MachineState → Url → Type 0
MayTake m u = MayTakeBy m.stopped m.held.seen.loading u

-- for each list that the old machine represents, the new one represents that list with this delivery behind it
abbrev pub RepresentsOn : MachineState → Url → OutcomeView → MachineState → Type 0
RepresentsOn old u c new = (maps : Maps) (entry : Url) (trace : Bool) (deliveries : List Delivery)
    → Represents maps entry trace old deliveries → Represents maps entry trace new (deliveries ++ completed u c ∷ [])

-- a delivery is taken, unless memory runs out
abbrev pub TakesDelivery : MachineState → Url → OutcomeView → Result (Unit {0}) TurnEnd → MachineState → Type 0
TakesDelivery old u c (Ok done) new = (new.stopped ≡ None) × RepresentsOn old u c new
TakesDelivery old u c (Err (ends.Fault limit)) new = (new.stopped ≡ Some (ends.Fault limit)) × RepresentsOn old u c new
TakesDelivery old u c (Err ends.Memory) new = new.stopped ≡ Some ends.Memory

-- ---- what a machine tells

abbrev pub asks_by_stop : Option TurnEnd → Loading → List Url
asks_by_stop None l = open_asks l
asks_by_stop (Some end) l = []

-- the open asks, in order of asking. Where the machine has stopped there are none
abbrev pub asks_of : MachineState → List Url
asks_of m = asks_by_stop m.stopped m.held.seen.loading

abbrev pub ending_by_stop : Option TurnEnd → Held → Option Ending
ending_by_stop None h = ending_by None (open_asks h.seen.loading) (renamed_entry (names h.seen).name h.entry)
ending_by_stop (Some (ends.Fault limit)) h = Some (Stopped limit)
ending_by_stop (Some ends.Memory) h = None

-- none while an ask is open, and after memory ran out
abbrev pub ending_of : MachineState → Option Ending
ending_of m = ending_by_stop m.stopped m.held

-- the machine has stopped by a limit, or hasn't stopped and no ask is open
abbrev pub IsEndedBy : Option TurnEnd → Loading → Type 0
IsEndedBy None l = open_asks l ≡ []
IsEndedBy (Some (ends.Fault limit)) l = Unit {0}
IsEndedBy (Some ends.Memory) l = ⊥

abbrev pub IsEnded : MachineState → Type 0
IsEnded m = IsEndedBy m.stopped m.held.seen.loading

-- a machine that has stopped has done so by the limit that has stopped the run
abbrev pub StoppedAs : Option TurnEnd → Shown → Type 0
StoppedAs None what = what.status ≢ Some statuses.Limit
StoppedAs (Some (ends.Fault limit)) what = (what.status ≡ Some statuses.Limit) × (what.last_line ≡ codes "Limit " ++ limit_name limit)
StoppedAs (Some ends.Memory) what = ⊥

-- the last line, where no limit has stopped the machine: of an uncaught value it has the display text
abbrev pub IsLineBy : Held → List Url → EntryHeld → Text → Type 0
IsLineBy h (u ∷ us) entry line = line ≡ []
IsLineBy h [] Underway line = line ≡ codes "Unsettled"
IsLineBy h [] Ended line = line ≡ []
IsLineBy h [] (Failed v) line = (text : Text) × Displays modules (body_state h) v text × (line ≡ codes "Uncaught " ++ text)

abbrev pub IsLineByStop : Option TurnEnd → Held → Text → Type 0
IsLineByStop None h line = IsLineBy h (open_asks h.seen.loading) h.entry line
IsLineByStop (Some (ends.Fault limit)) h line = line ≡ codes "Limit " ++ limit_name limit
IsLineByStop (Some ends.Memory) h line = ⊥

-- empty before the end. After memory ran out there is none
abbrev pub IsLineOf : MachineState → Text → Type 0
IsLineOf m line = IsLineByStop m.stopped m.held line

-- what a machine tells is what the run shows
pub record Tells (m : MachineState) (what : Shown) : Type 0 where
  pub last_line : (line : Text) → IsLineOf m line → what.last_line ≡ line
  pub asks : what.asks ≡ asks_of m
  pub log : what.log ≡ m.held.engine.log
  pub begun : length (started what.events) ≡ length (started m.held.engine.events)
  pub status : what.status ≡ option_map exit_status (ending_of m)
  pub ended : what.ended ≡ is_some (ending_of m)
  pub stopped : StoppedAs m.stopped what

-- ---- statements

-- a machine that has asked for its entry represents no delivery yet
abbrev pub opening_state : Maps → Url → Bool → MachineState
opening_state maps entry trace = record { held = opening_held maps entry trace; stopped = None }

abbrev pub OpeningRepresents : Type 0
OpeningRepresents = (maps : Maps) (entry : Url) (trace : Bool) → Represents maps entry trace (opening_state maps entry trace) []

-- whatever standard run a machine represents, it tells what that run shows
abbrev pub TellsTheRun : Type 0
TellsTheRun = (m : MachineState) → ShownBy m (Tells m)

-- the import map of a machine that hasn't stopped is that of the run that it represents
abbrev pub KeepsItsMap : Type 0
KeepsItsMap = (maps : Maps) (entry : Url) (trace : Bool) (m : MachineState) (deliveries : List Delivery)
    → Represents maps entry trace m deliveries → m.stopped ≡ None → maps_of m ≡ maps

-- where each world that the old machine shows allows the delivery and has a turn of it that the new one shows, the new one represents one
-- delivery more
abbrev pub TurnsAreTaken : Type 0
TurnsAreTaken = (old new : MachineState) (u : Url) (c : OutcomeView)
    → ((w : World) → Shows old w → IsAllowed w (completed u c) × ((after : World) × (Turn w u c after × Shows new after)))
    → RepresentsOn old u c new
