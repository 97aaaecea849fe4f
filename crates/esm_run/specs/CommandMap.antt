-- The import map of a command: what the desk is asked, and what comes of it.
use Rattle.std.specs.Prelude.{◌≡◌, ℕ, List, ◌++◌, codes, take, Option, Some, None, IfSome, IsSomeAnd, Result, Ok, Err}
use Rattle.url.specs.Parts.{Parts}
use Rattle.esm_base.specs.Urls.{Text, Url}
use Rattle.esm_base.specs.declared.limits.TheConstants.{MAX_BODY_BYTES}
use Rattle.esm_ports.specs.declared.asked.Asked.{Asked}
use Rattle.esm_ports.specs.declared.asked.AskKind.{AskKind}
use Rattle.esm_ports.specs.declared.asked.AskKind.TheVariants.{Body, Absent, Failed}
use Rattle.esm_ports.specs.Asks.{asks_with}
use Rattle.esm_import_map.specs.declared.fault.MapFault.{MapFault}
use Rattle.esm_import_map.specs.declared.fault.MapFault.TheVariants.{M1, M2, M3, M4}
use Rattle.esm_import_map.specs.ImportMap.{Maps, no_maps}
use Rattle.esm_import_map.specs.Reading.{import_map_of}
use Rattle.esm_arguments.specs.declared.command.Command.{Command}
use Rattle.esm_run.specs.declared.command_map.MapRefusal.{MapRefusal}
use Rattle.esm_run.specs.declared.command_map.MapRefusal.TheVariants.{NotFetched, NotRead}
use Rattle.esm_fetch.specs.Answered.{Contents}

-- what contracts see of the desk as a call begins and at its return: what it was asked, and what it holds, where it
-- tells
pub record DeskChange : Type 0 where
  pub asked_before : List Asked
  pub asked_after : List Asked
  pub holds : Option Contents

abbrev pub desk_change : {S : Type 0} → (S → List Asked) → (S → Option Contents) → S → S → DeskChange
desk_change asked_of holds_of old new = record {
  asked_before = asked_of old;
  asked_after = asked_of new;
  holds = holds_of old;
}

abbrev pub IsUnasked : DeskChange → Type 0
IsUnasked desk = desk.asked_after ≡ desk.asked_before

-- the desk was asked once, for this URL, and answered so
abbrev pub WasAsked : DeskChange → Url → AskKind → Type 0
WasAsked desk url kind = desk.asked_after ≡ asks_with desk.asked_before url kind

-- ---- what the desk's answer says

-- where the desk tells what it holds, these bytes are the first, or all, of what it holds for the URL
abbrev pub AreHeld : Option Contents → Url → List ℕ → Type 0
AreHeld holds url bytes = IfSome holds (λ contents. IsSomeAnd (contents url) (λ held. bytes ≡ take MAX_BODY_BYTES held))

-- where it tells, it holds nothing for the URL
abbrev pub IsMissing : Option Contents → Url → Type 0
IsMissing holds url = IfSome holds (λ contents. contents url ≡ None)

-- by what the bytes say
abbrev pub said_by : Result Maps MapFault → Result Maps MapRefusal
said_by (Ok maps) = Ok maps
said_by (Err fault) = Err (NotRead fault)

-- HTML, parse an import map string, with the URL of BASE as base URL
abbrev pub map_said : List ℕ → Parts → Result Maps MapRefusal
map_said bytes base = said_by (import_map_of bytes base)

-- the desk was asked once, for this URL, and this came of it: no map where it answered Absent or Failed, else what the
-- bytes say
pub data ReadsMap (desk : DeskChange) (base : Parts) (url : Url) (said : Result Maps MapRefusal) : Type 0 where
  NoFile : WasAsked desk url Absent → IsMissing desk.holds url → said ≡ Err NotFetched → ReadsMap desk base url said
  NoAnswer : WasAsked desk url Failed → said ≡ Err NotFetched → ReadsMap desk base url said
  Read : (bytes : List ℕ) → WasAsked desk url Body → AreHeld desk.holds url bytes → said ≡ map_said bytes base
      → ReadsMap desk base url said

-- what comes of the import map of a command: without `--map` the empty map, and nothing is asked
abbrev pub MapBy : Option Url → Parts → DeskChange → Result Maps MapRefusal → Type 0
MapBy None base desk said = IsUnasked desk × (said ≡ Ok no_maps)
MapBy (Some url) base desk said = ReadsMap desk base url said

abbrev pub MapOf : Command → DeskChange → Result Maps MapRefusal → Type 0
MapOf command desk said = MapBy command.map command.base desk said

-- the import map of a command, where it is known: without `--map` the empty one, else what the held bytes say, where
-- the desk tells what it holds and answered with a body
pub record HoldsMap (desk : DeskChange) (base : Parts) (url : Url) (maps : Maps) : Type 0 where
  pub contents : Contents
  pub tells : desk.holds ≡ Some contents
  pub held : List ℕ
  pub here : contents url ≡ Some held
  pub answered : WasAsked desk url Body
  pub said : import_map_of held base ≡ Ok maps

abbrev pub KnownBy : Option Url → Parts → DeskChange → Maps → Type 0
KnownBy None base desk maps = maps ≡ no_maps
KnownBy (Some url) base desk maps = HoldsMap desk base url maps

abbrev pub KnownMap : Command → DeskChange → Maps → Type 0
KnownMap command desk maps = KnownBy command.map command.base desk maps

-- the bytes of the import map, as the desk answered them, which say these maps; none without `--map`
abbrev pub AreGiven : Option Url → Parts → DeskChange → Maps → Option (List ℕ) → Type 0
AreGiven None base desk maps bytes = bytes ≡ None
AreGiven (Some url) base desk maps bytes =
    (answer : List ℕ) × (bytes ≡ Some answer) × AreHeld desk.holds url answer × (map_said answer base ≡ Ok maps)

-- ---- what is written where there is no map

-- own: the fault of an import map, as it is printed
abbrev pub fault_text : MapFault → Text
fault_text M1 = codes "M1 no JSON text"
fault_text M2 = codes "M2 not an object"
fault_text M3 = codes "M3 imports or scopes not an object"
fault_text M4 = codes "M4 two keys collide"

-- own: why there is no import map
abbrev pub reason_of : Url → MapRefusal → Text
reason_of url NotFetched = codes "cannot fetch " ++ url
reason_of url (NotRead fault) = fault_text fault

-- own: the line that says it
abbrev pub refusal_text : Url → MapRefusal → Text
refusal_text url refusal = codes "import map refused: " ++ reason_of url refusal ++ codes "\n"
