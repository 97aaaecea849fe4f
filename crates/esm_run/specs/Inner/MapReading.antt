-- What the functions that fetch and read an import map answer.
use Rattle.std.specs.Prelude.{◌≡◌, ℕ, List, ◌⊎◌, Option, Some, None, Result, Ok, Err, Vec, option_map}
use Rattle.url.specs.Parts.{Parts}
use Rattle.esm_base.specs.declared.end.End.{End}
use Rattle.esm_base.specs.declared.end.End.TheVariants.{Fault, Memory}
use Rattle.esm_base.specs.Urls.{Url}
use Rattle.esm_ports.specs.declared.asked.AskKind.TheVariants.{Body}
use Rattle.esm_arguments.specs.declared.command.Command.{Command}
use Rattle.esm_run.specs.declared.command_map.GivenMap.{GivenMap}
use Rattle.esm_run.specs.declared.command_map.MapRefusal.{MapRefusal}
use Rattle.esm_run.specs.CommandMap.{DeskChange, IsUnasked, WasAsked, AreGiven, ReadsMap, MapOf, map_said}

-- the desk wasn't asked, or it answered with a body that is lost
abbrev pub AsksAtMost : Url → DeskChange → Type 0
AsksAtMost url desk = IsUnasked desk ⊎ WasAsked desk url Body

abbrev pub items_of : {A : Type 0} → Option (Vec ℕ A) → Option (List ℕ)
items_of bytes = option_map (λ v. v.items) bytes

abbrev pub bytes_of : GivenMap → Option (List ℕ)
bytes_of given = items_of given.bytes

-- the bytes say this, and are kept with their map
abbrev pub GivesFrom : Result GivenMap (End MapRefusal) → List ℕ → Parts → Type 0
GivesFrom (Ok given) bytes base = (map_said bytes base ≡ Ok given.map) × (bytes_of given ≡ Some bytes)
GivesFrom (Err (Fault refusal)) bytes base = map_said bytes base ≡ Err refusal
GivesFrom (Err Memory) bytes base = Unit {0}

-- one fetch of the map gives this result: the map with its bytes, or why there is none, unless memory ran out
abbrev pub FetchesMap : Result GivenMap (End MapRefusal) → Parts → Url → DeskChange → Type 0
FetchesMap (Ok given) base url desk = ReadsMap desk base url (Ok given.map) × AreGiven (Some url) base desk given.map (bytes_of given)
FetchesMap (Err (Fault refusal)) base url desk = ReadsMap desk base url (Err refusal)
FetchesMap (Err Memory) base url desk = AsksAtMost url desk

abbrev pub MayHaveAsked : Option Url → DeskChange → Type 0
MayHaveAsked None desk = IsUnasked desk
MayHaveAsked (Some url) desk = AsksAtMost url desk

-- the result is the import map of the command, or why there is none, unless memory ran out
abbrev pub GivesMapOf : Result GivenMap (End MapRefusal) → Command → DeskChange → Type 0
GivesMapOf (Ok given) command desk = MapOf command desk (Ok given.map)
    × AreGiven command.map command.base desk given.map (bytes_of given)
GivesMapOf (Err (Fault refusal)) command desk = MapOf command desk (Err refusal)
GivesMapOf (Err Memory) command desk = MayHaveAsked command.map desk
