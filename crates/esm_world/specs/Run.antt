-- The standard run: all turns of a list of deliveries, and what it shows. own, as far as no algorithm is named
use Rattle.std.specs.Prelude.{◌≡◌, Bool, true, List, [], ◌∷◌, Option, is_some, option_map}
use Rattle.esm_tree.specs.Syntax.{Item}
use Rattle.esm_import_map.specs.ImportMap.{Maps}
use Rattle.esm_base.specs.declared.status.Status.{Status}
use Rattle.esm_base.specs.Urls.{Text, Url, has}
use Rattle.esm_ast.specs.Deliveries.{Delivery, asks_by}
use Rattle.esm_ast.specs.Outcome.{OutcomeView, Script, Broken, Absent, Failed}
use Rattle.esm_ast.specs.ModuleTree.{IsModuleTree}
use Rattle.esm_loads.specs.Arrival.{open_asks}
use Rattle.esm_rewriting.specs.State.{Event}
use Rattle.esm_world.specs.World.{World, opening, stopped}
use Rattle.esm_world.specs.Turn.{Turn}
use Rattle.esm_world.specs.LastLine.{Ending, ending_by, exit_status, IsLastLine}

-- the open asks, in order of asking. Where a limit has stopped the world there are none
abbrev pub asks : World → List Url
asks w = asks_by (stopped w) (open_asks w.loading)

-- the tree of a script is a module's
abbrev pub HasModuleTree : OutcomeView → Type 0
HasModuleTree (Script text) = IsModuleTree text.items
HasModuleTree (Broken broken) = Unit {0}
HasModuleTree Absent = Unit {0}
HasModuleTree Failed = Unit {0}

-- a delivery is allowed where its URL is an open ask, and the tree of its script, if it has one, is a module's
pub record IsAllowed (w : World) (d : Delivery) : Type 0 where
  pub asked : has (asks w) d.url ≡ true
  pub tree : HasModuleTree d.outcome

-- each delivery is allowed at its turn, and the turns lead from before to after
abbrev pub Runs : World → List Delivery → World → Type 0
Runs before [] after = after ≡ before
Runs before (d ∷ ds) after = IsAllowed before d × (mid : World) × Turn before d.url d.outcome mid × Runs mid ds after

-- ---- what a run shows

-- none while an ask is open
abbrev pub ending : World → Option Ending
ending w = ending_by (stopped w) (asks w) w.entry

pub record Shown : Type 0 where
  -- all asks so far, in order of asking
  pub asked : List Url
  -- those that are open
  pub asks : List Url
  -- no ask is open, or a limit has stopped the run
  pub ended : Bool
  -- none before the end
  pub status : Option Status
  -- without the last line
  pub log : Text
  -- empty before the end, and where the status is Fulfilled
  pub last_line : Text
  -- the starts and ends of bodies, in order
  pub events : List (Event Url)

abbrev pub shown : World → Text → Shown
shown w line = record {
  asked = w.loading.asked;
  asks = asks w;
  ended = is_some (ending w);
  status = option_map exit_status (ending w);
  log = w.engine.log;
  last_line = line;
  events = w.engine.events;
}

-- the standard run of an entry over this list of deliveries shows this: under this import map, where these are the module texts that
-- can be run, with or without trace lines
pub record StandardRun (maps : Maps) (built : List Item → Bool) (entry : Url) (trace : Bool) (deliveries : List Delivery)
    (what : Shown) : Type 0 where
  pub world : World
  pub line : Text
  pub runs : Runs (opening maps built entry trace) deliveries world
  pub last_line : IsLastLine world (ending world) line
  pub shows : what ≡ shown world line
