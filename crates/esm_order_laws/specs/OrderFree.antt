-- The order of deliveries doesn't matter: two runs of the same clean files show the same.
use Rattle.std.specs.Prelude.{◌≡◌, ◌≢◌, Bool, true, List, [], Some, None}
use Rattle.esm_base.specs.declared.status.Status.TheVariants as statuses
use Rattle.esm_base.specs.Urls.{Url, has}
use Rattle.esm_tree.specs.Syntax.{Item}
use Rattle.esm_import_map.specs.ImportMap.{Maps}
use Rattle.esm_ast.specs.Deliveries.{Delivery, Files, AreOfFiles}
use Rattle.esm_world.specs.World.{World, opening, stopped}
use Rattle.esm_world.specs.Run.{Runs, Shown, StandardRun}
use Rattle.esm_world.specs.Direct.{IsClean}

-- but for the order in which URLs were asked for, these are the same
pub record ShowSame (one other : Shown) : Type 0 where
  pub asked : (u : Url) → has other.asked u ≡ has one.asked u
  pub log : other.log ≡ one.log
  pub events : other.events ≡ one.events
  pub status : other.status ≡ one.status
  pub last_line : other.last_line ≡ one.last_line

-- the run has ended, and not by a limit
pub record HasEndedWithin (what : Shown) : Type 0 where
  pub ended : what.ended ≡ true
  pub within : what.status ≢ Some statuses.Limit

-- a standard run of these files, which are clean, has ended within the limits
pub record HasCleanRun (maps : Maps) (built : List Item → Bool) (files : Files) (entry : Url) (trace : Bool) (what : Shown) : Type 0 where
  pub clean : IsClean maps built files entry
  pub deliveries : List Delivery
  pub of_files : AreOfFiles files deliveries
  pub run : StandardRun maps built entry trace deliveries what
  pub ends : HasEndedWithin what

-- then no limit stops any run of these files, in whatever order they come
abbrev pub NeverStoppedElse : Type 0
NeverStoppedElse = (maps : Maps) (built : List Item → Bool) (files : Files) (entry : Url) (trace : Bool) (one : Shown)
    (others : List Delivery) (w : World) → HasCleanRun maps built files entry trace one → AreOfFiles files others
    → Runs (opening maps built entry trace) others w → stopped w ≡ None

-- and each that has no open ask shows the same
abbrev pub OrderFree : Type 0
OrderFree = (maps : Maps) (built : List Item → Bool) (files : Files) (entry : Url) (trace : Bool) (one other : Shown)
    (others : List Delivery) → HasCleanRun maps built files entry trace one → AreOfFiles files others
    → StandardRun maps built entry trace others other → other.asks ≡ [] → ShowSame one other
