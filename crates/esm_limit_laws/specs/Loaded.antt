-- The order of deliveries doesn't matter once all files are loaded, also where a limit stops the run then.
use Rattle.std.specs.Prelude.{◌≡◌, Bool, true, List, [], ◌++◌, Some, None, codes, ◌⊎◌}
use Rattle.esm_base.specs.declared.limits.Limit.TheVariants.{L1, L2}
use Rattle.esm_base.specs.declared.status.Status.TheVariants as statuses
use Rattle.esm_base.specs.Limits.{limit_name}
use Rattle.esm_base.specs.Urls.{Text, Url}
use Rattle.esm_tree.specs.Syntax.{Item}
use Rattle.esm_import_map.specs.ImportMap.{Maps}
use Rattle.esm_ast.specs.Deliveries.{Delivery, Files, AreOfFiles}
use Rattle.esm_world.specs.World.{World, opening}
use Rattle.esm_world.specs.Run.{Runs, Shown, StandardRun}
use Rattle.esm_world.specs.Direct.{IsClean}
use Rattle.esm_order_laws.specs.OrderFree.{ShowSame}

-- the last line names a limit of loading: that of URLs, or that of delivered bytes
abbrev pub NamesLoadingLimit : Text → Type 0
NamesLoadingLimit line = (line ≡ codes "Limit " ++ limit_name L1) ⊎ (line ≡ codes "Limit " ++ limit_name L2)

-- such a limit has stopped the run
pub record StoppedLoading (what : Shown) : Type 0 where
  pub limited : what.status ≡ Some statuses.Limit
  pub named : NamesLoadingLimit what.last_line

-- the run has ended, and no limit of loading has stopped it
pub record HasEndedLoaded (what : Shown) : Type 0 where
  pub ended : what.ended ≡ true
  pub loaded : StoppedLoading what → ⊥

-- a standard run of these files, which are clean, has ended so
pub record HasLoadedRun (maps : Maps) (built : List Item → Bool) (files : Files) (entry : Url) (trace : Bool) (what : Shown) : Type 0 where
  pub clean : IsClean maps built files entry
  pub deliveries : List Delivery
  pub of_files : AreOfFiles files deliveries
  pub run : StandardRun maps built entry trace deliveries what
  pub ends : HasEndedLoaded what

-- then no limit stops loading in any run of these files, in whatever order they come
abbrev pub NeverStoppedLoading : Type 0
NeverStoppedLoading = (maps : Maps) (built : List Item → Bool) (files : Files) (entry : Url) (trace : Bool) (one : Shown)
    (others : List Delivery) (w : World) → HasLoadedRun maps built files entry trace one → AreOfFiles files others
    → Runs (opening maps built entry trace) others w → w.loading.stopped ≡ None

-- and each that has no open ask shows the same
abbrev pub OrderFreeLoaded : Type 0
OrderFreeLoaded = (maps : Maps) (built : List Item → Bool) (files : Files) (entry : Url) (trace : Bool) (one other : Shown)
    (others : List Delivery) → HasLoadedRun maps built files entry trace one → AreOfFiles files others
    → StandardRun maps built entry trace others other → other.asks ≡ [] → ShowSame one other
