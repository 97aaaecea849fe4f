-- A worked example: clean files, a run of them within the limits, and their direct run.
use Rattle.std.specs.Prelude.{◌≡◌, Bool, true, false, List, [], ◌∷◌, ◌++◌, Option, Some, None, codes}
use Rattle.esm_base.specs.declared.status.Status.TheVariants as statuses
use Rattle.esm_base.specs.Urls.{Url, same_url}
use Rattle.esm_tree.specs.Syntax as x
use Rattle.esm_ast.specs.Deliveries.{Delivery, Files}
use Rattle.esm_ast.specs.Outcome.{OutcomeView}
use Rattle.esm_import_map.specs.ImportMap.{no_maps}
use Rattle.esm_loads.specs.LoadsView.{every_form}
use Rattle.esm_rewriting.specs.State.{Begins, Ends}
use Rattle.esm_world.specs.World.{World}
use Rattle.esm_world.specs.Run.{Shown}
use Rattle.esm_world.specs.Direct.{DirectRun, MeetsNoLimit, ShowsDirect}
use Rattle.esm_world.specs.Examples.{Run, ended, file, line, main_url, b_url, prints, printing_b}
use Rattle.esm_order_laws.specs.OrderFree.{HasCleanRun, ShowSame}

abbrev pub c_url : Url
c_url = codes "a:/c"

abbrev pub asking_both : Delivery
asking_both = file main_url (codes "import \"./b\"; import \"./c\";") (x.ImportEffect (codes "./b") ∷ x.ImportEffect (codes "./c") ∷ [])

abbrev pub printing_c : Delivery
printing_c = file c_url (codes "print(\"c\");") (prints (codes "c") ∷ [])

abbrev pub file_by : Bool → OutcomeView → Option OutcomeView → Option OutcomeView
file_by true c later = Some c
file_by false c later = later

-- these deliveries as files
abbrev pub files_of : List Delivery → Files
files_of [] u = None
files_of (d ∷ ds) u = file_by (same_url u d.url) d.outcome (files_of ds u)

abbrev pub both_files : Files
both_files = files_of (asking_both ∷ printing_b ∷ printing_c ∷ [])

abbrev pub both_shown : Shown
both_shown = ended statuses.Fulfilled (main_url ∷ b_url ∷ c_url ∷ []) (line (codes "b") ++ line (codes "c")) []
    (Begins b_url ∷ Ends b_url ∷ Begins c_url ∷ Ends c_url ∷ Begins main_url ∷ Ends main_url ∷ [])

-- the files are clean, and a run of them, which shows this, has ended within the limits
abbrev pub CleanRun : Type 0
CleanRun = HasCleanRun no_maps every_form both_files main_url false both_shown

-- so the bodies are run in the same order where the file of the second request is there first
abbrev pub SecondFirst : Type 0
SecondFirst = (other : Shown) → Run (asking_both ∷ printing_c ∷ printing_b ∷ []) other → other.asks ≡ [] → ShowSame both_shown other

-- and the direct run shows it, which meets no limit
pub record CleanDirect : Type 0 where
  pub after : World
  pub direct : DirectRun no_maps every_form both_files main_url false (main_url ∷ b_url ∷ c_url ∷ []) after
  pub shows : ShowsDirect after both_shown
  pub no_limit : MeetsNoLimit no_maps every_form both_files (main_url ∷ b_url ∷ c_url ∷ []) after
