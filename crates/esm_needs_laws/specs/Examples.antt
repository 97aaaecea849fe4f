-- A worked run of which the law speaks.
use Rattle.std.specs.Prelude.{◌≡◌, true, List, [], ◌∷◌, ◌++◌}
use Rattle.esm_base.specs.Urls.{Url, has}
use Rattle.esm_import_map.specs.ImportMap.{no_maps}
use Rattle.esm_realm.specs.Reach.{Reaches}
use Rattle.esm_loads.specs.Loading.{targets}
use Rattle.esm_loads.specs.LoadsView.{every_form}
use Rattle.esm_rewriting.specs.State.{Event, Begins, Ends}
use Rattle.esm_world.specs.World.{World, opening}
use Rattle.esm_world.specs.Run.{Runs}
use Rattle.esm_world.specs.Examples.{main_url, b_url, cycle_main, printing_b}

-- what had happened before the body of the entry began
abbrev pub before_main : List (Event Url)
before_main = Begins b_url ∷ Ends b_url ∷ []

-- an entry that imports a module, which only prints: its body begins, and its request doesn't lead back to it
pub record NeedsOfRun : Type 0 where
  pub world : World
  pub runs : Runs (opening no_maps every_form main_url true) (cycle_main ∷ printing_b ∷ []) world
  pub events : world.engine.events ≡ before_main ++ Begins main_url ∷ Ends main_url ∷ []
  pub requests : has (targets world.loading main_url) b_url ≡ true
  pub apart : Reaches (targets world.loading) b_url main_url → ⊥
