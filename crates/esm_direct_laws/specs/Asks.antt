-- What a run over clean files has fetched: their closure.
use Rattle.std.specs.Prelude.{◌≡◌, Bool, true, List, Some, All}
use Rattle.esm_base.specs.Urls.{Url, has}
use Rattle.esm_tree.specs.Syntax.{Item}
use Rattle.esm_import_map.specs.ImportMap.{Maps}
use Rattle.esm_ast.specs.Deliveries.{Delivery, Files, AreOfFiles}
use Rattle.esm_world.specs.World.{World, opening}
use Rattle.esm_world.specs.Run.{Runs, Shown, StandardRun}
use Rattle.esm_world.specs.Laws.{urls_of}
use Rattle.esm_world.specs.Direct.{Closure, IsClean}
use Rattle.esm_order_laws.specs.OrderFree.{HasEndedWithin}

-- each of these completed fetches is of a URL of the closure, and came to what the files have
pub record AreOfClosure (maps : Maps) (built : List Item → Bool) (files : Files) (entry : Url) (deliveries : List Delivery) : Type 0 where
  pub inside : All (λ d. Closure maps built files entry d.url) deliveries
  pub of_files : AreOfFiles files deliveries

-- what a run of clean files fetches
pub record AsksClosure : Type 0 where
  -- where each completed fetch of a URL of their closure came to what the files have, each completed fetch is of such a URL, and did
  pub only : (maps : Maps) (built : List Item → Bool) (files : Files) (entry : Url) (trace : Bool) (deliveries : List Delivery) (w : World)
      → IsClean maps built files entry → Runs (opening maps built entry trace) deliveries w
      → All (λ d. Closure maps built files entry d.url → files d.url ≡ Some d.outcome) deliveries
      → AreOfClosure maps built files entry deliveries
  -- where the run has ended, and not by a limit, each URL of their closure was fetched
  pub each : (maps : Maps) (built : List Item → Bool) (files : Files) (entry : Url) (trace : Bool) (deliveries : List Delivery) (what : Shown)
      → IsClean maps built files entry → StandardRun maps built entry trace deliveries what → HasEndedWithin what
      → AreOfFiles files deliveries → (u : Url) → Closure maps built files entry u → has (urls_of deliveries) u ≡ true
