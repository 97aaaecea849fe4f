-- Statements of `laws`.
use Rattle.std.specs.Prelude.{◌≡◌, ℕ, true, List, Some, IfSome, slice_get}
use Rattle.esm_base.specs.Urls.{Url}
use Rattle.esm_import_map.specs.ImportMap.{Maps}
use Rattle.esm_specifier.specs.Targets.{AreTargets}
use Rattle.esm_ast.specs.Outcome.{outcome_view}
use Rattle.esm_module_map.specs.declared.event.MapEvent.{MapEvent}
use Rattle.esm_module_map.specs.Replay.{replay}
use Rattle.esm_module_map.specs.Histories.{IsPostIn}
use Rattle.esm_module_map.specs.Leading.{guide_in}
use Rattle.esm_module_map.specs.Fitting.{are_fit}
use Rattle.esm_fetch.specs.declared.posted.Posted.{Posted}
use Rattle.esm_fetch.specs.Answered.{requests_in}
use Rattle.esm_fetch.specs.Serving.{weight, fits}

-- in a history whose posts fit, targets that are posted are those of the requests, by the import map with which the history
-- begins
abbrev pub PostsResolve : Type 0
PostsResolve = (maps : Maps) (n : ℕ) (u : Url) (p : Posted) (h : List (MapEvent Posted Maps)) → are_fit weight fits h ≡ true
    → guide_in h ≡ Some maps → slice_get (replay weight h).urls n ≡ Some u → IsPostIn h n p
    → IfSome p.targets (AreTargets maps u (requests_in (outcome_view p.outcome)))
