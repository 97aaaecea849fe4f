-- The laws of worlds that fit.
use Rattle.std.specs.Prelude.{◌≡◌, Bool, true, List, Some, None, Result}
use Rattle.esm_base.specs.declared.limits.Limit.{Limit}
use Rattle.esm_base.specs.Urls.{Url, has, same_url}
use Rattle.esm_tree.specs.Syntax.{Item}
use Rattle.esm_import_map.specs.ImportMap.{Maps}
use Rattle.esm_ast.specs.Outcome.{OutcomeView}
use Rattle.esm_values.specs.Value.{Value}
use Rattle.esm_promise.specs.Promises.{Settled}
use Rattle.esm_loads.specs.UrlTable.{Entries}
use Rattle.esm_loads.specs.Loading.{Loading}
use Rattle.esm_loads.specs.Host.{Host}
use Rattle.esm_loads.specs.Arrival.{AnswersNext}
use Rattle.esm_loads.specs.ImportCall.{BeginsImport}
use Rattle.esm_eval.specs.Keeping.{HasOutcomes}
use Rattle.esm_rewriting.specs.State.{State}
use Rattle.esm_rewriting.specs.Bodies.{Taken, take_standing, ResumesBody}
use Rattle.esm_world.specs.World.{World, opening, host_of, with_host, modules_in, body_state, with_state}
use Rattle.esm_world.specs.Layers.{CallsForBody, evaluation, with_linked}
use Rattle.esm_world.specs.Turn.{fetched}
use Rattle.esm_world.specs.Fits.{IsLinkedModule, AreModules, IsKnownValue, FitSettled, FitsWorld, IsFit}

-- the opening world fits; the end of a fetch, an answer of a pending request, and that more modules are linked, keep it
pub record WorldsFit : Type 0 where
  pub opens : (maps : Maps) (built : List Item → Bool) (entry : Url) (trace : Bool) → IsFit (opening maps built entry trace)
  pub fetches : (w : World) (u : Url) (c : OutcomeView) → IsFit w → w.loading.entries u ≡ None → has w.loading.asked u ≡ true
      → IsFit (fetched w u c)
  pub answers : (w : World) (h : Host) → IsFit w → AnswersNext (host_of w) h
      → FitsWorld w.linked w.loading.entries (with_host w h)
  pub links : (linked more : List Url) (entries : Entries) (w : World) → AreModules linked entries → AreModules more entries
      → ((u : Url) → IsLinkedModule linked entries u → IsLinkedModule more entries u)
      → FitsWorld linked entries w → FitsWorld more entries (with_linked w more)

-- in worlds that fit each call of evaluation has an outcome that fits
abbrev pub HasFitEvaluation : Type 0
HasFitEvaluation = (linked : List Url) (entries : Entries) → AreModules linked entries
    → HasOutcomes evaluation CallsForBody (FitsWorld linked entries) (IsLinkedModule linked entries) (IsKnownValue linked entries)

-- and so has a body that stands at an await and goes on
abbrev pub HasFitResumption : Type 0
HasFitResumption = (linked : List Url) (entries : Entries) → AreModules linked entries
    → (w : World) (m : Url) (t : Taken Url) (how : Settled (Value Url)) → FitsWorld linked entries w → IsLinkedModule linked entries m
    → take_standing same_url w.engine.standing m ≡ Some t → FitSettled linked entries how
    → (end : Result (Unit {0}) Limit) × ((s : State Url Loading)
    × (ResumesBody same_url modules_in BeginsImport (body_state w) m how end s × FitsWorld linked entries (with_state w s)))
