-- What holds of each world of a run, and what is left between two turns.
use Rattle.std.specs.Prelude.{◌≡◌, ℕ, Bool, true, List, [], slice_get, Some, None}
use Rattle.esm_tree.specs.Syntax.{Item}
use Rattle.esm_base.specs.Urls.{Url, has}
use Rattle.esm_import_map.specs.ImportMap.{Maps}
use Rattle.esm_ast.specs.Deliveries.{Delivery}
use Rattle.esm_promise.specs.Promises.{next_job}
use Rattle.esm_loads.specs.Loading.{LoadState}
use Rattle.esm_loads.specs.Arrival.{next}
use Rattle.esm_loads.specs.Whole.{HasEnded}
use Rattle.esm_world.specs.World.{World, opening, stopped}
use Rattle.esm_world.specs.Run.{asks, Runs}
use Rattle.esm_world.specs.Fits.{IsFit}
use Rattle.esm_world.specs.Loaded.{FitsLoading}

-- this holds of each world of a run that no limit has stopped
abbrev pub HoldsOfRuns : (World → Type 0) → Type 0
HoldsOfRuns Holds = (maps : Maps) (built : List Item → Bool) (entry : Url) (trace : Bool) (deliveries : List Delivery) (w : World)
    → Runs (opening maps built entry trace) deliveries w → stopped w ≡ None → Holds w

-- such a world fits; loading is orderly and whole; what is linked is or was Unlinked
pub record RunsFit : Type 0 where
  pub fits : HoldsOfRuns IsFit
  pub loading : HoldsOfRuns (λ w. FitsLoading w.loading)
  pub unlinked : HoldsOfRuns (λ w. (u : Url) → has w.linked u ≡ true → w.loading.unlinked u ≡ true)

-- no job is left, and no pending request of a fetched URL
pub record IsIdle (w : World) : Type 0 where
  pub jobs : next_job w.promises ≡ None
  pub requests : next w.loading ≡ None

-- a turn leaves nothing to do
abbrev pub TurnsLeaveNothing : Type 0
TurnsLeaveNothing = HoldsOfRuns IsIdle

-- where no ask is open, each load has ended
abbrev pub LoadsHaveEnded : Type 0
LoadsHaveEnded = HoldsOfRuns (λ w. asks w ≡ [] → (s : ℕ) (state : LoadState) → slice_get w.loading.loads s ≡ Some state → HasEnded state)
