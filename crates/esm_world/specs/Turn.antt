-- A turn of the world: a fetch ends.
use Rattle.std.specs.Prelude.{◌≡◌, Some, None}
use Rattle.esm_base.specs.declared.limits.Limit.{Limit}
use Rattle.esm_base.specs.Urls.{Url}
use Rattle.esm_ast.specs.Outcome.{OutcomeView}
use Rattle.esm_loads.specs.Host.{Host}
use Rattle.esm_loads.specs.Arrival.{after_fetch, next, AnswersNext}
use Rattle.esm_world.specs.World.{World, stopped, host_of, with_host}
use Rattle.esm_world.specs.Jobs.{Jobs}

-- pending requests of fetched URLs are answered in order of asking, each in a task of its own with all jobs behind it,
-- until none is left or a limit stops the world. own: a task for each request, though one fetch ends for all of them
pub data Tasks : World → World → Type 0 where
  none : {w : World} → next w.loading ≡ None → Tasks w w
  stops : {w : World} (limit : Limit) → stopped w ≡ Some limit → Tasks w w
  task : {w mid after : World} {h : Host} → stopped w ≡ None → AnswersNext (host_of w) h → Jobs (with_host w h) mid
      → Tasks mid after → Tasks w after

-- the bytes are counted, and the outcome stands in the table
abbrev pub fetched : World → Url → OutcomeView → World
fetched w u c = with_host w (after_fetch (host_of w) u c)

-- a turn: a fetch of this URL ends so. ECMA-262, FinishLoadingImportedModule, for all pending requests of it
pub data Turn : World → Url → OutcomeView → World → Type 0 where
  -- own: the bytes pass their limit, and nothing else happens
  limit : {w : World} {u : Url} {c : OutcomeView} (limit : Limit) → (fetched w u c).loading.stopped ≡ Some limit
      → Turn w u c (fetched w u c)
  turn : {w after : World} {u : Url} {c : OutcomeView} → (fetched w u c).loading.stopped ≡ None → Tasks (fetched w u c) after
      → Turn w u c after
