-- What the end of a fetch, and the answer of a pending request, do to what a machine holds, they do in the world, up to the limit that
-- stops them.
use Rattle.std.specs.Prelude.{◌≡◌, ℕ, true, false, List, [], ◌∷◌, ◌++◌, Some, None, Result, Ok, Err}
use Rattle.esm_base.specs.declared.limits.Limit.{Limit}
use Rattle.esm_base.specs.Urls.{Url, has}
use Rattle.esm_ast.specs.Outcome.{OutcomeView}
use Rattle.esm_ast.specs.Deliveries.{completed}
use Rattle.esm_values.specs.Errors.{Errors}
use Rattle.esm_promise.specs.Code.{Numbered}
use Rattle.esm_eval.specs.Table.{Table, node_at}
use Rattle.esm_loads.specs.Arrival.{after_fetch, open_asks, AnswersNext}
use Rattle.esm_loads.specs.Host.{Host}
use Rattle.esm_loads.specs.Hosted.{host_of}
use Rattle.esm_loads.specs.Loading.{Loading}
use Rattle.esm_loads.specs.LoadsView.{every_form}
use Rattle.esm_loads.specs.UrlTable.{Found, Nothing, Faulty, Script, found}
use Rattle.esm_world.specs.World as world
use Rattle.esm_world.specs.World.{World}
use Rattle.esm_world.specs.Run.{HasModuleTree, IsAllowed}
use Rattle.esm_world.specs.Sound.{IsSound}
use Rattle.esm_world.specs.Turn.{fetched}
use Rattle.esm_machine.specs.Seen.{names}
use Rattle.esm_machine.specs.Held.{Held, RecordsCover, with_host}
use Rattle.esm_machine.specs.Represents.{IsLive}
use Rattle.esm_machine.specs.Steps.{LeavesHeld}

-- a module text brings a record more, and anything else none
abbrev pub urls_with : List Url → Url → Found → List Url
urls_with urls u Nothing = urls
urls_with urls u (Faulty f) = urls
urls_with urls u (Script m) = urls ++ u ∷ []

-- nodes and stamps are the same; there may be more nodes, in which nothing is written
pub record SameNodes (t s : Table) : Type 0 where
  pub nodes : (m : ℕ) → node_at s m ≡ node_at t m
  pub stamps : s.stamps ≡ t.stamps

-- the bytes were counted, the outcome stands in the table, and a module has its record, which is the last
pub record HasArrived (h : Held) (u : Url) (c : OutcomeView) (after : Held) : Type 0 where
  pub host : (named : ℕ → Url) → host_of named after.promises after.errors after.seen.loading
      ≡ after_fetch (host_of named h.promises h.errors h.seen.loading) u c
  pub urls : after.seen.urls ≡ urls_with h.seen.urls u (found h.seen.loading.maps every_form u c)
  pub linked : after.seen.linked ≡ h.seen.linked
  pub nodes : SameNodes h.nodes after.nodes
  pub cells : after.cells ≡ h.cells
  pub engine : after.engine ≡ h.engine
  pub entry : after.entry ≡ h.entry

-- what loading is behind an answer, by ids: a limit has stopped it, or none
abbrev pub StopsAs : Result (Unit {0}) Limit → Loading → Type 0
StopsAs (Ok done) l = l.stopped ≡ None
StopsAs (Err limit) l = l.stopped ≡ Some limit

-- the next pending request is answered, with this host behind it
abbrev pub IsAnswered : World → Host → World → Type 0
IsAnswered w o after = AnswersNext (world.host_of w) o × (after ≡ world.with_host w o)

pub record ArrivalsAreOfTheWorld : Type 0 where
  -- the fetch of an open ask is allowed in each world that is stood for
  pub allowed : (h : Held) (w : World) (u : Url) (c : OutcomeView) → IsLive h w → has (open_asks h.seen.loading) u ≡ true
      → HasModuleTree c → IsAllowed w (completed u c)
  -- a fetch that is allowed ends, no record has its URL, and no limit stops it, where one of the worlds that are stood for is sound
  pub arrives : (h after : Held) (sound w : World) (u : Url) (c : OutcomeView) → IsLive h sound → IsSound sound → IsLive h w
      → IsAllowed w (completed u c) → RecordsCover h h.seen.linked → has h.seen.urls u ≡ false → HasArrived h u c after
      → after.seen.loading.stopped ≡ None → IsLive after (fetched w u c)
  -- a limit stops it, before anything else happens
  pub fetch_stops : (h : Held) (w : World) (u : Url) (c : OutcomeView) (limit : Limit) → IsLive h w
      → (after_fetch (host_of (names h.seen).name h.promises h.errors h.seen.loading) u c).imports.stopped ≡ Some limit
      → LeavesHeld (Err limit) (λ v. v ≡ fetched w u c) h
  -- the next pending request is answered, up to the limit that stops it
  pub answers : (h : Held) (w : World) (promises : Numbered) (errors : Errors) (l : Loading) (end : Result (Unit {0}) Limit) → IsLive h w
      → AnswersNext (host_of (names h.seen).name h.promises h.errors h.seen.loading) (host_of (names h.seen).name promises errors l)
      → StopsAs end l
      → LeavesHeld end (IsAnswered w (host_of (names h.seen).name promises errors l)) (with_host h promises errors l)
