-- Between two turns of a run nothing is left to do.
use Rattle.std.proofs.Common.{◌≡◌, ◌+◌, Bool, true, List, [], ◌∷◌, Option, Some, None, refl, ap, subst, sym, ◌∙◌}
use Rattle.std.specs.Prelude.{nat_lt}
use Rattle.std.specs.Option.{option_or}
use Rattle.esm_base.specs.declared.limits.Limit.{Limit}
use Rattle.esm_base.specs.declared.limits.TheConstants.{MAX_DELIVERED_BYTES}
use Rattle.esm_base.specs.Urls.{Url, has}
use Rattle.esm_tree.specs.Syntax.{Item}
use Rattle.esm_ast.specs.Deliveries.{Delivery, asks_by}
use Rattle.esm_ast.specs.Outcome.{OutcomeView}
use Rattle.esm_import_map.specs.ImportMap.{Maps}
use Rattle.esm_promise.specs.Promises.{next_job}
use Rattle.esm_loads.specs.Arrival.{open_asks, bytes_of}
use Rattle.esm_loads.proofs.Whole.{loads_end}
use Rattle.esm_world.specs.World.{World, opening, stopped, host_of}
use Rattle.esm_world.specs.Jobs.{Jobs}
use Rattle.esm_world.specs.Turn.{Tasks, Turn, fetched}
use Rattle.esm_world.specs.Run.{Runs}
use Rattle.esm_world.specs.Loaded.{FitsLoading}
use Rattle.esm_world.specs.RunLaws.{IsIdle, HoldsOfRuns, TurnsLeaveNothing, LoadsHaveEnded}
use Rattle.esm_world.proofs.ToldWorld.{fetched_same}

-- no job is left, unless a limit has stopped
abbrev HasNoJob : World → Type 0
HasNoJob w = stopped w ≡ None → next_job w.promises ≡ None

stops_not : (w : World) (limit : Limit) → stopped w ≡ Some limit → stopped w ≡ None → ⊥
stops_not w limit e live = let k : Some limit ≡ None = sym e ∙ live in cc

jobs_idle : {v w : World} → Jobs v w → HasNoJob w
jobs_idle (Jobs.none n) = λ live. n
jobs_idle {w = w} (Jobs.stops limit e) = λ live. absurd (stops_not w limit e live)
jobs_idle (Jobs.job j left how live e s r p) = jobs_idle p

abbrev IsIdleIf : World → Type 0
IsIdleIf w = stopped w ≡ None → IsIdle w

tasks_idle : {v w : World} → HasNoJob v → Tasks v w → IsIdleIf w
tasks_idle h (Tasks.none n) = λ live. record { jobs = h live; requests = n }
tasks_idle {w = w} h (Tasks.stops limit e) = λ live. absurd (stops_not w limit e live)
tasks_idle h (Tasks.task live a j p) = tasks_idle (jobs_idle j) p

some_stops : (o e : Option Limit) (limit : Limit) → o ≡ Some limit → option_or o e ≡ None → ⊥
some_stops None e limit h live = cc
some_stops (Some l) e limit h live = cc

-- the end of a fetch changes no promise
fetch_promises : (w : World) (u : Url) (c : OutcomeView) → (fetched w u c).promises ≡ w.promises
fetch_promises w u c = (fetched_same (nat_lt MAX_DELIVERED_BYTES (w.loading.bytes + bytes_of c)) (host_of w) u c).promises

turn_idle : {v : World} {u : Url} {c : OutcomeView} {w : World} → next_job v.promises ≡ None → Turn v u c w → IsIdleIf w
turn_idle {v} {u} {c} {w} h (Turn.limit limit e) = λ live. absurd (some_stops w.loading.stopped w.engine.stopped limit e live)
turn_idle {v} {u} {c} h (Turn.turn l p) = tasks_idle (λ live. ap next_job (fetch_promises v u c) ∙ h) p

-- a delivery is allowed where no limit has stopped alone
asks_live : (o : Option Limit) (us : List Url) (u : Url) → has (asks_by o us) u ≡ true → o ≡ None
asks_live None us u h = refl
asks_live (Some limit) us u h = absurd cc

runs_idle : (ds : List Delivery) (v w : World) → IsIdleIf v → Runs v ds w → IsIdleIf w
runs_idle [] v w h p = subst (λ x. IsIdleIf x) (sym p) h
runs_idle (d ∷ ds) v w h p = runs_idle ds p.1 w (turn_idle (h (asks_live (stopped v) (open_asks v.loading) d.url p.0.asked)).jobs p.2) p.3

opening_idle : (maps : Maps) (built : List Item → Bool) (entry : Url) (trace : Bool) → IsIdle (opening maps built entry trace)
opening_idle maps built entry trace = record { jobs = refl; requests = refl }

pub turns_leave_nothing : TurnsLeaveNothing
turns_leave_nothing maps built entry trace ds w p = runs_idle ds (opening maps built entry trace) w (λ live. opening_idle maps built entry trace) p

-- ---- loads

module _ (loading : HoldsOfRuns (λ w. FitsLoading w.loading)) where
  pub loads_have_ended : LoadsHaveEnded
  loads_have_ended maps built entry trace ds w p live none s state e =
      let f = loading maps built entry trace ds w p live in
      let idle = turns_leave_nothing maps built entry trace ds w p live in
      let none_open : open_asks w.loading ≡ [] = sym (ap (λ o. asks_by o (open_asks w.loading)) live) ∙ none in
      loads_end w.loading s state f.whole (by w.loading.stopped w.engine.stopped live) idle.requests none_open e
    where
      by : (o e : Option Limit) → option_or o e ≡ None → o ≡ None
      by None e h = refl
      by (Some limit) e h = cc
