-- Where one run of clean files has ended within the limits, no other is stopped, and each without open asks shows the same.
use Rattle.std.proofs.Common.{◌≡◌, ◌≤◌, Bool, List, length, None, refl, ap, subst, sym, ◌∙◌, arith}
use Rattle.std.specs.Prelude.{sum_by}
use Rattle.std.specs.Option.{option_or}
use Rattle.esm_base.specs.declared.limits.TheConstants.{MAX_URLS, MAX_DELIVERED_BYTES}
use Rattle.esm_base.specs.Urls.{Url}
use Rattle.esm_tree.specs.Syntax.{Item}
use Rattle.esm_import_map.specs.ImportMap.{Maps}
use Rattle.esm_ast.specs.Deliveries.{Files, Delivery, AreOfFiles}
use Rattle.esm_realm.proofs.Weigh.{total_within}
use Rattle.esm_loads.specs.Host.{Host}
use Rattle.esm_world.specs.World.{World, world_over, opening, stopped}
use Rattle.esm_world.specs.Jobs.{Jobs}
use Rattle.esm_world.specs.Run.{Shown, Runs, shown}
use Rattle.esm_world.specs.Direct.{IsClean, AreClosure}
use Rattle.esm_world.proofs.RunsIdle.{turns_leave_nothing}
use Rattle.esm_order_laws.specs.OrderFree.{ShowSame, HasEndedWithin, HasCleanRun, NeverStoppedElse, OrderFree}
use Rattle.esm_order_laws.proofs.CleanCalls.{world_seen}
use Rattle.esm_order_laws.proofs.CleanJobs.{jobs_moves, stopped_is}
use Rattle.esm_order_laws.proofs.Jobs.{jobs_one}
use Rattle.esm_order_laws.proofs.RunPhase.{once_over, no_imports, asked_is, fetched_is}
use Rattle.esm_order_laws.proofs.LiveRun.{Account, ReachedSo, Counted, counted_on, counted_run, Within, within_on, within_run, weight}
use Rattle.esm_order_laws.proofs.OrderFree.{IsOver, is_over, Came, still_waits, same_modules, host_live, shows_same}

module _ (maps : Maps) (built : List Item → Bool) (files : Files) (entry : Url) (clean : IsClean maps built files entry) where
  -- a run that has ended within the limits, with the bytes of its files
  record Ended (trace : Bool) (w : World) : Type 0 where
    over : IsOver w
    came : Came maps built files entry clean trace w
    account : Account maps built files entry clean came.host.imports

  ended : (trace : Bool) (ds : List Delivery) (w : World) → AreOfFiles files ds → Runs (opening maps built entry trace) ds w → IsOver w → Ended trace w
  ended trace ds w of p o = by (counted_run maps built files entry clean trace ds w of p o.live)
    where
      by : ReachedSo maps built files entry clean (Counted maps built files entry clean) (counted_on maps built files entry clean) trace w → Ended trace w
      by (ReachedSo.waiting h early x e) = absurd (still_waits maps built files entry clean h trace w early e o (turns_leave_nothing maps built entry trace ds w p o.live).requests)
      by (ReachedSo.over h ready x j same) = record { over = o; came = record { host = h; ready = ready; jobs = j; loading_is = same }; account = x }

  module _ (trace : Bool) (v : World) (e : Ended trace v) where
    abbrev host : Host
    host = e.came.host

    abbrev urls : List Url
    urls = host.imports.asked

    closure : AreClosure maps built files entry urls
    closure = record {
      each = asked_is maps built files entry clean host e.came.ready;
      only = e.came.ready.parts.complete.base.within;
      once = e.came.ready.orderly.once;
    }

    few : length urls ≤ MAX_URLS
    few = e.came.ready.orderly.few

    small : sum_by (weight maps built files entry clean) urls ≤ MAX_DELIVERED_BYTES
    small =
        let le = total_within (weight maps built files entry clean) urls e.account.got e.came.ready.orderly.once
        (λ u k. e.account.all u (fetched_is maps built files entry clean host e.came.ready u (e.came.ready.parts.complete.base.within u k))) in
        let bytes = e.account.bytes_are in
        let most = e.account.small in
        omega (arith, le, bytes, most)

    never : (ds : List Delivery) (w : World) → AreOfFiles files ds → Runs (opening maps built entry trace) ds w → stopped w ≡ None
    never ds w of p = by (within_run maps built files entry clean urls closure few small trace ds w of p)
      where
        by : ReachedSo maps built files entry clean (Within maps built files entry clean urls closure few small) (within_on maps built files entry clean urls closure few small) trace w → stopped w ≡ None
        by (ReachedSo.waiting h early x is) = ap stopped is ∙ ap (λ o. option_or o None) x.1
        by (ReachedSo.over h ready x j same) =
            let m = same_modules maps built files entry clean host h e.came.ready ready (host_live maps built files entry clean v e.over e.came) x.1 in
            let no = no_imports maps built files entry clean host e.came.ready in
            let moved = jobs_moves host.imports h.imports m no (tt, refl) (once_over host trace) e.came.jobs in
            let starts : world_seen host.imports h.imports m no (world_over host trace) ≡ world_over h trace = λ i. world_over (record {
              promises = (e.came.ready.parts.promises ∙ sym ready.parts.promises) i;
              errors = (e.came.ready.parts.errors ∙ sym ready.parts.errors) i;
              imports = h.imports;
            }) trace in
            let is : world_seen host.imports h.imports m no v ≡ w = jobs_one (subst (λ x. Jobs x (world_seen host.imports h.imports m no v)) starts moved.0) j in
            ap stopped (sym is) ∙ stopped_is host.imports h.imports m no v moved.1 ∙ e.over.live

of_run : (maps : Maps) (built : List Item → Bool) (files : Files) (entry : Url) (trace : Bool) (one : Shown) (r : HasCleanRun maps built files entry trace one) → Ended maps built files entry r.clean trace r.run.world
of_run maps built files entry trace one r =
    ended maps built files entry r.clean trace r.deliveries r.run.world r.of_files r.run.runs (is_over r.run.world r.run.line (subst HasEndedWithin r.run.shows r.ends))

pub never_stopped_else : NeverStoppedElse
never_stopped_else maps built files entry trace one others w r of p = never maps built files entry r.clean trace r.run.world (of_run maps built files entry trace one r) others w of p

pub order_free : OrderFree
order_free maps built files entry trace one other others r of q none_asked =
    let e = of_run maps built files entry trace one r in
    let live = never maps built files entry r.clean trace r.run.world e others q.world of q.runs in
    let over : IsOver q.world = record { live = live; asks_are = sym (ap (λ (s : Shown). s.asks) q.shows) ∙ none_asked } in
    let d = (ended maps built files entry r.clean trace others q.world of q.runs over).came in
    let s = shows_same maps built files entry r.clean trace r.run.world q.world r.run.line q.line e.over over e.came d r.run.last_line q.last_line in
    subst (λ x. ShowSame one x) (sym q.shows) (subst (λ x. ShowSame x (shown q.world q.line)) (sym r.run.shows) s)
