-- A run of clean files that has ended, and that no limit of loading has stopped, has loaded its entry, and jobs have run behind it.
use Rattle.std.proofs.Common.{◌≡◌, ◌⊎◌, inl, inr, ◌≤◌, Bool, true, List, [], ◌∷◌, ◌++◌, length, Option, Some, None, refl, ap, subst, sym, ◌∙◌, arith}
use Rattle.std.specs.Prelude.{sum_by, codes, option_map}
use Rattle.std.specs.Option.{option_or}
use Rattle.esm_base.specs.declared.limits.Limit.{Limit}
use Rattle.esm_base.specs.declared.limits.Limit.TheVariants.{L1, L2}
use Rattle.esm_base.specs.declared.limits.TheConstants.{MAX_URLS, MAX_DELIVERED_BYTES}
use Rattle.esm_base.specs.Limits.{limit_name}
use Rattle.esm_base.specs.Urls.{Text, Url, has}
use Rattle.esm_tree.specs.Syntax.{Item}
use Rattle.esm_import_map.specs.ImportMap.{Maps}
use Rattle.esm_ast.specs.Deliveries.{Files, Delivery, AreOfFiles}
use Rattle.esm_realm.proofs.Weigh.{total_within}
use Rattle.esm_loads.specs.Loading.{Loading, is_fetching}
use Rattle.esm_loads.specs.Host.{Host, opening_host}
use Rattle.esm_loads.specs.Arrival.{AnswersNext, after_fetch, next}
use Rattle.esm_world.specs.World.{World, world_over, opening, stopped, host_of, with_host}
use Rattle.esm_world.specs.Jobs.{Jobs}
use Rattle.esm_world.specs.Turn.{Tasks, Turn}
use Rattle.esm_world.specs.LastLine.{IsLastLine, ending_by, exit_status}
use Rattle.esm_world.specs.Run.{Runs, IsAllowed, asks, ending, shown}
use Rattle.esm_world.specs.Direct.{IsClean, AreClosure}
use Rattle.esm_world.proofs.Deliveries.{open_ask}
use Rattle.esm_world.proofs.RunsIdle.{turns_leave_nothing}
use Rattle.esm_order_laws.proofs.RunPhase.{EarlyHost, ReadyHost, step, fetch, none_open, asked_is, fetched_is, jobs_leave, jobs_wait, tasks_over, opening_early, nothing_next}
use Rattle.esm_order_laws.proofs.LiveRun.{Account, ReachedSo, counted_on, fetch_account, Within, within_on, within_run, weight}
use Rattle.esm_order_laws.proofs.OrderFree.{still_waits, loading_live}
use Rattle.esm_limit_laws.specs.Loaded.{NamesLoadingLimit, StoppedLoading}
use Rattle.esm_limit_laws.proofs.Stops.{FewStops, next_few, fetch_limit}

-- of a run that a limit of loading has stopped
shows_stop : (w : World) (limit : Limit) (line : Text) → stopped w ≡ Some limit → IsLastLine w (ending w) line
    → (line ≡ codes "Limit " ++ limit_name limit → NamesLoadingLimit line) → StoppedLoading (shown w line)
shows_stop w limit line is last names = record {
  limited = ap (λ o. option_map exit_status (ending_by o (asks w) w.entry)) is;
  named = names (subst (λ o. IsLastLine w (ending_by o (asks w) w.entry) line) is last);
}

-- nothing is delivered behind a stop
still_stopped : (ds : List Delivery) (v w : World) (limit : Limit) → v.loading.stopped ≡ Some limit → Runs v ds w → w.loading.stopped ≡ Some limit
still_stopped [] v w limit s p = ap (λ (x : World). x.loading.stopped) p ∙ s
still_stopped (d ∷ ds) v w limit s p =
    let live = (open_ask v d.url p.0.asked).live in
    let no : ◌≡◌ {A = Option Limit} (Some limit) None = sym s ∙ loading_live v.loading.stopped v.engine.stopped live in absurd cc

module _ (maps : Maps) (built : List Item → Bool) (files : Files) (entry : Url) (clean : IsClean maps built files entry) where
  abbrev EarlyC : Host → Type 0
  EarlyC h = EarlyHost maps built files entry clean h

  abbrev ReadyC : Host → Type 0
  ReadyC h = ReadyHost maps built files entry clean h

  -- what is known of loading along the run: the bytes, and which limit may have stopped it
  abbrev Known : Host → Type 0
  Known h = Account maps built files entry clean h.imports × FewStops h.imports

  known_on : (h k : Host) → EarlyC h → Known h → AnswersNext h k → Known k
  known_on h k early x a = (counted_on maps built files entry clean h k early x.0 a, next_few h k x.1 a)

  module _ (trace : Bool) where
    abbrev Reach : World → Type 0
    Reach w = ReachedSo maps built files entry clean Known known_on trace w

    tasks_reach : {w after : World} (h : Host) → w ≡ world_over h trace → EarlyC h → Known h → Tasks w after → Reach after
    tasks_reach h e early x (Tasks.none n) = ReachedSo.waiting h early x e
    tasks_reach h e early x (Tasks.stops limit s) = ReachedSo.waiting h early x e
    tasks_reach {w} {after} h e early x (Tasks.task {mid = mid} {h = k} live a j rest) =
        by (step maps built files entry clean early answer) (λ soon. tasks_reach k (jobs_wait maps built files entry clean k trace soon jobs) soon kept rest)
      where
        answer : AnswersNext h k
        answer = subst (λ w. AnswersNext (host_of w) k) e a

        kept : Known k
        kept = known_on h k early x answer

        jobs : Jobs (world_over k trace) mid
        jobs = subst (λ w. Jobs (with_host w k) mid) e j

        by : EarlyC k ⊎ ReadyC k → (EarlyC k → Reach after) → Reach after
        by (inl soon) on = on soon
        by (inr ready) on =
            let same = jobs_leave maps built files entry clean k ready trace mid jobs in
            let is : after ≡ mid = tasks_over maps built files entry clean (ap next same ∙ nothing_next maps built files entry clean k ready) rest in
            ReachedSo.over k ready kept (subst (λ w. Jobs (world_over k trace) w) (sym is) jobs) (ap (λ (w : World). w.loading) is ∙ same)

    -- it goes on, or the limit of bytes has stopped it
    abbrev GoesOn : World → Type 0
    GoesOn w = Reach w ⊎ (w.loading.stopped ≡ Some L2)

    turn_goes : (h : Host) (d : Delivery) (mid : World) → EarlyC h → Known h → IsAllowed (world_over h trace) d → files d.url ≡ Some d.outcome
        → Turn (world_over h trace) d.url d.outcome mid → GoesOn mid
    turn_goes h d mid early x allowed given (Turn.limit limit s) =
        let ask = open_ask (world_over h trace) d.url allowed.asked in inr (fetch_limit h d.url d.outcome limit (loading_live h.imports.stopped None ask.live) s)
    turn_goes h d mid early x allowed given (Turn.turn none p) =
        let ask = open_ask (world_over h trace) d.url allowed.asked in
        inl (tasks_reach (after_fetch h d.url d.outcome) refl (fetch maps built files entry clean h d.url d.outcome early ask.asked ask.fetching given none)
        (fetch_account maps built files entry clean h d.url d.outcome early x.0 ask.asked ask.fetching given none, inl none) p)

    reach_goes : (v w : World) (d : Delivery) → IsAllowed v d → files d.url ≡ Some d.outcome → Turn v d.url d.outcome w → Reach v → GoesOn w
    reach_goes v w d allowed given moved (ReachedSo.waiting h early x e) =
        turn_goes h d w early x (subst (λ y. IsAllowed y d) e allowed) given (subst (λ y. Turn y d.url d.outcome w) e moved)
    reach_goes v w d allowed given moved (ReachedSo.over h ready x j same) =
        let ask = open_ask v d.url allowed.asked in
        absurd (none_open maps built files entry clean h ready d.url (subst (λ (l : Loading). has l.asked d.url ≡ true) same ask.asked) (subst (λ (l : Loading). is_fetching (l.entries d.url) ≡ true) same ask.fetching))

    runs_go : (ds : List Delivery) (v w : World) → AreOfFiles files ds → Reach v → Runs v ds w → GoesOn w
    runs_go [] v w of r p = inl (subst (λ x. Reach x) (sym p) r)
    runs_go (d ∷ ds) v w of r p = by (reach_goes v p.1 d p.0 of.0 p.2 r) (λ on. runs_go ds p.1 w of.1 on p.3)
      where
        by : GoesOn p.1 → (Reach p.1 → GoesOn w) → GoesOn w
        by (inl on) rest = rest on
        by (inr s) rest = inr (still_stopped ds p.1 w L2 s p.3)

    run_goes : (ds : List Delivery) (w : World) → AreOfFiles files ds → Runs (opening maps built entry trace) ds w → GoesOn w
    run_goes ds w of p =
        runs_go ds (opening maps built entry trace) w of
        (ReachedSo.waiting (opening_host maps built entry) (opening_early maps built files entry clean)
        (record { got = []; once = tt; are = λ u k. cc; all = λ u k. cc; bytes_are = refl; small = omega arith }, inl refl) refl) p

  -- ---- a run that has ended, and not by a limit of loading

  pub record Arrived (trace : Bool) (w : World) : Type 0 where
    pub host : Host
    pub ready : ReadyC host
    pub live : host.imports.stopped ≡ None
    pub account : Account maps built files entry clean host.imports
    pub jobs : Jobs (world_over host trace) w
    pub loading_is : w.loading ≡ host.imports

  waits_for_none : (trace : Bool) (ds : List Delivery) (w : World) (h : Host) → Runs (opening maps built entry trace) ds w → asks w ≡ [] → EarlyC h → h.imports.stopped ≡ None → w ≡ world_over h trace → ⊥
  waits_for_none trace ds w h p none early live e =
      let is : stopped w ≡ None = ap stopped e ∙ ap (λ o. option_or o None) live in
      still_waits maps built files entry clean h trace w early e (record { live = is; asks_are = none }) (turns_leave_nothing maps built entry trace ds w p is).requests

  pub arrived : (trace : Bool) (ds : List Delivery) (w : World) (line : Text) → AreOfFiles files ds → Runs (opening maps built entry trace) ds w → asks w ≡ [] → IsLastLine w (ending w) line
      → (StoppedLoading (shown w line) → ⊥) → Arrived trace w
  arrived trace ds w line of p none last free = by (run_goes trace ds w of p)
    where
      stop_is : (limit : Limit) → w.loading.stopped ≡ Some limit → stopped w ≡ Some limit
      stop_is limit s = ap (λ o. option_or o w.engine.stopped) s

      live_of : (h : Host) → w.loading ≡ h.imports → FewStops h.imports → h.imports.stopped ≡ None
      live_of h same (inl e) = e
      live_of h same (inr s) = absurd (free (shows_stop w L1 line (stop_is L1 (ap (λ (l : Loading). l.stopped) same ∙ s)) last (λ names. inl names)))

      reached : ReachedSo maps built files entry clean Known known_on trace w → Arrived trace w
      reached (ReachedSo.waiting h early x e) = absurd (waits_for_none trace ds w h p none early (live_of h (ap (λ (y : World). y.loading) e) x.1) e)
      reached (ReachedSo.over h ready x j same) = record { host = h; ready = ready; live = live_of h same x.1; account = x.0; jobs = j; loading_is = same }

      by : (ReachedSo maps built files entry clean Known known_on trace w) ⊎ (w.loading.stopped ≡ Some L2) → Arrived trace w
      by (inl r) = reached r
      by (inr s) = absurd (free (shows_stop w L2 line (stop_is L2 s) last (λ names. inr names)))

  -- ---- then no limit stops loading in another run, and each that asks for nothing has loaded its entry too

  module _ (trace : Bool) (v : World) (c : Arrived trace v) where
    abbrev urls : List Url
    urls = c.host.imports.asked

    closure : AreClosure maps built files entry urls
    closure = record {
      each = asked_is maps built files entry clean c.host c.ready;
      only = c.ready.parts.complete.base.within;
      once = c.ready.orderly.once;
    }

    few : length urls ≤ MAX_URLS
    few = c.ready.orderly.few

    small : sum_by (weight maps built files entry clean) urls ≤ MAX_DELIVERED_BYTES
    small =
        let le = total_within (weight maps built files entry clean) urls c.account.got c.ready.orderly.once
        (λ u k. c.account.all u (fetched_is maps built files entry clean c.host c.ready u (c.ready.parts.complete.base.within u k))) in
        let bytes = c.account.bytes_are in
        let most = c.account.small in
        omega (arith, le, bytes, most)

    pub none_stopped : (ds : List Delivery) (w : World) → AreOfFiles files ds → Runs (opening maps built entry trace) ds w → w.loading.stopped ≡ None
    none_stopped ds w of p = by (within_run maps built files entry clean urls closure few small trace ds w of p)
      where
        by : ReachedSo maps built files entry clean (Within maps built files entry clean urls closure few small) (within_on maps built files entry clean urls closure few small) trace w → w.loading.stopped ≡ None
        by (ReachedSo.waiting h early x e) = ap (λ (y : World). y.loading.stopped) e ∙ x.1
        by (ReachedSo.over h ready x j same) = ap (λ (l : Loading). l.stopped) same ∙ x.1

    pub other_arrived : (ds : List Delivery) (w : World) → AreOfFiles files ds → Runs (opening maps built entry trace) ds w → asks w ≡ [] → Arrived trace w
    other_arrived ds w of p none = by (within_run maps built files entry clean urls closure few small trace ds w of p)
      where
        by : ReachedSo maps built files entry clean (Within maps built files entry clean urls closure few small) (within_on maps built files entry clean urls closure few small) trace w → Arrived trace w
        by (ReachedSo.waiting h early x e) = absurd (waits_for_none trace ds w h p none early x.1 e)
        by (ReachedSo.over h ready x j same) = record { host = h; ready = ready; live = x.1; account = x.0; jobs = j; loading_is = same }
