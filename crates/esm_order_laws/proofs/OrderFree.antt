-- The order of deliveries doesn't matter: behind the end of the entry's load each run has the same modules, in some order of asking.
use Rattle.std.proofs.Common.{◌≡◌, ◌⊎◌, inl, inr, Bool, true, false, List, [], ◌∷◌, ◌++◌, length, Option, Some, None, refl, ap, subst, sym, ◌∙◌, arith}
use Rattle.std.specs.Prelude.{◌≢◌, is_some, option_map, slice_get, codes}
use Rattle.std.specs.Option.{option_or}
use Rattle.esm_base.specs.declared.limits.Limit.{Limit}
use Rattle.esm_base.specs.declared.status.Status.TheVariants as statuses
use Rattle.esm_base.specs.Urls.{Text, Url, has}
use Rattle.esm_tree.specs.Syntax.{Item}
use Rattle.esm_import_map.specs.ImportMap.{Maps}
use Rattle.esm_ast.specs.Deliveries.{Files, Delivery, AreOfFiles, asks_by}
use Rattle.esm_realm.proofs.Weigh.{length_within}
use Rattle.esm_loads.specs.UrlTable.{TableEntry}
use Rattle.esm_loads.specs.Loading.{Loading, LoadState, Asked, Open}
use Rattle.esm_loads.specs.Host.{Host}
use Rattle.esm_loads.specs.Arrival.{open_asks, next}
use Rattle.esm_loads.specs.Whole.{HasEnded}
use Rattle.esm_loads.proofs.Whole.{loads_end}
use Rattle.esm_rewriting.proofs.OneAct.{displays_one}
use Rattle.esm_world.specs.World.{World, EntryState, world_over, opening, stopped, modules_in, body_state}
use Rattle.esm_world.specs.Jobs.{Jobs}
use Rattle.esm_world.specs.LastLine.{Ending, Stopped, Uncaught, Done, Pending, ending_by, exit_status, IsLastLine}
use Rattle.esm_world.specs.Run.{Runs, asks, ending, shown}
use Rattle.esm_world.specs.Direct.{IsClean}
use Rattle.esm_world.proofs.RunsIdle.{turns_leave_nothing}
use Rattle.esm_order_laws.specs.OrderFree.{ShowSame, HasEndedWithin}
use Rattle.esm_order_laws.proofs.CleanCalls.{SameModules, NoImports, world_seen}
use Rattle.esm_order_laws.proofs.CleanJobs.{jobs_moves, line_moves}
use Rattle.esm_order_laws.proofs.Jobs.{jobs_one}
use Rattle.esm_order_laws.proofs.Lists.{both}
use Rattle.esm_order_laws.proofs.RunPhase.{EarlyHost, ReadyHost, Reached, run_reaches, once_over, no_imports, entry_is, asked_is, closure_of}
use Rattle.esm_order_laws.proofs.RunPhase.Reached.{waiting, over}

-- ---- what an ended run shows

not_stopped : (stop : Option Limit) (us : List Url) (e : EntryState) → option_map exit_status (ending_by stop us e) ≢ Some statuses.Limit → stop ≡ None
not_stopped None us e n = refl
not_stopped (Some limit) us e n = absurd (n refl)

none_asked : (us : List Url) (e : EntryState) → is_some (ending_by None us e) ≡ true → us ≡ []
none_asked [] e h = refl
none_asked (u ∷ us) e h = let no : false ≡ true = h in absurd cc

-- an ended run that no limit has stopped: nothing is asked
pub record IsOver (w : World) : Type 0 where
  pub live : stopped w ≡ None
  pub asks_are : asks w ≡ []

pub is_over : (w : World) (line : Text) → HasEndedWithin (shown w line) → IsOver w
is_over w line h =
    let live = not_stopped (stopped w) (asks w) w.entry h.within in
    record { live = live; asks_are = none_asked (asks w) w.entry (ap (λ o. is_some (ending_by o (asks w) w.entry)) (sym live) ∙ h.ended) }

pub line_one : (w : World) (e : Option Ending) (s t : Text) → IsLastLine w e s → IsLastLine w e t → s ≡ t
line_one w None s t p q = p ∙ sym q
line_one w (Some (Stopped limit)) s t p q = p ∙ sym q
line_one w (Some (Uncaught v)) s t p q = p.2 ∙ ap (λ text. codes "Uncaught " ++ text) (displays_one modules_in (body_state w) v q.1 p.1) ∙ sym q.2
line_one w (Some Done) s t p q = p ∙ sym q
line_one w (Some Pending) s t p q = p ∙ sym q

pub loading_live : (o e : Option Limit) → option_or o e ≡ None → o ≡ None
loading_live None e h = refl
loading_live (Some limit) e h = cc

module _ (maps : Maps) (built : List Item → Bool) (files : Files) (entry : Url) (clean : IsClean maps built files entry) where
  abbrev ReadyC : Host → Type 0
  ReadyC h = ReadyHost maps built files entry clean h

  -- ---- a run that has ended has loaded its entry

  pub record Came (trace : Bool) (w : World) : Type 0 where
    pub host : Host
    pub ready : ReadyC host
    pub jobs : Jobs (world_over host trace) w
    pub loading_is : w.loading ≡ host.imports

  pub still_waits : (h : Host) (trace : Bool) (w : World) → EarlyHost maps built files entry clean h → w ≡ world_over h trace → IsOver w → next w.loading ≡ None → ⊥
  still_waits h trace w early e o n = by early.parts.early.1
    where
      ends : (state : LoadState) → slice_get h.imports.loads 0 ≡ Some state → HasEnded state
      ends state is =
          let loading : w.loading ≡ h.imports = ap (λ (x : World). x.loading) e in
          let none_open : open_asks w.loading ≡ [] = sym (ap (λ o. asks_by o (open_asks w.loading)) o.live) ∙ o.asks_are in
          loads_end h.imports 0 state early.whole (subst (λ (l : Loading). l.stopped ≡ None) loading (loading_live w.loading.stopped w.engine.stopped o.live)) (subst (λ l. next l ≡ None) loading n)
          (subst (λ l. open_asks l ≡ []) loading none_open) is

      by : (h.imports.loads ≡ Asked ∷ []) ⊎ ((visited : Url → Bool) × (h.imports.loads ≡ Open entry visited ∷ [])) → ⊥
      by (inl k) = ends Asked (ap (λ ls. slice_get ls 0) k)
      by (inr k) = ends (Open entry k.0) (ap (λ ls. slice_get ls 0) k.1)

  pub came : (trace : Bool) (ds : List Delivery) (w : World) → AreOfFiles files ds → Runs (opening maps built entry trace) ds w → IsOver w → Came trace w
  came trace ds w of p o = by (run_reaches maps built files entry clean trace ds w of p o.live)
    where
      by : Reached maps built files entry clean trace w → Came trace w
      by (waiting h early e) = absurd (still_waits h trace w early e o (turns_leave_nothing maps built entry trace ds w p o.live).requests)
      by (over h ready j same) = record { host = h; ready = ready; jobs = j; loading_is = same }

  -- ---- two such runs have the same modules

  module _ (h k : Host) (r : ReadyC h) (q : ReadyC k) where
    entry_same : (u : Url) → k.imports.entries u ≡ h.imports.entries u
    entry_same u = by (h.imports.entries u) refl (k.imports.entries u) refl
      where
        by : (o : Option TableEntry) → h.imports.entries u ≡ o → (p : Option TableEntry) → k.imports.entries u ≡ p → k.imports.entries u ≡ h.imports.entries u
        by None e None f = f ∙ sym e
        by (Some x) e p f = let c = closure_of maps built files entry clean h r u x e in entry_is maps built files entry clean k q u c ∙ sym (entry_is maps built files entry clean h r u c)
        by None e (Some x) f = let c = closure_of maps built files entry clean k q u x f in entry_is maps built files entry clean k q u c ∙ sym (entry_is maps built files entry clean h r u c)

    to_k : (u : Url) → has h.imports.asked u ≡ true → has k.imports.asked u ≡ true
    to_k u e = asked_is maps built files entry clean k q u (r.parts.complete.base.within u e)

    to_h : (u : Url) → has k.imports.asked u ≡ true → has h.imports.asked u ≡ true
    to_h u e = asked_is maps built files entry clean h r u (q.parts.complete.base.within u e)

    asked_long : length k.imports.asked ≡ length h.imports.asked
    asked_long =
        let a = length_within h.imports.asked k.imports.asked r.orderly.once to_k in
        let b = length_within k.imports.asked h.imports.asked q.orderly.once to_h in
        omega (arith, a, b)

    pub same_modules : h.imports.stopped ≡ None → k.imports.stopped ≡ None → SameModules h.imports k.imports
    same_modules e f = record {
      entries = λ i u. entry_same u i;
      alike = λ u. both (has k.imports.asked u) (has h.imports.asked u) (to_h u) (to_k u);
      long = asked_long;
      loads = q.parts.complete.loads_are ∙ sym r.parts.complete.loads_are;
      purposes = q.parts.complete.base.purposes ∙ sym r.parts.complete.base.purposes;
      stopped = f ∙ sym e;
    }

  -- ---- and leave the same

  ending_of : (w : World) → IsOver w → ending w ≡ ending_by None [] w.entry
  ending_of w o = λ i. ending_by (o.live i) (o.asks_are i) w.entry

  pub host_live : {trace : Bool} (w : World) → IsOver w → (c : Came trace w) → c.host.imports.stopped ≡ None
  host_live w o c = subst (λ (l : Loading). l.stopped ≡ None) c.loading_is (loading_live w.loading.stopped w.engine.stopped o.live)

  module _ (trace : Bool) (v w : World) (a b : Text) (o : IsOver v) (p : IsOver w) (c : Came trace v) (d : Came trace w) (first : IsLastLine v (ending v) a) (second : IsLastLine w (ending w) b) where
    pub both_modules : SameModules c.host.imports d.host.imports
    both_modules = same_modules c.host d.host c.ready d.ready (host_live v o c) (host_live w p d)

    pub none : NoImports c.host.imports
    none = no_imports maps built files entry clean c.host c.ready

    abbrev seen : World → World
    seen x = world_seen c.host.imports d.host.imports both_modules none x

    pub starts_same : seen (world_over c.host trace) ≡ world_over d.host trace
    starts_same = λ i. world_over (record {
      promises = (c.ready.parts.promises ∙ sym d.ready.parts.promises) i;
      errors = (c.ready.parts.errors ∙ sym d.ready.parts.errors) i;
      imports = d.host.imports;
    }) trace

    pub shows_same : ShowSame (shown v a) (shown w b)
    shows_same =
        let j = jobs_moves c.host.imports d.host.imports both_modules none (tt, refl) (once_over c.host trace) c.jobs in
        let same : seen v ≡ w = jobs_one (subst (λ x. Jobs x (seen v)) starts_same j.0) d.jobs in
        let ends : ending w ≡ ending v = ending_of w p ∙ ap (λ (x : World). ending_by None [] x.entry) (sym same) ∙ sym (ending_of v o) in
        let line : IsLastLine (seen v) (ending v) a = line_moves c.host.imports d.host.imports both_modules none v j.1 (ending v) a first in
        let there : IsLastLine w (ending w) a = subst (λ e. IsLastLine w e a) (sym ends) (subst (λ x. IsLastLine x (ending v) a) same line) in
        record {
          asked = λ u. ap (λ (l : Loading). has l.asked u) d.loading_is ∙ both_modules.alike u ∙ sym (ap (λ (l : Loading). has l.asked u) c.loading_is);
          log = ap (λ (x : World). x.engine.log) (sym same);
          events = ap (λ (x : World). x.engine.events) (sym same);
          status = ap (λ e. option_map exit_status e) ends;
          last_line = line_one w (ending w) b a second there;
        }
