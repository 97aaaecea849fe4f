-- A run of clean files: nothing is evaluated until the entry's load is complete, and then no delivery is left.
use Rattle.std.proofs.Common.{◌≡◌, ◌⊎◌, inl, inr, ℕ, Bool, true, false, cond, List, [], ◌∷◌, nat_lt, Option, Some, None, refl, ap, subst, sym, ◌∙◌}
use Rattle.std.specs.Prelude.{◌||◌, ◌+◌, slice_get}
use Rattle.std.specs.Option.{option_or}
use Rattle.esm_base.specs.declared.limits.Limit.{Limit}
use Rattle.esm_base.specs.declared.limits.TheConstants.{MAX_DELIVERED_BYTES}
use Rattle.esm_base.specs.Urls.{Url, has, same_url}
use Rattle.esm_tree.specs.Syntax.{Item}
use Rattle.esm_import_map.specs.ImportMap.{Maps}
use Rattle.esm_ast.specs.Deliveries.{Files, Delivery, AreOfFiles}
use Rattle.esm_ast.specs.Outcome.{OutcomeView}
use Rattle.esm_realm.proofs.Urls.{has_own, or_true, same_text, not_both}
use Rattle.esm_values.specs.Value.{Value, Undefined}
use Rattle.esm_promise.specs.Promises.{Promises, make, settle, no_promises, next_job, Fulfilled}
use Rattle.esm_promise.specs.Reactions.{Reaction, EntryLoaded}
use Rattle.esm_loads.specs.UrlTable.{TableEntry, Module, Throw, thrown_by, put_at, found, targets_in, body_in}
use Rattle.esm_loads.specs.UrlTable.{Found as founds}
use Rattle.esm_loads.specs.Loading.{Loading, PendingRequest, Root, Request, LoadState, Open, LoadComplete, ForEntry, no_pending, load_of, targets, is_fetching}
use Rattle.esm_loads.specs.Load.{Answers}
use Rattle.esm_loads.specs.Host.{Host, Answered, opening_host, begin_load, begin_by, settle_load, settle_by, with_loading, fulfill}
use Rattle.esm_loads.specs.Host.Answered.{answered, late}
use Rattle.esm_loads.specs.Arrival.{Next, next, next_among, next_by, without_next, AnswersNext, after_fetch, store_by, count_by, put_found, bytes_of}
use Rattle.esm_loads.specs.Whole.{IsWhole, AreUnlinked, is_module}
use Rattle.esm_loads.specs.Laws.{IsOrderly}
use Rattle.esm_loads.proofs.Orderly.{stays_orderly, next_asked}
use Rattle.esm_loads.proofs.Whole.{stays_whole}
use Rattle.esm_loads.proofs.Pending.{first_pending}
use Rattle.esm_world.specs.ImportCalls.{holds_import}
use Rattle.esm_world.specs.World.{World, world_over, opening, stopped, host_of, with_host}
use Rattle.esm_world.specs.Jobs.{Jobs}
use Rattle.esm_world.specs.Turn.{Tasks, Turn}
use Rattle.esm_world.specs.Run.{Runs, IsAllowed}
use Rattle.esm_world.specs.Direct.{itself, requested, IsClean}
use Rattle.esm_world.proofs.Deliveries.{open_ask}
use Rattle.esm_world.proofs.StartsOnce.{Once, makes_first_calls}
use Rattle.esm_order_laws.proofs.CleanCalls.{SameModules, NoImports}
use Rattle.esm_order_laws.proofs.CleanJobs.{jobs_moves}
use Rattle.esm_order_laws.proofs.LoadPhase.{In, file, IsFile, is_file, FineRequest, FineRequests, put_fine, own_load, Base, Complete, Outcome, Early, answers_goes}

abbrev pub Ps : Type 0
Ps = Promises (Reaction Url) (Value Url)

-- the promise of the entry's load, before its end and behind it
abbrev pub before_end : Ps
before_end = make no_promises (EntryLoaded ∷ [])

abbrev pub behind_end : Ps
behind_end = settle before_end 0 (Fulfilled Undefined)

-- no body has begun in a world in which nothing was evaluated
pub once_over : (h : Host) (trace : Bool) → Once (world_over h trace)
once_over h trace = record {
  distinct = tt;
  calm = λ live. makes_first_calls.opening (world_over h trace) (record { phases = λ x. refl; free = λ x. refl; undone = λ x. refl; stamps = refl }) (λ x. refl);
}

some_of : {A : Type 0} {a b : A} → ◌≡◌ {A = Option A} (Some a) (Some b) → a ≡ b
some_of e = cc

none_of : (o : Option TableEntry) → is_fetching o ≡ true → o ≡ None
none_of None h = refl
none_of (Some e) h = cc

no_next : (l : Loading) (us : List Url) → ((u : Url) → has us u ≡ true → l.pending u ≡ []) → next_among l us ≡ None
no_next l [] h = refl
no_next l (u ∷ us) h = ap (λ rs. next_by u (l.entries u) rs (next_among l us)) (h u (has_own u us)) ∙ by (l.entries u) (no_next l us (λ v k. h v (or_true (same_url v u) (has us v) k)))
  where
    by : (e : Option TableEntry) → next_among l us ≡ None → next_by u e [] (next_among l us) ≡ None
    by None k = k
    by (Some e) k = k

module _ (maps : Maps) (built : List Item → Bool) (files : Files) (entry : Url) (clean : IsClean maps built files entry) where
  abbrev InC : Url → Type 0
  InC u = In maps built files entry clean u

  abbrev BaseC : Loading → Type 0
  BaseC l = Base maps built files entry clean l

  abbrev FineC : Url → PendingRequest → Type 0
  FineC u a = FineRequest maps built files entry clean u a

  abbrev FinesC : Url → List PendingRequest → Type 0
  FinesC u rs = FineRequests maps built files entry clean u rs

  pub record EarlyParts (h : Host) : Type 0 where
    pub early : Early maps built files entry clean h.imports
    pub promises : h.promises ≡ before_end
    pub errors : h.errors ≡ []

  pub record ReadyParts (h : Host) : Type 0 where
    pub complete : Complete maps built files entry clean h.imports
    pub promises : h.promises ≡ behind_end
    pub errors : h.errors ≡ []

  -- before the end of the entry's load, and behind it
  pub record EarlyHost (h : Host) : Type 0 where
    pub parts : EarlyParts h
    pub orderly : IsOrderly h.imports
    pub whole : IsWhole h.imports

  pub record ReadyHost (h : Host) : Type 0 where
    pub parts : ReadyParts h
    pub orderly : IsOrderly h.imports
    pub whole : IsWhole h.imports

  -- ---- an answer

  pub begun_same : (h : Host) (a : PendingRequest) (u : Url) (e : TableEntry) → h.imports.purposes ≡ ForEntry 0 ∷ [] → FineC u a → begin_load h a u e ≡ h
  begun_same h (Root s) u e p fine = (λ i. begin_by h (fine.0 i) (thrown_by u e) (slice_get (p i) (fine.0 i))) ∙ by (thrown_by u e)
    where
      by : (t : Option Throw) → begin_by h 0 t (Some (ForEntry 0)) ≡ h
      by None = refl
      by (Some t) = refl
  begun_same h (Request s x i) u e p fine = refl

  settles_to : (h : Host) (s : ℕ) (state : LoadState) → s ≡ 0 → h.imports.purposes ≡ ForEntry 0 ∷ [] → h.imports.loads ≡ state ∷ [] → settle_load h s ≡ settle_by h (Some (ForEntry 0)) (Some state)
  settles_to h s state e p l = λ i. settle_by h (slice_get (p i) (e i)) (slice_get (l i) (e i))

  settle_parts : (h : Host) (l : Loading) (s : ℕ) → s ≡ 0 → EarlyParts h → Outcome maps built files entry clean l → EarlyParts (settle_load (with_loading h l) s) ⊎ ReadyParts (settle_load (with_loading h l) s)
  settle_parts h l s mine early (inl g) =
      let is = settles_to (with_loading h l) s (Open entry g.visited) mine g.base.purposes g.loads_are in
      let parts : EarlyParts (with_loading h l) = record { early = (g.base, inr (g.visited, g.loads_are)); promises = early.promises; errors = early.errors } in
      inl (subst EarlyParts (sym is) parts)
  settle_parts h l s mine early (inr c) =
      let is = settles_to (with_loading h l) s (LoadComplete entry) mine c.base.purposes c.loads_are in
      let parts : ReadyParts (fulfill (with_loading h l) 0) = record { complete = c; promises = ap (λ (ps : Ps). settle ps 0 (Fulfilled Undefined)) early.promises; errors = early.errors } in
      inr (subst ReadyParts (sym is) parts)

  step_parts : {h k : Host} {a : PendingRequest} {u : Url} {e : TableEntry} → EarlyParts h → InC u → file maps built files entry clean u ≡ Some e → FineC u a → Answered h a u e k → EarlyParts k ⊎ ReadyParts k
  step_parts early inside is fine (late n) = inl early
  step_parts {h} {a = a} {u = u} {e = e} early inside is fine (answered {l = l} q) =
      let begun = begun_same h a u e early.early.0.purposes fine in
      let goes = answers_goes maps built files entry clean early.early inside is fine (subst (λ (k : Host). Answers k.imports a u e l) begun q) in
      subst (λ k. EarlyParts (settle_load (with_loading k l) (load_of a)) ⊎ ReadyParts (settle_load (with_loading k l) (load_of a))) (sym begun)
      (settle_parts h l (load_of a) (own_load maps built files entry clean u a fine) early goes)

  pub next_fine : (h : Host) (n : Next) → EarlyHost h → next h.imports ≡ Some n → FinesC n.url (n.pending_request ∷ n.others)
  next_fine h n early is = subst (λ rs. FinesC n.url rs) (first_pending.is h.imports n is).first (early.parts.early.0.requests n.url)

  -- the request that is answered is taken away
  pub without_parts : (h : Host) (n : Next) → EarlyHost h → next h.imports ≡ Some n → EarlyParts (without_next h n)
  without_parts h n early is =
      let b : BaseC h.imports = early.parts.early.0 in
      record {
        early = (
          record {
            maps_are = b.maps_are;
            built_are = b.built_are;
            within = b.within;
            fetched = b.fetched;
            purposes = b.purposes;
            requests = put_fine maps built files entry clean h.imports.pending n.url n.others b.requests (next_fine h n early is).1;
          },
          early.parts.early.1,
        );
        promises = early.parts.promises;
        errors = early.parts.errors;
      }

  pub step : {h k : Host} → EarlyHost h → AnswersNext h k → EarlyHost k ⊎ ReadyHost k
  step {h} {k} early a =
      by (step_parts (without_parts h a.who early a.is_next) (b.within a.who.url (next_asked h.imports a.who a.is_next))
      (b.fetched a.who.url a.who.entry (first_pending.is h.imports a.who a.is_next).fetched) (next_fine h a.who early a.is_next).0 a.answered)
    where
      b : BaseC h.imports
      b = early.parts.early.0

      by : EarlyParts k ⊎ ReadyParts k → EarlyHost k ⊎ ReadyHost k
      by (inl p) = inl (record { parts = p; orderly = stays_orderly.next h k early.orderly a; whole = stays_whole.next h k early.whole a })
      by (inr p) = inr (record { parts = p; orderly = stays_orderly.next h k early.orderly a; whole = stays_whole.next h k early.whole a })

  -- ---- the end of a fetch

  abbrev counted_host : Host → OutcomeView → Host
  counted_host h c = with_loading h (record h.imports { bytes = h.imports.bytes + bytes_of c })

  fetch_parts : (h : Host) (u : Url) (c : OutcomeView) → EarlyParts h → InC u → files u ≡ Some c → (after_fetch h u c).imports.stopped ≡ None → EarlyParts (after_fetch h u c)
  fetch_parts h u c early inside given live = by (nat_lt MAX_DELIVERED_BYTES (h.imports.bytes + bytes_of c)) live
    where
      f : IsFile maps built files entry clean u
      f = is_file maps built files entry clean u inside

      b : BaseC h.imports
      b = early.early.0

      what : found h.imports.maps h.imports.built u c ≡ founds.Script f.module_is
      what = (λ i. found (b.maps_are i) (b.built_are i) u (some_of (sym given ∙ f.given) i)) ∙ f.found_is

      entry_stands : (v : Url) (e : TableEntry) → put_at h.imports.entries u (Some (Module f.module_is)) v ≡ Some e → file maps built files entry clean v ≡ Some e
      entry_stands v e k = put (same_url u v) refl k
        where
          put : (t : Bool) → same_url u v ≡ t → cond t (Some (Module f.module_is)) (h.imports.entries v) ≡ Some e → file maps built files entry clean v ≡ Some e
          put true s k = subst (λ w. file maps built files entry clean w ≡ Some e) (same_text u v s) (f.entry_is ∙ k)
          put false s k = b.fetched v e k

      stored : EarlyParts (put_found (counted_host h c) u (founds.Script f.module_is))
      stored = record {
        early = (
          record {
            maps_are = b.maps_are;
            built_are = b.built_are;
            within = b.within;
            fetched = entry_stands;
            purposes = b.purposes;
            requests = b.requests;
          },
          early.early.1,
        );
        promises = early.promises;
        errors = early.errors;
      }

      store : (st : Option Limit) → h.imports.stopped ≡ st → (store_by st (counted_host h c) u c).imports.stopped ≡ None → EarlyParts (store_by st (counted_host h c) u c)
      store None e k = subst (λ o. EarlyParts (put_found (counted_host h c) u o)) (sym what) stored
      store (Some limit) e k = let no : Some limit ≡ None = sym e ∙ k in absurd cc

      by : (t : Bool) → (store_by (count_by t h.imports (bytes_of c)).stopped (with_loading h (count_by t h.imports (bytes_of c))) u c).imports.stopped ≡ None
          → EarlyParts (store_by (count_by t h.imports (bytes_of c)).stopped (with_loading h (count_by t h.imports (bytes_of c))) u c)
      by true k = absurd cc
      by false k = store h.imports.stopped refl k

  pub fetch : (h : Host) (u : Url) (c : OutcomeView) → EarlyHost h → has h.imports.asked u ≡ true → is_fetching (h.imports.entries u) ≡ true → files u ≡ Some c → (after_fetch h u c).imports.stopped ≡ None
      → EarlyHost (after_fetch h u c)
  fetch h u c early asked_is fetching given live = record {
    parts = fetch_parts h u c early.parts (early.parts.early.0.within u asked_is) given live;
    orderly = stays_orderly.fetched h u c early.orderly asked_is;
    whole = stays_whole.fetched h u c early.whole (none_of (h.imports.entries u) fetching);
  }

  -- ---- behind the end of the load

  module_by : (o : Option TableEntry) → is_module o ≡ true → is_fetching o ≡ false
  module_by None h = cc
  module_by (Some e) h = refl

  unlinked_among : (l : Loading) (ts : List Url) → AreUnlinked l ts → (t : Url) → has ts t ≡ true → l.unlinked t ≡ true
  unlinked_among l [] h t k = let no : false ≡ true = k in absurd cc
  unlinked_among l (s ∷ ts) h t k = by (same_url t s) refl k (unlinked_among l ts h.1 t)
    where
      by : (b : Bool) → same_url t s ≡ b → (b || has ts t) ≡ true → (has ts t ≡ true → l.unlinked t ≡ true) → l.unlinked t ≡ true
      by true e k rest = subst (λ u. l.unlinked u ≡ true) (sym (same_text t s e)) h.0
      by false e k rest = rest k

  module _ (h : Host) (ready : ReadyHost h) where
    abbrev l : Loading
    l = h.imports

    b : BaseC l
    b = ready.parts.complete.base

    entry_of : (u : Url) (o : Option TableEntry) → l.entries u ≡ o → is_module o ≡ true → l.entries u ≡ file maps built files entry clean u
    entry_of u None e m = cc
    entry_of u (Some k) e m = e ∙ sym (b.fetched u k e)

    -- each URL of the closure is Unlinked
    unlinked_is : {u : Url} → InC u → l.unlinked u ≡ true
    unlinked_is itself = (ready.whole.each 0).complete entry (ap (λ ls. slice_get ls 0) ready.parts.complete.loads_are)
    unlinked_is (requested {u = u} {t = t} c k) =
        let loaded = ready.whole.loaded u (unlinked_is c) in
        unlinked_among l (targets l u) loaded.targets_are t (subst (λ o. has (targets_in o) t ≡ true) (sym (entry_of u (l.entries u) refl loaded.stands)) k)

    pub entry_is : (u : Url) → InC u → l.entries u ≡ file maps built files entry clean u
    entry_is u c = entry_of u (l.entries u) refl (ready.whole.loaded u (unlinked_is c)).stands

    pub fetched_is : (u : Url) → InC u → is_fetching (l.entries u) ≡ false
    fetched_is u c = module_by (l.entries u) (ready.whole.loaded u (unlinked_is c)).stands

    pub asked_is : (u : Url) → InC u → has l.asked u ≡ true
    asked_is u c = ready.orderly.fetched u (fetched_is u c)

    pub closure_of : (u : Url) (e : TableEntry) → l.entries u ≡ Some e → InC u
    closure_of u e k = b.within u (ready.orderly.fetched u (ap is_fetching k))

    pub no_imports : NoImports l
    no_imports u = by (l.entries u) refl
      where
        by : (o : Option TableEntry) → l.entries u ≡ o → holds_import (body_in o) ≡ false
        by None e = refl
        by (Some k) e =
            let f = is_file maps built files entry clean u (closure_of u k e) in
            subst (λ o. holds_import (body_in o) ≡ false) (sym f.entry_is ∙ b.fetched u k e) f.quiet

    pub nothing_next : next l ≡ None
    nothing_next = no_next l l.asked ready.parts.complete.free

    -- no URL is an open ask
    pub none_open : (u : Url) → has l.asked u ≡ true → is_fetching (l.entries u) ≡ true → ⊥
    none_open u k e = not_both (is_fetching (l.entries u)) e (fetched_is u (b.within u k))

    -- jobs leave loading as it is
    same_modules : SameModules l l
    same_modules = record { entries = refl; alike = λ u. refl; long = refl; loads = refl; purposes = refl; stopped = refl }

    pub jobs_leave : (trace : Bool) (mid : World) → Jobs (world_over h trace) mid → mid.loading ≡ l
    jobs_leave trace mid j = (jobs_moves l l same_modules no_imports (tt, refl) (once_over h trace) j).1.1

  -- ---- turns

  -- how far a run has come: it waits for files, or jobs have run behind the end of the entry's load
  pub data Reached (trace : Bool) (w : World) : Type 0 where
    waiting : (h : Host) → EarlyHost h → w ≡ world_over h trace → Reached trace w
    over : (h : Host) → ReadyHost h → Jobs (world_over h trace) w → w.loading ≡ h.imports → Reached trace w

  pub jobs_wait : (h : Host) (trace : Bool) {mid : World} → EarlyHost h → Jobs (world_over h trace) mid → mid ≡ world_over h trace
  jobs_wait h trace early (Jobs.none n) = refl
  jobs_wait h trace early (Jobs.stops limit s) = refl
  jobs_wait h trace early (Jobs.job j left how live is done p q) = let none = sym (ap next_job early.parts.promises) ∙ is in cc

  pub tasks_over : {w after : World} → next w.loading ≡ None → Tasks w after → after ≡ w
  tasks_over n (Tasks.none m) = refl
  tasks_over n (Tasks.stops limit s) = refl
  tasks_over n (Tasks.task live a j p) = let some = sym n ∙ a.is_next in cc

  tasks_reach : (trace : Bool) {w after : World} (h : Host) → w ≡ world_over h trace → EarlyHost h → Tasks w after → Reached trace after
  tasks_reach trace h e early (Tasks.none n) = Reached.waiting h early e
  tasks_reach trace h e early (Tasks.stops limit s) = Reached.waiting h early e
  tasks_reach trace {w} {after} h e early (Tasks.task {mid = mid} {h = k} live a j rest) =
      by (step early (subst (λ w. AnswersNext (host_of w) k) e a)) (λ soon. tasks_reach trace k (jobs_wait k trace soon jobs) soon rest)
    where
      jobs : Jobs (world_over k trace) mid
      jobs = subst (λ w. Jobs (with_host w k) mid) e j

      by : EarlyHost k ⊎ ReadyHost k → (EarlyHost k → Reached trace after) → Reached trace after
      by (inl soon) on = on soon
      by (inr ready) on =
          let same = jobs_leave k ready trace mid jobs in
          let is : after ≡ mid = tasks_over (ap next same ∙ nothing_next k ready) rest in
          Reached.over k ready (subst (λ w. Jobs (world_over k trace) w) (sym is) jobs) (ap (λ (w : World). w.loading) is ∙ same)

  -- a run that isn't stopped in the end was never stopped
  pub runs_live : (ds : List Delivery) (v w : World) → Runs v ds w → stopped w ≡ None → stopped v ≡ None
  runs_live [] v w p live = ap stopped (sym p) ∙ live
  runs_live (d ∷ ds) v w p live = (open_ask v d.url p.0.asked).live

  pub some_stops : (o e : Option Limit) (limit : Limit) → o ≡ Some limit → option_or o e ≡ None → ⊥
  some_stops None e limit h live = cc
  some_stops (Some l) e limit h live = cc

  loading_live : (o e : Option Limit) → option_or o e ≡ None → o ≡ None
  loading_live None e h = refl
  loading_live (Some limit) e h = cc

  turn_reach : (trace : Bool) (h : Host) (d : Delivery) (mid : World) → EarlyHost h → IsAllowed (world_over h trace) d → files d.url ≡ Some d.outcome → stopped mid ≡ None
      → Turn (world_over h trace) d.url d.outcome mid → Reached trace mid
  turn_reach trace h d mid early allowed given live (Turn.limit limit s) = absurd (some_stops mid.loading.stopped mid.engine.stopped limit s live)
  turn_reach trace h d mid early allowed given live (Turn.turn none p) =
      let ask = open_ask (world_over h trace) d.url allowed.asked in
      tasks_reach trace (after_fetch h d.url d.outcome) refl (fetch h d.url d.outcome early ask.asked ask.fetching given none) p

  runs_reach : (trace : Bool) (ds : List Delivery) (v w : World) → AreOfFiles files ds → stopped w ≡ None → Reached trace v → Runs v ds w → Reached trace w
  runs_reach trace [] v w of live r p = subst (λ x. Reached trace x) (sym p) r
  runs_reach trace (d ∷ ds) v w of live r p = runs_reach trace ds p.1 w of.1 live (by r) p.3
    where
      by : Reached trace v → Reached trace p.1
      by (Reached.waiting h early e) =
          turn_reach trace h d p.1 early (subst (λ x. IsAllowed x d) e p.0) of.0 (runs_live ds p.1 w p.3 live) (subst (λ x. Turn x d.url d.outcome p.1) e p.2)
      by (Reached.over h ready j same) =
          let ask = open_ask v d.url p.0.asked in
          absurd (none_open h ready d.url (subst (λ (l : Loading). has l.asked d.url ≡ true) same ask.asked) (subst (λ (l : Loading). is_fetching (l.entries d.url) ≡ true) same ask.fetching))

  pub opening_early : EarlyHost (opening_host maps built entry)
  opening_early = record {
    parts = record {
      early = (
        record {
          maps_are = refl;
          built_are = refl;
          within = λ u k. first u k;
          fetched = λ u e k. cc;
          purposes = refl;
          requests = put_fine maps built files entry clean no_pending entry (Root 0 ∷ []) (λ u. tt) ((refl, refl), tt);
        },
        inl refl,
      );
      promises = refl;
      errors = refl;
    };
    orderly = stays_orderly.opening maps built entry;
    whole = stays_whole.opening maps built entry;
  }
    where
      first : (u : Url) → has (entry ∷ []) u ≡ true → InC u
      first u k = by (same_url u entry) refl k
        where
          by : (b : Bool) → same_url u entry ≡ b → (b || false) ≡ true → InC u
          by true e k = subst InC (sym (same_text u entry e)) itself
          by false e k = let no : false ≡ true = k in absurd cc

  -- a run of clean files that no limit has stopped
  pub run_reaches : (trace : Bool) (ds : List Delivery) (w : World) → AreOfFiles files ds → Runs (opening maps built entry trace) ds w → stopped w ≡ None → Reached trace w
  run_reaches trace ds w of p live = runs_reach trace ds (opening maps built entry trace) w of live (Reached.waiting (opening_host maps built entry) opening_early refl) p
