-- Where the closure is within the limits of loading, no run of these files is stopped while it loads.
use Rattle.std.proofs.Common.{◌≡◌, ◌⊎◌, inl, inr, ℕ, ◌+◌, ◌≤◌, Bool, true, false, cond, List, [], ◌∷◌, length, nat_lt, Option, Some, None, refl, ap, subst, sym, ◌∙◌, arith}
use Rattle.std.specs.Prelude.{sum_by}
use Rattle.std.proofs.lemmas.Bool.{le-ltb, ltb-false}
use Rattle.std.proofs.lemmas.List.Sums.{sum_by-cons}
use Rattle.esm_base.specs.declared.limits.Limit.{Limit}
use Rattle.esm_base.specs.declared.limits.Limit.TheVariants.{L2}
use Rattle.esm_base.specs.declared.limits.TheConstants.{MAX_URLS, MAX_DELIVERED_BYTES}
use Rattle.esm_base.specs.Urls.{Url, has, same_url}
use Rattle.esm_tree.specs.Syntax.{Item}
use Rattle.esm_import_map.specs.ImportMap.{Maps}
use Rattle.esm_ast.specs.Deliveries.{Files, Delivery, AreOfFiles}
use Rattle.esm_ast.specs.Outcome.{OutcomeView}
use Rattle.esm_realm.specs.Laws.{AreDistinct}
use Rattle.esm_realm.proofs.Urls.{has_own, or_true, or_cases, own_text, same_text, not_both, not_true}
use Rattle.esm_realm.proofs.Weigh.{total_within}
use Rattle.esm_loads.specs.UrlTable.{TableEntry, Module, found, put_at}
use Rattle.esm_loads.specs.UrlTable.{Found as founds}
use Rattle.esm_loads.specs.Loading.{Loading, is_fetching}
use Rattle.esm_loads.specs.Host.{Host, opening_host, with_loading}
use Rattle.esm_loads.specs.Arrival.{next, AnswersNext, after_fetch, store_by, count_by, put_found, bytes_of}
use Rattle.esm_loads.specs.Laws.{Grows}
use Rattle.esm_loads.proofs.Orderly.{next_asked, without_orderly, only_grows}
use Rattle.esm_world.specs.World.{World, world_over, opening, stopped, host_of, with_host}
use Rattle.esm_world.specs.Jobs.{Jobs}
use Rattle.esm_world.specs.Turn.{Tasks, Turn}
use Rattle.esm_world.specs.Run.{Runs, IsAllowed}
use Rattle.esm_world.specs.Direct.{IsClean, AreClosure, file_bytes, file_bytes_by}
use Rattle.esm_world.proofs.Deliveries.{open_ask}
use Rattle.esm_order_laws.proofs.LoadPhase.{In, is_file}
use Rattle.esm_order_laws.proofs.LiveLoads.{answered_live}
use Rattle.esm_order_laws.proofs.RunPhase.{EarlyHost, ReadyHost, begun_same, next_fine, without_parts, step, fetch, none_open, jobs_leave, jobs_wait, tasks_over, runs_live, some_stops, opening_early, nothing_next}

some_of : {A : Type 0} {a b : A} → ◌≡◌ {A = Option A} (Some a) (Some b) → a ≡ b
some_of e = cc

module _ (maps : Maps) (built : List Item → Bool) (files : Files) (entry : Url) (clean : IsClean maps built files entry) where
  abbrev pub weight : Url → ℕ
  weight u = file_bytes maps built files u

  abbrev EarlyC : Host → Type 0
  EarlyC h = EarlyHost maps built files entry clean h

  abbrev ReadyC : Host → Type 0
  ReadyC h = ReadyHost maps built files entry clean h

  abbrev InC : Url → Type 0
  InC u = In maps built files entry clean u

  -- ---- the bytes are those of the fetched files

  pub record Account (l : Loading) : Type 0 where
    pub got : List Url
    pub once : AreDistinct got
    pub are : (u : Url) → has got u ≡ true → is_fetching (l.entries u) ≡ false
    pub all : (u : Url) → is_fetching (l.entries u) ≡ false → has got u ≡ true
    pub bytes_are : l.bytes ≡ sum_by weight got
    pub small : l.bytes ≤ MAX_DELIVERED_BYTES

  account_on : (l m : Loading) → Grows l m → Account l → Account m
  account_on l m g a = record {
    got = a.got;
    once = a.once;
    are = λ u h. ap (λ es. is_fetching (es u)) g.entries ∙ a.are u h;
    all = λ u h. a.all u (sym (ap (λ es. is_fetching (es u)) g.entries) ∙ h);
    bytes_are = g.bytes ∙ a.bytes_are;
    small = subst (λ n. n ≤ MAX_DELIVERED_BYTES) (sym g.bytes) a.small;
  }

  abbrev counted_host : Host → OutcomeView → Host
  counted_host h c = with_loading h (record h.imports { bytes = h.imports.bytes + bytes_of c })

  what : (h : Host) (u : Url) (c : OutcomeView) → EarlyC h → (inside : InC u) → files u ≡ Some c → found h.imports.maps h.imports.built u c ≡ founds.Script (is_file maps built files entry clean u inside).module_is
  what h u c early inside given =
      let f = is_file maps built files entry clean u inside in
      let b = early.parts.early.0 in
      (λ i. found (b.maps_are i) (b.built_are i) u (some_of (sym given ∙ f.given) i)) ∙ f.found_is

  -- one more file
  stored_account : (h : Host) (u : Url) (c : OutcomeView) (e : TableEntry) → Account h.imports → is_fetching (h.imports.entries u) ≡ true → files u ≡ Some c → h.imports.bytes + bytes_of c ≤ MAX_DELIVERED_BYTES
      → Account (record h.imports { bytes = h.imports.bytes + bytes_of c; entries = put_at h.imports.entries u (Some e) })
  stored_account h u c e a fetching given small = record {
    got = u ∷ a.got;
    once = (not_true (has a.got u) (λ k. not_both (is_fetching (h.imports.entries u)) fetching (a.are u k)), a.once);
    are = λ v k. is_there v k;
    all = λ v k. among v k;
    bytes_are =
        let own : bytes_of c ≡ weight u = sym (ap (file_bytes_by maps built files) given) in
        let old = a.bytes_are in
        let sum = sum_by-cons weight u a.got in
        omega (arith, own, old, sum);
    small = small;
  }
    where
      is_there : (v : Url) → has (u ∷ a.got) v ≡ true → is_fetching (put_at h.imports.entries u (Some e) v) ≡ false
      is_there v k = by (same_url u v) refl (or_cases (same_url v u) (has a.got v) k)
        where
          by : (b : Bool) → same_url u v ≡ b → (same_url v u ≡ true) ⊎ (has a.got v ≡ true) → is_fetching (cond b (Some e) (h.imports.entries v)) ≡ false
          by true s t = refl
          by false s (inl t) = absurd (not_both (same_url u v) (subst (λ x. same_url x v ≡ true) (same_text v u t) (own_text v)) s)
          by false s (inr t) = a.are v t

      among : (v : Url) → is_fetching (put_at h.imports.entries u (Some e) v) ≡ false → has (u ∷ a.got) v ≡ true
      among v k = by (same_url u v) refl k
        where
          by : (b : Bool) → same_url u v ≡ b → is_fetching (cond b (Some e) (h.imports.entries v)) ≡ false → has (u ∷ a.got) v ≡ true
          by true s t = subst (λ x. has (u ∷ a.got) x ≡ true) (same_text u v s) (has_own u a.got)
          by false s t = or_true (same_url v u) (has a.got v) (a.all v t)

  abbrev AfterBy : Bool → Host → Url → OutcomeView → Host
  AfterBy t h u c = store_by (count_by t h.imports (bytes_of c)).stopped (with_loading h (count_by t h.imports (bytes_of c))) u c

  -- the end of a fetch that isn't stopped
  stored : (h : Host) (u : Url) (c : OutcomeView) (st : Option Limit) → EarlyC h → InC u → Account h.imports → is_fetching (h.imports.entries u) ≡ true → files u ≡ Some c → h.imports.stopped ≡ st → st ≡ None
      → h.imports.bytes + bytes_of c ≤ MAX_DELIVERED_BYTES → ((store_by st (counted_host h c) u c).imports.stopped ≡ None) × Account (store_by st (counted_host h c) u c).imports
  stored h u c None early inside a fetching given is live small =
      subst (λ o. ((put_found (counted_host h c) u o).imports.stopped ≡ None) × Account (put_found (counted_host h c) u o).imports) (sym (what h u c early inside given))
      (is, stored_account h u c (Module (is_file maps built files entry clean u inside).module_is) a fetching given small)
  stored h u c (Some limit) early inside a fetching given is live small = cc

  pub fetch_account : (h : Host) (u : Url) (c : OutcomeView) → EarlyC h → Account h.imports → has h.imports.asked u ≡ true → is_fetching (h.imports.entries u) ≡ true → files u ≡ Some c
      → (after_fetch h u c).imports.stopped ≡ None → Account (after_fetch h u c).imports
  fetch_account h u c early a asked_is fetching given live = by (nat_lt MAX_DELIVERED_BYTES (h.imports.bytes + bytes_of c)) refl live
    where
      inside : InC u
      inside = early.parts.early.0.within u asked_is

      was_live : (st : Option Limit) → h.imports.stopped ≡ st → (store_by st (counted_host h c) u c).imports.stopped ≡ None → st ≡ None
      was_live None e k = refl
      was_live (Some limit) e k = sym e ∙ k

      by : (t : Bool) → nat_lt MAX_DELIVERED_BYTES (h.imports.bytes + bytes_of c) ≡ t → (AfterBy t h u c).imports.stopped ≡ None → Account (AfterBy t h u c).imports
      by true e k = absurd (let no : ◌≡◌ {A = Option Limit} (Some L2) None = k in cc)
      by false e k = (stored h u c h.imports.stopped early inside a fetching given refl (was_live h.imports.stopped refl k) (ltb-false MAX_DELIVERED_BYTES (h.imports.bytes + bytes_of c) e)).1

  -- ---- a run, with what holds of loading beside

  module _ (X : Host → Type 0) (keeps : (h k : Host) → EarlyC h → X h → AnswersNext h k → X k) (trace : Bool) where
    pub data ReachedSo (w : World) : Type 0 where
      waiting : (h : Host) → EarlyC h → X h → w ≡ world_over h trace → ReachedSo w
      over : (h : Host) → ReadyC h → X h → Jobs (world_over h trace) w → w.loading ≡ h.imports → ReachedSo w

    tasks_so : {w after : World} (h : Host) → w ≡ world_over h trace → EarlyC h → X h → Tasks w after → ReachedSo after
    tasks_so h e early x (Tasks.none n) = ReachedSo.waiting h early x e
    tasks_so h e early x (Tasks.stops limit s) = ReachedSo.waiting h early x e
    tasks_so {w} {after} h e early x (Tasks.task {mid = mid} {h = k} live a j rest) =
        by (step maps built files entry clean early answer) (λ soon. tasks_so k (jobs_wait maps built files entry clean k trace soon jobs) soon kept rest)
      where
        answer : AnswersNext h k
        answer = subst (λ w. AnswersNext (host_of w) k) e a

        kept : X k
        kept = keeps h k early x answer

        jobs : Jobs (world_over k trace) mid
        jobs = subst (λ w. Jobs (with_host w k) mid) e j

        by : EarlyC k ⊎ ReadyC k → (EarlyC k → ReachedSo after) → ReachedSo after
        by (inl soon) on = on soon
        by (inr ready) on =
            let same = jobs_leave maps built files entry clean k ready trace mid jobs in
            let is : after ≡ mid = tasks_over maps built files entry clean (ap next same ∙ nothing_next maps built files entry clean k ready) rest in
            ReachedSo.over k ready kept (subst (λ w. Jobs (world_over k trace) w) (sym is) jobs) (ap (λ (w : World). w.loading) is ∙ same)

    -- a fetch that ends keeps it, where it isn't stopped
    abbrev pub KeepsFetch : Type 0
    KeepsFetch = (h : Host) (u : Url) (c : OutcomeView) → EarlyC h → X h → has h.imports.asked u ≡ true → is_fetching (h.imports.entries u) ≡ true → files u ≡ Some c
        → (after_fetch h u c).imports.stopped ≡ None → X (after_fetch h u c)

    -- and none is stopped in the run
    abbrev pub NoneStops : Type 0
    NoneStops = (h : Host) (u : Url) (c : OutcomeView) (limit : Limit) → EarlyC h → X h → has h.imports.asked u ≡ true → is_fetching (h.imports.entries u) ≡ true → files u ≡ Some c
        → (after_fetch h u c).imports.stopped ≡ Some limit → ⊥

    turn_so : KeepsFetch → (h : Host) (d : Delivery) (mid : World) → EarlyC h → X h → IsAllowed (world_over h trace) d → files d.url ≡ Some d.outcome
        → ((limit : Limit) → (after_fetch h d.url d.outcome).imports.stopped ≡ Some limit → mid ≡ world_over (after_fetch h d.url d.outcome) trace → ⊥)
        → Turn (world_over h trace) d.url d.outcome mid → ReachedSo mid
    turn_so fetches h d mid early x allowed given stops (Turn.limit limit s) = absurd (stops limit s refl)
    turn_so fetches h d mid early x allowed given stops (Turn.turn none p) =
        let ask = open_ask (world_over h trace) d.url allowed.asked in
        tasks_so (after_fetch h d.url d.outcome) refl (fetch maps built files entry clean h d.url d.outcome early ask.asked ask.fetching given none)
        (fetches h d.url d.outcome early x ask.asked ask.fetching given none) p

    still_over : (v w : World) (d : Delivery) (h : Host) → ReadyC h → v.loading ≡ h.imports → IsAllowed v d → ReachedSo w
    still_over v w d h ready same allowed =
        let ask = open_ask v d.url allowed.asked in
        absurd (none_open maps built files entry clean h ready d.url (subst (λ (l : Loading). has l.asked d.url ≡ true) same ask.asked) (subst (λ (l : Loading). is_fetching (l.entries d.url) ≡ true) same ask.fetching))

    -- of a run that isn't stopped in the end
    pub runs_so : KeepsFetch → (ds : List Delivery) (v w : World) → AreOfFiles files ds → stopped w ≡ None → ReachedSo v → Runs v ds w → ReachedSo w
    runs_so fetches [] v w of live r p = subst (λ x. ReachedSo x) (sym p) r
    runs_so fetches (d ∷ ds) v w of live r p = runs_so fetches ds p.1 w of.1 live (by r) p.3
      where
        mid_live : stopped p.1 ≡ None
        mid_live = runs_live maps built files entry clean ds p.1 w p.3 live

        by : ReachedSo v → ReachedSo p.1
        by (ReachedSo.waiting h early x e) =
            turn_so fetches h d p.1 early x (subst (λ y. IsAllowed y d) e p.0) of.0
            (λ limit s is. some_stops maps built files entry clean p.1.loading.stopped p.1.engine.stopped limit (ap (λ (y : World). y.loading.stopped) is ∙ s) mid_live)
            (subst (λ y. Turn y d.url d.outcome p.1) e p.2)
        by (ReachedSo.over h ready x j same) = still_over v p.1 d h ready same p.0

    -- of any run, where no fetch stops one
    pub runs_on : KeepsFetch → NoneStops → (ds : List Delivery) (v w : World) → AreOfFiles files ds → ReachedSo v → Runs v ds w → ReachedSo w
    runs_on fetches never [] v w of r p = subst (λ x. ReachedSo x) (sym p) r
    runs_on fetches never (d ∷ ds) v w of r p = runs_on fetches never ds p.1 w of.1 (by r) p.3
      where
        by : ReachedSo v → ReachedSo p.1
        by (ReachedSo.waiting h early x e) =
            let allowed = subst (λ y. IsAllowed y d) e p.0 in
            let ask = open_ask (world_over h trace) d.url allowed.asked in
            turn_so fetches h d p.1 early x allowed of.0 (λ limit s is. never h d.url d.outcome limit early x ask.asked ask.fetching of.0 s) (subst (λ y. Turn y d.url d.outcome p.1) e p.2)
        by (ReachedSo.over h ready x j same) = still_over v p.1 d h ready same p.0

  -- ---- the bytes of a run

  abbrev pub Counted : Host → Type 0
  Counted h = Account h.imports

  pub counted_on : (h k : Host) → EarlyC h → Counted h → AnswersNext h k → Counted k
  counted_on h k early a p = account_on h.imports k.imports (only_grows.next h k p) a

  opening_account : Counted (opening_host maps built entry)
  opening_account = record { got = []; once = tt; are = λ u k. cc; all = λ u k. cc; bytes_are = refl; small = omega arith }

  pub counted_run : (trace : Bool) (ds : List Delivery) (w : World) → AreOfFiles files ds → Runs (opening maps built entry trace) ds w → stopped w ≡ None → ReachedSo Counted counted_on trace w
  counted_run trace ds w of p live =
      runs_so Counted counted_on trace fetch_account ds (opening maps built entry trace) w of live
      (ReachedSo.waiting (opening_host maps built entry) (opening_early maps built files entry clean) opening_account refl) p

  -- ---- no limit

  module _ (ms : List Url) (closure : AreClosure maps built files entry ms) (few : length ms ≤ MAX_URLS) (small : sum_by weight ms ≤ MAX_DELIVERED_BYTES) where
    abbrev pub Within : Host → Type 0
    Within h = Account h.imports × (h.imports.stopped ≡ None)

    pub within_on : (h k : Host) → EarlyC h → Within h → AnswersNext h k → Within k
    within_on h k early x a =
        let fine = next_fine maps built files entry clean h a.who early a.is_next in
        let parts = without_parts maps built files entry clean h a.who early a.is_next in (
          counted_on h k early x.0 a,
          answered_live maps built files entry clean ms closure few parts.early (without_orderly h a.who a.is_next early.orderly) x.1
              (early.parts.early.0.within a.who.url (next_asked h.imports a.who a.is_next)) fine.0
              (begun_same maps built files entry clean _ a.who.pending_request a.who.url a.who.entry parts.early.0.purposes fine.0) a.answered,
        )

    -- the bytes of another file of the closure are within their limit
    fits : (h : Host) (u : Url) (c : OutcomeView) → EarlyC h → Account h.imports → has h.imports.asked u ≡ true → is_fetching (h.imports.entries u) ≡ true → files u ≡ Some c
        → h.imports.bytes + bytes_of c ≤ MAX_DELIVERED_BYTES
    fits h u c early a asked_is fetching given =
        let le = total_within weight (u ∷ a.got) ms (not_true (has a.got u) (λ k. not_both (is_fetching (h.imports.entries u)) fetching (a.are u k)), a.once) among in
        let own : bytes_of c ≡ weight u = sym (ap (file_bytes_by maps built files) given) in
        let old = a.bytes_are in
        let sum = sum_by-cons weight u a.got in
        omega (arith, le, own, old, sum, small)
      where
        among : (v : Url) → has (u ∷ a.got) v ≡ true → has ms v ≡ true
        among v k = by (or_cases (same_url v u) (has a.got v) k)
          where
            by : (same_url v u ≡ true) ⊎ (has a.got v ≡ true) → has ms v ≡ true
            by (inl s) = closure.each v (subst InC (sym (same_text v u s)) (early.parts.early.0.within u asked_is))
            by (inr s) = closure.each v (early.parts.early.0.within v (early.orderly.fetched v (a.are v s)))

    fetch_within : (h : Host) (u : Url) (c : OutcomeView) → EarlyC h → Within h → has h.imports.asked u ≡ true → is_fetching (h.imports.entries u) ≡ true → files u ≡ Some c
        → ((after_fetch h u c).imports.stopped ≡ None) × Account (after_fetch h u c).imports
    fetch_within h u c early x asked_is fetching given =
        let le = fits h u c early x.0 asked_is fetching given in
        let no : nat_lt MAX_DELIVERED_BYTES (h.imports.bytes + bytes_of c) ≡ false = le-ltb MAX_DELIVERED_BYTES (h.imports.bytes + bytes_of c) le in
        subst (λ t. ((AfterBy t h u c).imports.stopped ≡ None) × Account (AfterBy t h u c).imports) (sym no)
        (stored h u c h.imports.stopped early (early.parts.early.0.within u asked_is) x.0 fetching given refl x.1 le)

    pub within_run : (trace : Bool) (ds : List Delivery) (w : World) → AreOfFiles files ds → Runs (opening maps built entry trace) ds w → ReachedSo Within within_on trace w
    within_run trace ds w of p =
        runs_on Within within_on trace (λ h u c early x asked_is fetching given live. let f = fetch_within h u c early x asked_is fetching given in (f.1, f.0))
        (λ h u c limit early x asked_is fetching given s. let f = fetch_within h u c early x asked_is fetching given in let no = sym f.0 ∙ s in cc)
        ds (opening maps built entry trace) w of (ReachedSo.waiting (opening_host maps built entry) (opening_early maps built files entry clean) (opening_account, refl) refl) p
