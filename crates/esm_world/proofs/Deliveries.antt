-- Each delivery is of another URL, each was asked, and there are at most as many as asks.
use mathlib.Core.Bool.{true≢false}
use Rattle.std.proofs.Common.{◌≡◌, ◌<◌, ◌≤◌, suc, ◌+◌, Bool, true, false, List, [], ◌∷◌, ◌++◌, length, Some, None, Option, refl, ap, subst, sym, ◌∙◌, arith, inl, inr}
use Rattle.std.specs.Prelude.{◌⊎◌, ◌≢◌, nat_lt, option_map}
use Rattle.std.specs.Option.{option_or}
use Rattle.esm_tree.specs.Syntax.{Item}
use Rattle.esm_import_map.specs.ImportMap.{Maps}
use Rattle.esm_base.specs.declared.limits.Limit.{Limit}
use Rattle.esm_base.specs.declared.limits.TheConstants.{MAX_DELIVERED_BYTES}
use Rattle.esm_base.specs.declared.status.Status.TheVariants as statuses
use Rattle.esm_base.specs.Urls.{Url, has, same_url}
use Rattle.esm_realm.specs.Laws.{AreDistinct}
use Rattle.esm_realm.proofs.Urls.{cases, same_text, own_text, or_true, or_left, or_cases, has_append, not_both, not_true}
use Rattle.esm_ast.specs.Outcome.{OutcomeView}
use Rattle.esm_loads.specs.UrlTable.{Entries, Found, Nothing, Faulty, Script, found}
use Rattle.esm_loads.specs.Loading.{is_fetching}
use Rattle.esm_loads.specs.Host.{Host, with_loading}
use Rattle.esm_loads.specs.Arrival.{bytes_of, count_by, put_found, store, store_by, after_fetch, open_asks}
use Rattle.esm_loads.specs.Laws.{IsOrderly}
use Rattle.esm_loads.proofs.Orderly.{put_own, put_other, stays_orderly}
use Rattle.esm_world.specs.World.{World, host_of, opening, stopped}
use Rattle.esm_world.specs.Turn.{Turn, fetched}
use Rattle.esm_world.specs.LastLine.{ending_by, exit_status}
use Rattle.esm_world.specs.Run.{Runs, asks, ending, Shown, StandardRun}
use Rattle.esm_ast.specs.Deliveries.{Delivery, asks_by}
use Rattle.esm_world.specs.Laws.{urls_of}
use Rattle.esm_world.proofs.Grows.{fetch_stays}
use Rattle.esm_world.proofs.WorldGrows.{tasks_progress}
use Rattle.esm_world.proofs.Members.{has_filter, filter_in, within}

-- the fetch of the URL has ended
abbrev IsFetched : World → Url → Type 0
IsFetched w u = is_fetching (w.loading.entries u) ≡ false

pub asks_live : (stop : Option Limit) (us : List Url) (u : Url) → has (asks_by stop us) u ≡ true → (stop ≡ None) × (has us u ≡ true)
asks_live None us u h = (refl, h)
asks_live (Some limit) us u h = absurd (true≢false (sym h))

-- an open ask was asked, isn't fetched, and no limit has stopped
pub record IsOpenAsk (w : World) (u : Url) : Type 0 where
  pub live : stopped w ≡ None
  pub asked : has w.loading.asked u ≡ true
  pub fetching : is_fetching (w.loading.entries u) ≡ true

pub open_ask : (w : World) (u : Url) → has (asks w) u ≡ true → IsOpenAsk w u
open_ask w u h =
    let k = asks_live (stopped w) (open_asks w.loading) u h in
    let found = has_filter (λ v. is_fetching (w.loading.entries v)) w.loading.asked u k.1 in
    record { live = k.0; asked = found.0; fetching = found.1 }

-- ---- what a turn puts into the table

record Puts (old : Entries) (u : Url) (new : Entries) : Type 0 where
  own : is_fetching (new u) ≡ false
  others : (v : Url) → same_url u v ≡ false → new v ≡ old v

by_found : (h : Host) (u : Url) (f : Found) → Puts h.imports.entries u (put_found h u f).imports.entries
by_found h u Nothing = record { own = ap is_fetching (put_own h.imports.entries u _); others = λ v e. put_other h.imports.entries u v _ e }
by_found h u (Script m) = record { own = ap is_fetching (put_own h.imports.entries u _); others = λ v e. put_other h.imports.entries u v _ e }
by_found h u (Faulty f) = record { own = ap is_fetching (put_own h.imports.entries u _); others = λ v e. put_other h.imports.entries u v _ e }

by_store : (h : Host) (u : Url) (c : OutcomeView) (o : Option Limit) → h.imports.stopped ≡ o → (store_by o h u c).imports.stopped ≡ None → Puts h.imports.entries u (store_by o h u c).imports.entries
by_store h u c None e live = by_found h u (found h.imports.maps h.imports.built u c)
by_store h u c (Some limit) e live = let k = sym e ∙ live in cc

by_count : (h : Host) (u : Url) (c : OutcomeView) (b : Bool) → (store (with_loading h (count_by b h.imports (bytes_of c))) u c).imports.stopped ≡ None → Puts h.imports.entries u (store (with_loading h (count_by b h.imports (bytes_of c))) u c).imports.entries
by_count h u c true live = cc
by_count h u c false live = by_store (with_loading h (count_by false h.imports (bytes_of c))) u c h.imports.stopped refl live

fetch_puts : (h : Host) (u : Url) (c : OutcomeView) → (after_fetch h u c).imports.stopped ≡ None → Puts h.imports.entries u (after_fetch h u c).imports.entries
fetch_puts h u c live = by_count h u c (nat_lt MAX_DELIVERED_BYTES (h.imports.bytes + bytes_of c)) live

first_none : (a b : Option Limit) → option_or a b ≡ None → a ≡ None
first_none None b e = refl
first_none (Some limit) b e = cc

turn_puts : {w : World} {u : Url} {c : OutcomeView} {m : World} → Turn w u c m → stopped m ≡ None → Puts w.loading.entries u m.loading.entries
turn_puts {w} {u} {c} {m} (Turn.limit limit s) live = fetch_puts (host_of w) u c (first_none m.loading.stopped m.engine.stopped live)
turn_puts {w} {u} {c} (Turn.turn live p) l = subst (λ es. Puts w.loading.entries u es) (sym (tasks_progress p).grows.entries) (fetch_puts (host_of w) u c live)

turn_settles : {w : World} {u : Url} {c : OutcomeView} {m : World} (v : Url) → Turn w u c m → stopped m ≡ None → (v ≡ u) ⊎ IsFetched w v → IsFetched m v
turn_settles {w} {u} {c} {m} v q live (inl e) = subst (λ x. IsFetched m x) (sym e) (turn_puts q live).own
turn_settles {w} {u} {c} {m} v q live (inr f) = by (cases (same_url u v))
  where
    by : (same_url u v ≡ true) ⊎ (same_url u v ≡ false) → IsFetched m v
    by (inl s) = subst (λ x. IsFetched m x) (same_text u v s) (turn_puts q live).own
    by (inr s) = ap is_fetching ((turn_puts q live).others v s) ∙ f

turn_delivers : {w : World} {u : Url} {c : OutcomeView} {m : World} (v : Url) → Turn w u c m → stopped m ≡ None → IsFetched m v → (same_url v u ≡ true) ⊎ IsFetched w v
turn_delivers {w} {u} {c} {m} v q live f = by (cases (same_url u v))
  where
    by : (same_url u v ≡ true) ⊎ (same_url u v ≡ false) → (same_url v u ≡ true) ⊎ IsFetched w v
    by (inl s) = inl (subst (λ x. same_url x u ≡ true) (same_text u v s) (own_text u))
    by (inr s) = inr (ap is_fetching (sym ((turn_puts q live).others v s)) ∙ f)

-- ---- turns keep what is asked in order

turn_orderly : {w : World} {u : Url} {c : OutcomeView} {m : World} → Turn w u c m → has w.loading.asked u ≡ true → IsOrderly w.loading → IsOrderly m.loading
turn_orderly {w} {u} {c} (Turn.limit l s) k o = stays_orderly.fetched (host_of w) u c o k
turn_orderly {w} {u} {c} (Turn.turn live p) k o = (tasks_progress p).orderly (stays_orderly.fetched (host_of w) u c o k)

runs_orderly : (ds : List Delivery) (w after : World) → Runs w ds after → IsOrderly w.loading → IsOrderly after.loading
runs_orderly [] w after r o = subst (λ w. IsOrderly w.loading) (sym r) o
runs_orderly (d ∷ ds) w after r o = runs_orderly ds r.1 after r.3 (turn_orderly r.2 (open_ask w d.url r.0.asked).asked o)

has_more : (us vs ws : List Url) (v : Url) → vs ≡ us ++ ws → has us v ≡ true → has vs v ≡ true
has_more us vs ws v e h = ap (λ xs. has xs v) e ∙ has_append us ws v ∙ or_left (has us v) (has ws v) h

turn_asked : {w : World} {u : Url} {c : OutcomeView} {m : World} (v : Url) → Turn w u c m → has w.loading.asked v ≡ true → has m.loading.asked v ≡ true
turn_asked {w} {u} {c} v (Turn.limit l s) h = ap (λ us. has us v) (fetch_stays (host_of w) u c).asked ∙ h
turn_asked {w} {u} {c} v (Turn.turn live p) h =
    let g = (tasks_progress p).grows in
    has_more (fetched w u c).loading.asked _ g.more v g.asked (ap (λ us. has us v) (fetch_stays (host_of w) u c).asked ∙ h)

pub turn_maps : {w : World} {u : Url} {c : OutcomeView} {m : World} → Turn w u c m → (m.loading.maps ≡ w.loading.maps) × (m.loading.built ≡ w.loading.built)
turn_maps {w} {u} {c} (Turn.limit l s) = let k = fetch_stays (host_of w) u c in (k.maps, k.built)
turn_maps {w} {u} {c} (Turn.turn live p) = let k = fetch_stays (host_of w) u c in let g = (tasks_progress p).grows in (g.maps ∙ k.maps, g.built ∙ k.built)

-- ---- open asks

live_before : (ds : List Delivery) (w after : World) → Runs w ds after → stopped after ≡ None → stopped w ≡ None
live_before [] w after r e = ap stopped (sym r) ∙ e
live_before (d ∷ ds) w after r e = (open_ask w d.url r.0.asked).live

-- what was fetched, or is delivered, is fetched in the end
runs_settle : (ds : List Delivery) (w after : World) (v : Url) → Runs w ds after → stopped after ≡ None → (has (urls_of ds) v ≡ true) ⊎ IsFetched w v → IsFetched after v
runs_settle [] w after v r e (inl h) = absurd (true≢false (sym h))
runs_settle [] w after v r e (inr h) = subst (λ w. IsFetched w v) (sym r) h
runs_settle (d ∷ ds) w after v r e h = by h (runs_settle ds r.1 after v r.3 e)
  where
    live : stopped r.1 ≡ None
    live = live_before ds r.1 after r.3 e

    first : (same_url v d.url ≡ true) ⊎ (has (urls_of ds) v ≡ true) → ((has (urls_of ds) v ≡ true) ⊎ IsFetched r.1 v → IsFetched after v) → IsFetched after v
    first (inl s) later = later (inr (turn_settles v r.2 live (inl (same_text v d.url s))))
    first (inr s) later = later (inl s)

    by : (has (urls_of (d ∷ ds)) v ≡ true) ⊎ IsFetched w v → ((has (urls_of ds) v ≡ true) ⊎ IsFetched r.1 v → IsFetched after v) → IsFetched after v
    by (inl h) later = first (or_cases (same_url v d.url) (has (urls_of ds) v) h) later
    by (inr h) later = later (inr (turn_settles v r.2 live (inr h)))

open_in : (ds : List Delivery) (w after : World) (v : Url) → Runs w ds after → has (asks after) v ≡ true → (has after.loading.asked v ≡ true) × (has (urls_of ds) v ≡ false)
open_in ds w after v r h =
    let k = open_ask after v h in
    (k.asked, not_true (has (urls_of ds) v) (λ e. not_both (is_fetching (after.loading.entries v)) k.fetching (runs_settle ds w after v r k.live (inl e))))

-- ---- each once

-- what is fetched isn't delivered any more
later_differs : (ds : List Delivery) (w after : World) (v : Url) → Runs w ds after → IsFetched w v → has (urls_of ds) v ≡ false
later_differs [] w after v r f = refl
later_differs (d ∷ ds) w after v r f = not_true (has (urls_of (d ∷ ds)) v) (λ h. by (or_cases (same_url v d.url) (has (urls_of ds) v) h) (later_differs ds r.1 after v r.3))
  where
    rest : (ds : List Delivery) → Runs r.1 ds after → (IsFetched r.1 v → has (urls_of ds) v ≡ false) → has (urls_of ds) v ≡ true → ⊥
    rest [] q later h = true≢false (sym h)
    rest (e ∷ es) q later h = not_both _ h (later (turn_settles v r.2 (open_ask r.1 e.url q.0.asked).live (inr f)))

    by : (same_url v d.url ≡ true) ⊎ (has (urls_of ds) v ≡ true) → (IsFetched r.1 v → has (urls_of ds) v ≡ false) → ⊥
    by (inl s) later = not_both (is_fetching (w.loading.entries d.url)) (open_ask w d.url r.0.asked).fetching (subst (IsFetched w) (same_text v d.url s) f)
    by (inr h) later = rest ds r.3 later h

runs_once : (ds : List Delivery) (w after : World) → Runs w ds after → AreDistinct (urls_of ds)
runs_once [] w after r = tt
runs_once (d ∷ []) w after r = (refl, tt)
runs_once (d ∷ e ∷ ds) w after r =
    let live = (open_ask r.1 e.url r.3.0.asked).live in
    (later_differs (e ∷ ds) r.1 after d.url r.3 (turn_settles d.url r.2 live (inl refl)), runs_once (e ∷ ds) r.1 after r.3)

-- ---- each was asked

pub runs_asked : (ds : List Delivery) (w after : World) (v : Url) → Runs w ds after → (has (urls_of ds) v ≡ true) ⊎ (has w.loading.asked v ≡ true) → has after.loading.asked v ≡ true
runs_asked [] w after v r (inl h) = absurd (true≢false (sym h))
runs_asked [] w after v r (inr h) = subst (λ w. has w.loading.asked v ≡ true) (sym r) h
runs_asked (d ∷ ds) w after v r h = by h (runs_asked ds r.1 after v r.3)
  where
    of_urls : (same_url v d.url ≡ true) ⊎ (has (urls_of ds) v ≡ true) → ((has (urls_of ds) v ≡ true) ⊎ (has r.1.loading.asked v ≡ true) → has after.loading.asked v ≡ true) → has after.loading.asked v ≡ true
    of_urls (inl s) later = later (inr (turn_asked v r.2 (subst (λ u. has w.loading.asked u ≡ true) (sym (same_text v d.url s)) (open_ask w d.url r.0.asked).asked)))
    of_urls (inr s) later = later (inl s)

    by : (has (urls_of (d ∷ ds)) v ≡ true) ⊎ (has w.loading.asked v ≡ true) → ((has (urls_of ds) v ≡ true) ⊎ (has r.1.loading.asked v ≡ true) → has after.loading.asked v ≡ true) → has after.loading.asked v ≡ true
    by (inl h) later = of_urls (or_cases (same_url v d.url) (has (urls_of ds) v) h) later
    by (inr h) later = later (inr (turn_asked v r.2 h))

-- ---- no more than asks

urls_length : (ds : List Delivery) → length (urls_of ds) ≡ length ds
urls_length [] = refl
urls_length (d ∷ ds) = ap suc (urls_length ds)

few_in : (ds : List Delivery) (w after : World) (u : Url) → IsOrderly w.loading → Runs w ds after → has (asks after) u ≡ true → length ds < 4096
few_in ds w after u o r ask =
    let found = open_in ds w after u r ask in
    let few : length after.loading.asked ≤ 4096 = (runs_orderly ds w after r o).few in
    let more : length (u ∷ urls_of ds) ≤ length after.loading.asked = within (u ∷ urls_of ds) after.loading.asked (found.1, runs_once ds w after r) (all found.0) in
    omega (arith, urls_length ds)
  where
    all : has after.loading.asked u ≡ true → (v : Url) → has (u ∷ urls_of ds) v ≡ true → has after.loading.asked v ≡ true
    all first v h = by (or_cases (same_url v u) (has (urls_of ds) v) h)
      where
        by : (same_url v u ≡ true) ⊎ (has (urls_of ds) v ≡ true) → has after.loading.asked v ≡ true
        by (inl s) = subst (λ u. has after.loading.asked u ≡ true) (sym (same_text v u s)) first
        by (inr d) = runs_asked ds w after v r (inl d)

-- ---- all that was asked

-- what is fetched in the end was so, or is delivered
runs_deliver : (ds : List Delivery) (w after : World) (v : Url) → Runs w ds after → stopped after ≡ None → IsFetched after v → (has (urls_of ds) v ≡ true) ⊎ IsFetched w v
runs_deliver [] w after v r e h = inr (subst (λ w. IsFetched w v) r h)
runs_deliver (d ∷ ds) w after v r e h = by (runs_deliver ds r.1 after v r.3 e h)
  where
    first : (same_url v d.url ≡ true) ⊎ IsFetched w v → (has (urls_of (d ∷ ds)) v ≡ true) ⊎ IsFetched w v
    first (inl s) = inl (or_left (same_url v d.url) _ s)
    first (inr s) = inr s

    by : (has (urls_of ds) v ≡ true) ⊎ IsFetched r.1 v → (has (urls_of (d ∷ ds)) v ≡ true) ⊎ IsFetched w v
    by (inl k) = inl (or_true (same_url v d.url) _ k)
    by (inr s) = first (turn_delivers v r.2 (live_before ds r.1 after r.3 e) s)

all_in : (ds : List Delivery) (w after : World) (v : Url) → ((x : Url) → IsFetched w x → ⊥) → Runs w ds after → stopped after ≡ None → has after.loading.asked v ≡ true → (has (asks after) v ≡ true) ⊎ (has (urls_of ds) v ≡ true)
all_in ds w after v none r e h = by (cases (is_fetching (after.loading.entries v)))
  where
    fell : (has (urls_of ds) v ≡ true) ⊎ IsFetched w v → has (urls_of ds) v ≡ true
    fell (inl k) = k
    fell (inr s) = absurd (none v s)

    by : (is_fetching (after.loading.entries v) ≡ true) ⊎ IsFetched after v → (has (asks after) v ≡ true) ⊎ (has (urls_of ds) v ≡ true)
    by (inl g) = inl (ap (λ s. has (asks_by s (open_asks after.loading)) v) e ∙ filter_in (λ u. is_fetching (after.loading.entries u)) after.loading.asked v h g)
    by (inr g) = inr (fell (runs_deliver ds w after v r e g))

-- where the status isn't that of a limit, no limit has stopped
unlimited : (w : World) → option_map exit_status (ending w) ≢ Some statuses.Limit → stopped w ≡ None
unlimited w n = by (stopped w) refl
  where
    by : (s : Option Limit) → stopped w ≡ s → stopped w ≡ None
    by None e = e
    by (Some l) e = absurd (n (ap (λ s. option_map exit_status (ending_by s (asks w) w.entry)) e))

-- ---- the laws

module _ (maps : Maps) (built : List Item → Bool) (entry : Url) (trace : Bool) (ds : List Delivery) (what : Shown) (s : StandardRun maps built entry trace ds what) where
  abbrev start : World
  start = opening maps built entry trace

  opening_is : IsOrderly start.loading
  opening_is = stays_orderly.opening maps built entry

  nothing_fetched : (x : Url) → IsFetched start x → ⊥
  nothing_fetched x h = true≢false h

  pub asks_once : AreDistinct what.asked
  asks_once = subst (λ (k : Shown). AreDistinct k.asked) (sym s.shows) (runs_orderly ds start s.world s.runs opening_is).once

  pub open_asks_are : (u : Url) → has what.asks u ≡ true → (has what.asked u ≡ true) × (has (urls_of ds) u ≡ false)
  open_asks_are u h =
      let r = open_in ds start s.world u s.runs (subst (λ (k : Shown). has k.asks u ≡ true) s.shows h) in
      (subst (λ (k : Shown). has k.asked u ≡ true) (sym s.shows) r.0, r.1)

  pub delivered_once : AreDistinct (urls_of ds)
  delivered_once = runs_once ds start s.world s.runs

  pub delivered_was_asked : (u : Url) → has (urls_of ds) u ≡ true → has what.asked u ≡ true
  delivered_was_asked u h = subst (λ (k : Shown). has k.asked u ≡ true) (sym s.shows) (runs_asked ds start s.world u s.runs (inl h))

  pub few_deliveries : (u : Url) → has what.asks u ≡ true → length ds < 4096
  few_deliveries u ask = few_in ds start s.world u opening_is s.runs (subst (λ (k : Shown). has k.asks u ≡ true) s.shows ask)

  pub delivered_all : (u : Url) → what.status ≢ Some statuses.Limit → has what.asked u ≡ true → (has what.asks u ≡ true) ⊎ (has (urls_of ds) u ≡ true)
  delivered_all u n h =
      let live = unlimited s.world (λ e. n (ap (λ (k : Shown). k.status) s.shows ∙ e)) in
      subst (λ (k : Shown). (has k.asks u ≡ true) ⊎ (has (urls_of ds) u ≡ true)) (sym s.shows)
      (all_in ds start s.world u nothing_fetched s.runs live (subst (λ (k : Shown). has k.asked u ≡ true) s.shows h))
