-- Too many imports stop a run.
use Rattle.std.proofs.Common.{◌≡◌, ℕ, suc, ◌+◌, ◌≤◌, ◌<◌, Bool, true, false, cond, List, [], ◌∷◌, ◌++◌, length, Option, Some, None, refl, ap, subst, sym, ◌∙◌, arith}
use Rattle.std.specs.Prelude.{◌||◌, not, nat_lt, codes, is_some, option_map, slice_get}
use Rattle.std.specs.Option.{option_or}
use Rattle.esm_base.specs.declared.limits.Limit.{Limit}
use Rattle.esm_base.specs.declared.limits.Limit.TheVariants.{L1}
use Rattle.esm_base.specs.declared.limits.TheConstants.{MAX_DELIVERED_BYTES}
use Rattle.esm_base.specs.declared.status.Status.TheVariants as statuses
use Rattle.esm_base.specs.Urls.{Url, has, same_url}
use Rattle.esm_tree.specs.Syntax.{Item}
use Rattle.esm_import_map.specs.ImportMap.{Maps}
use Rattle.esm_ast.specs.Outcome.{OutcomeView}
use Rattle.esm_ast.specs.Deliveries.{asks_by}
use Rattle.esm_realm.specs.Laws.{AreDistinct}
use Rattle.esm_realm.specs.Records.{ModuleRecord}
use Rattle.esm_realm.proofs.Urls.{has_own, has_append, or_left, same_text, own_text}
use Rattle.esm_realm.proofs.Weigh.{length_within}
use Rattle.esm_loads.specs.UrlTable.{TableEntry, Found, Module, no_urls, with_url, put_at, targets_in}
use Rattle.esm_loads.specs.Loading.{Loading, PendingRequest, Root, Request, OpenLoad, open_load, open_load_in, is_fresh, begin, visit, add_pending, ask, ask_by, finish, finish_by, has_pending, targets}
use Rattle.esm_loads.specs.Load.{Enters, Asks, Answers}
use Rattle.esm_loads.specs.Host.{Host, Answered, with_loading, settle_load}
use Rattle.esm_loads.specs.Arrival.{AnswersNext, Next, bytes_of, count_by, put_found, store, next, next_by, open_asks}
use Rattle.esm_loads.proofs.Tables.{settled_imports}
use Rattle.esm_world.specs.World.{World, opening, stopped, host_of, with_host}
use Rattle.esm_world.specs.Jobs.{Jobs}
use Rattle.esm_world.specs.Turn.{Tasks, Turn, fetched}
use Rattle.esm_world.specs.LastLine.{ending_by, exit_status, IsLastLine}
use Rattle.esm_world.specs.Run.{asks, shown, Shown}
use Rattle.esm_world.specs.Examples.{ended}
use Rattle.esm_world.specs.FailingRuns.{ImportsTooMany, TooManyImports}
use Rattle.esm_world.proofs.runs.Steps.{arrived, turn_from, other_url}

-- ---- the requests are gone through

-- the requests from here on lead to a stop
record Stops (l : Loading) (x : Url) (i : ℕ) (ts : List Url) : Type 0 where
  after : Loading
  asks : Asks l 0 x i ts after
  stop : after.stopped ≡ Some L1
  full : length after.asked ≡ 4096

-- the load is at the requests of x, which was entered, and nothing else is fetched. Each of the many is asked or is still to come
record Ready (l : Loading) (x : Url) (o : OpenLoad) (m : ModuleRecord) (many ts : List Url) : Type 0 where
  goes_on : open_load l 0 ≡ Some o
  own : l.entries x ≡ Some (Module m)
  known : is_fresh l o.1 x ≡ false
  asked : has l.asked x ≡ true
  fetching : (t : Url) → same_url t x ≡ false → l.entries t ≡ None
  all : (u : Url) → has many u ≡ true → (has l.asked u || has ts u) ≡ true
  room : length l.asked ≤ 4096

length_push : (us : List Url) (u : Url) → length (us ++ u ∷ []) ≡ length us + 1
length_push [] u = refl
length_push (x ∷ us) u = let e = length_push us u in grind (arith, e)

lt_is : (a b : ℕ) → nat_lt a b ≡ true → a < b
lt_is a b h = grind arith

lt_not : (a b : ℕ) → nat_lt a b ≡ false → b ≤ a
lt_not a b h = grind arith

lt_none : (a b : ℕ) → a ≤ b → nat_lt b a ≡ false
lt_none a b h = grind arith

-- nothing more is asked after the stop
rest_over : (l : Loading) (x : Url) (i : ℕ) (ts : List Url) → open_load l 0 ≡ None → Asks l 0 x i ts l
rest_over l x i [] n = Asks.no_more
rest_over l x i (t ∷ ts) n = Asks.over n

-- a target that was asked needs to come no more
one_fewer : (asked : List Url) (t : Url) (ts : List Url) (u : Url) → has asked t ≡ true → (has asked u || (same_url u t || has ts u)) ≡ true → (has asked u || has ts u) ≡ true
one_fewer asked t ts u h = by (same_url u t) refl
  where
    by : (b : Bool) → same_url u t ≡ b → (has asked u || (b || has ts u)) ≡ true → (has asked u || has ts u) ≡ true
    by true e k = or_left (has asked u) (has ts u) (subst (λ v. has asked v ≡ true) (sym (same_text u t e)) h)
    by false e k = k

-- one that is asked now comes no more
one_asked : (asked : List Url) (t : Url) (ts : List Url) (u : Url) → (has asked u || (same_url u t || has ts u)) ≡ true → (has (asked ++ t ∷ []) u || has ts u) ≡ true
one_asked asked t ts u k = ap (λ b. b || has ts u) (has_append asked (t ∷ []) u) ∙ (by (has asked u) (same_url u t) (has ts u) ∙ k)
  where
    by : (a b c : Bool) → ((a || (b || false)) || c) ≡ (a || (b || c))
    by true b c = refl
    by false true c = refl
    by false false c = refl

module _ (x : Url) (o : OpenLoad) (m : ModuleRecord) (many : List Url) (apart : AreDistinct many) (more : 4096 < length many) where
  abbrev Step : List Url → Type 0
  Step ts = (l : Loading) (i : ℕ) → Ready l x o m many ts → Stops l x i ts

  -- all of the many are asked, which are too many
  none_left : Step []
  none_left l i r =
      let inside : (u : Url) → has many u ≡ true → has l.asked u ≡ true = λ u h. sym (or_none (has l.asked u)) ∙ r.all u h in
      let fits = length_within many l.asked apart inside in
      absurd (omega (arith, fits, r.room, more))
    where
      or_none : (b : Bool) → (b || false) ≡ b
      or_none true = refl
      or_none false = refl

  -- x itself is requested, which was entered
  itself : (t : Url) (ts : List Url) → same_url t x ≡ true → Step ts → Step (t ∷ ts)
  itself t ts e rest l i r =
      let same = same_text t x e in
      let was : has l.asked t ≡ true = subst (λ u. has l.asked u ≡ true) (sym same) r.asked in
      let st = rest l (suc i) (record { goes_on = r.goes_on; own = r.own; known = r.known; asked = r.asked; fetching = r.fetching; all = λ u h. one_fewer l.asked t ts u was (r.all u h); room = r.room }) in
      record {
        after = st.after;
        asks = Asks.loads o (Module m) r.goes_on (ap l.entries same ∙ r.own) refl (Enters.known o r.goes_on (ap (is_fresh l o.1) same ∙ r.known)) st.asks;
        stop = st.stop;
        full = st.full;
      }

  -- another URL, which was asked
  again : (t : Url) (ts : List Url) → same_url t x ≡ false → Step ts → (l : Loading) (i : ℕ) → has l.asked t ≡ true → Ready l x o m many (t ∷ ts) → Stops l x i (t ∷ ts)
  again t ts e rest l i was r =
      let a : PendingRequest = Request 0 x i in
      let is : ask l t a ≡ add_pending l t a = λ j. ask_by (was j) (nat_lt (length l.asked) 4096) l t a in
      let st = rest (add_pending l t a) (suc i) (record { goes_on = r.goes_on; own = r.own; known = r.known; asked = r.asked; fetching = r.fetching; all = λ u h. one_fewer l.asked t ts u was (r.all u h); room = r.room }) in
      record {
        after = st.after;
        asks = Asks.waits o r.goes_on (r.fetching t e) (subst (λ k. Asks k 0 x (suc i) ts st.after) (sym is) st.asks);
        stop = st.stop;
        full = st.full;
      }

  -- another URL, for which there is room
  asks_one : (t : Url) (ts : List Url) → same_url t x ≡ false → Step ts → (l : Loading) (i : ℕ) → has l.asked t ≡ false → nat_lt (length l.asked) 4096 ≡ true → Ready l x o m many (t ∷ ts) → Stops l x i (t ∷ ts)
  asks_one t ts e rest l i unasked g r =
      let a : PendingRequest = Request 0 x i in
      let k : Loading = add_pending (record l { asked = l.asked ++ t ∷ [] }) t a in
      let is : ask l t a ≡ k = λ j. ask_by (unasked j) (g j) l t a in
      let less = lt_is (length l.asked) 4096 g in
      let one = length_push l.asked t in
      let was : has (l.asked ++ t ∷ []) x ≡ true = has_append l.asked (t ∷ []) x ∙ or_left (has l.asked x) (has (t ∷ []) x) r.asked in
      let st = rest k (suc i) (record { goes_on = r.goes_on; own = r.own; known = r.known; asked = was; fetching = r.fetching; all = λ u h. one_asked l.asked t ts u (r.all u h); room = omega (arith, one, less) }) in
      record {
        after = st.after;
        asks = Asks.waits o r.goes_on (r.fetching t e) (subst (λ k. Asks k 0 x (suc i) ts st.after) (sym is) st.asks);
        stop = st.stop;
        full = st.full;
      }

  -- another URL, for which there is none
  no_room : (t : Url) (ts : List Url) → same_url t x ≡ false → (l : Loading) (i : ℕ) → has l.asked t ≡ false → nat_lt (length l.asked) 4096 ≡ false → Ready l x o m many (t ∷ ts) → Stops l x i (t ∷ ts)
  no_room t ts e l i unasked g r =
      let a : PendingRequest = Request 0 x i in
      let k : Loading = record l { stopped = Some L1 } in
      let is : ask l t a ≡ k = λ j. ask_by (unasked j) (g j) l t a in
      let least = lt_not (length l.asked) 4096 g in
      record {
        after = k;
        asks = Asks.waits o r.goes_on (r.fetching t e) (subst (λ k2. Asks k2 0 x (suc i) ts k) (sym is) (rest_over k x (suc i) ts refl));
        stop = refl;
        full = omega (arith, r.room, least);
      }

  next_one : (t : Url) (ts : List Url) → Step ts → Step (t ∷ ts)
  next_one t ts rest l i r = by (same_url t x) (has l.asked t) (nat_lt (length l.asked) 4096) refl refl refl
    where
      by : (s w g : Bool) → same_url t x ≡ s → has l.asked t ≡ w → nat_lt (length l.asked) 4096 ≡ g → Stops l x i (t ∷ ts)
      by true w g d e f = itself t ts d rest l i r
      by false true g d e f = again t ts d rest l i e r
      by false false true d e f = asks_one t ts d rest l i e f r
      by false false false d e f = no_room t ts d l i e f r

  stops_at : (ts : List Url) → Step ts
  stops_at [] = none_left
  stops_at (t ∷ ts) = next_one t ts (stops_at ts)

-- ---- the run

module _ (maps : Maps) (built : List Item → Bool) (entry : Url) (trace : Bool) (c : OutcomeView) (ts : List Url) (is : ImportsTooMany maps built entry c ts) where
  abbrev m : ModuleRecord
  m = record { body = is.items; targets = ts }

  abbrev w0 : World
  w0 = opening maps built entry trace

  abbrev w1 : World
  w1 = arrived w0 entry (bytes_of c) (Module m)

  -- the bytes are counted, and the outcome is stored
  abbrev counted : Bool → Host
  counted b = with_loading (host_of w0) (count_by b w0.loading (bytes_of c))

  fetched1 : fetched w0 entry c ≡ w1
  fetched1 = ap (λ b. with_host w0 (store (counted b) entry c)) (lt_none (0 + bytes_of c) MAX_DELIVERED_BYTES (omega (arith, is.small))) ∙ ap (λ (f : Found). with_host w0 (put_found (counted false) entry f)) is.is

  -- the root is answered: the load begins, and the entry is visited
  abbrev waiting : Bool → List PendingRequest
  waiting b = cond b (Root 0 ∷ []) []

  abbrev who : Next
  who = record { url = entry; pending_request = Root 0; entry = Module m; others = [] }

  abbrev standing : Bool → Option TableEntry
  standing b = cond b (Some (Module m)) None

  found : w1.loading.entries entry ≡ Some (Module m)
  found = ap standing (own_text entry)

  is_next : next w1.loading ≡ Some who
  is_next = ap (λ b. next_by entry (standing b) (waiting b) None) (own_text entry)

  abbrev answered : Loading
  answered = record w1.loading { pending = put_at w1.loading.pending entry [] }

  abbrev begun : Loading
  begun = begin answered 0 entry

  abbrev at_entry : OpenLoad
  at_entry = (entry, with_url no_urls entry)

  abbrev visited : Loading
  visited = visit begun 0 (entry, no_urls) entry

  stops : Stops visited entry 0 ts
  stops = stops_at entry at_entry m is.urls is.apart is.many ts visited 0 (record {
    goes_on = refl;
    own = found;
    known = ap (λ b. not (cond b true false || false)) (own_text entry);
    asked = has_own entry [];
    fetching = λ t e. ap standing (other_url t entry e);
    all = λ u h. ap (λ b. b || has ts u) (or_nothing (same_url u entry)) ∙ is.among u h;
    room = omega arith;
  })
    where
      or_nothing : (b : Bool) → (b || false) ≡ b
      or_nothing true = refl
      or_nothing false = refl

  entered : Enters begun 0 entry stops.after
  entered =
      let goal : targets begun entry ≡ ts = ap targets_in found in
      Enters.enters (entry, no_urls) refl refl (subst (λ us. Asks visited 0 entry 0 us stops.after) (sym goal) stops.asks)

  abbrev h1 : Host
  h1 = settle_load (with_loading (with_loading (host_of w1) answered) (finish stops.after 0)) 0

  answers1 : AnswersNext (host_of w1) h1
  answers1 = record { who = who; is_next = is_next; answered = Answered.answered (Answers.root refl entered) }

  abbrev w2 : World
  w2 = with_host w1 h1

  loaded : w2.loading ≡ stops.after
  loaded = settled_imports (with_loading (with_loading (host_of w1) answered) (finish stops.after 0)) 0
      ∙ ap (λ s. finish_by (has_pending stops.after 0) (open_load_in s (slice_get stops.after.loads 0)) stops.after 0) stops.stop

  is_stopped : stopped w2 ≡ Some L1
  is_stopped = ap (λ (l : Loading). option_or l.stopped None) loaded ∙ ap (λ s. option_or s None) stops.stop

  turned : Turn w0 entry c w2
  turned = turn_from fetched1 refl (Tasks.task refl answers1 (Jobs.stops L1 is_stopped) (Tasks.stops L1 is_stopped))

  abbrev shown_by : Option Limit → Shown
  shown_by o = record {
    asked = w2.loading.asked;
    asks = asks_by o (open_asks w2.loading);
    ended = is_some (ending_by o (asks w2) w2.entry);
    status = option_map exit_status (ending_by o (asks w2) w2.entry);
    log = w2.engine.log;
    last_line = codes "Limit L1";
    events = w2.engine.events;
  }

  shows : ended statuses.Limit w2.loading.asked [] (codes "Limit L1") [] ≡ shown w2 (codes "Limit L1")
  shows = ap shown_by (sym is_stopped)

  told : IsLastLine w2 (ending_by (stopped w2) (asks w2) w2.entry) (codes "Limit L1")
  told = subst (λ o. IsLastLine w2 (ending_by o (asks w2) w2.entry) (codes "Limit L1")) (sym is_stopped) refl

  asked_first : has (asks w0) entry ≡ true
  asked_first = has_own entry []

pub too_many_imports : TooManyImports
too_many_imports maps built entry trace c ts is = (
  (w2 maps built entry trace c ts is).loading.asked,
  ap (λ (l : Loading). length l.asked) (loaded maps built entry trace c ts is) ∙ (stops maps built entry trace c ts is).full,
  record {
    world = w2 maps built entry trace c ts is;
    line = codes "Limit L1";
    runs = (
      record { asked = asked_first maps built entry trace c ts is; tree = is.tree },
      w2 maps built entry trace c ts is,
      turned maps built entry trace c ts is,
      refl,
    );
    last_line = told maps built entry trace c ts is;
    shows = shows maps built entry trace c ts is;
  },
)
