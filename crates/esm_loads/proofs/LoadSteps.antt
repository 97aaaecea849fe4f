-- The steps on the tables are those of the loading that the tables are.
use Rattle.std.proofs.Common.{◌≡◌, ℕ, suc, zero, ◌+◌, ◌<◌, ◌≤◌, Bool, true, false, cond, List, [], ◌∷◌, ◌++◌, length, map, Option, Some, None, refl, ap, subst, sym, ◌∙◌, arith, IfSome, inl, inr, length-append}
use Rattle.std.specs.Prelude.{◌⊎◌, nat_lt, slice_get, slice_set, All}
use Rattle.std.proofs.lemmas.List.{map-append, length-set}
use Rattle.std.proofs.lemmas.Option.{slice_get_within}
use Rattle.std.proofs.lemmas.List.Elements.{All-head, All-tail, All-cons, All-nil, All-push, All-weaker}
use Rattle.esm_tree.specs.Syntax.{Item}
use Rattle.esm_base.specs.Urls.{Url, has, same_url, IsUsable}
use Rattle.esm_realm.specs.Sound.{RecordParts}
use Rattle.esm_realm.proofs.Sounds.{distinct_push}
use Rattle.esm_realm.proofs.Urls.{same_text}
use Rattle.esm_import_map.specs.ImportMap.{Maps}
use Rattle.esm_loads.specs.UrlTable.{TableEntry, put_at, with_url}
use Rattle.esm_loads.specs.Loading.{Root, Request, open_load, open_load_in, visit, throw, ask}
use Rattle.esm_loads.specs.Loading as loading
use Rattle.esm_loads.specs.LoadsView.{urls_of, url_at, place_in, get_by, at_url, entries_in, entry_by, id_under, modules_in, is_in, is_open, is_unlinked, request_of, request_by, requests_in, pending_in, throw_of, state_of, load_state, LoadView}
use Rattle.esm_loads.specs.LoadsAsLoading.{loading_of, trees_of}
use Rattle.esm_loads.specs.Fits.{AreJoined, IsRequesterWithin, IsWaitingWithin, IsStageWithin, IsLoadWithin, OnlyLastHasPending, HaveRecords}
use Rattle.esm_loads.specs.Inner.Urls.{open_slot}
use Rattle.esm_loads.specs.Inner.Requests.{queue_at, push_at}
use Rattle.esm_loads.specs.Inner.Steps.{with_asked, with_places, place_or, add_waiting, set_load, target_of, target_at, target_by, is_open_stage}
use Rattle.esm_loads.specs.declared.data.Slot.{Slot}
use Rattle.esm_loads.specs.declared.data.UrlState.{UrlState}
use Rattle.esm_loads.specs.declared.data.Waiting.{Waiting}
use Rattle.esm_loads.specs.declared.data.Requester.{Requester}
use Rattle.esm_loads.specs.declared.data.Requester.TheVariants as requesters
use Rattle.esm_loads.specs.declared.data.Stage.{Stage}
use Rattle.esm_loads.specs.declared.data.Stage.TheVariants as stages
use Rattle.esm_loads.specs.declared.data.Cause.{Cause}
use Rattle.esm_loads.specs.declared.data.Cause.TheVariants as causes
use Rattle.esm_loads.specs.declared.loads.Loads.{Loads}
use Rattle.esm_loads.proofs.Places.{get_within, get_map, get_push, set_map, set_last, set_places, map_same, at_kept, at_last, at_place, all_set, all_get}
use Rattle.esm_loads.proofs.PlacesOfUrls.{place_none, place_some, listed, same_sym}
use Rattle.esm_loads.proofs.UrlIndices.{urls_many, urls_more}
use Rattle.esm_loads.proofs.Lookups.{at_push, at_set, modules_push, modules_open}

pub target_is : (ss : List Slot) (at : Option ℕ) (k : ℕ) (state : UrlState) → at ≡ Some k → IfSome at (λ k. k < length ss) → ((s : Slot) → slice_get ss k ≡ Some s → state ≡ s.state) → target_of k state ≡ target_at ss at
target_is ss at k state e l f = by (get_within ss k (subst (λ at. IfSome at (λ k. k < length ss)) e l)) ∙ ap (target_at ss) (sym e)
  where
    by : (s : Slot) × (slice_get ss k ≡ Some s) → target_of k state ≡ target_at ss (Some k)
    by s = ap (target_of k) (f s.0 s.1) ∙ ap (target_by k) (sym s.1)

-- ---- a load

module _ (maps : Maps) (R : List RecordParts) (t : Loads) (s : ℕ) (l : LoadView) (at : slice_get t.loads.items s ≡ Some l) where
  pub open_is : (root : ℕ) → l.stage ≡ stages.Open root → open_load (loading_of maps t R) s ≡ Some (url_at (urls_of t.urls.slots) root, modules_in t.urls.slots (is_in l.visited))
  open_is root e = ap (open_load_in None) (get_map (load_state t.urls.slots) t.loads.items s l at ∙ ap (λ stage. Some (state_of t.urls.slots stage l.visited)) e)

  pub over_is : is_open_stage l.stage ≡ false → open_load (loading_of maps t R) s ≡ None
  over_is e = ap (open_load_in None) (get_map (load_state t.urls.slots) t.loads.items s l at) ∙ by l.stage e
    where
      by : (stage : Stage) → is_open_stage stage ≡ false → open_load_in None (Some (state_of t.urls.slots stage l.visited)) ≡ None
      by stages.Asked e = refl
      by (stages.Open root) e = cc
      by (stages.Complete root) e = refl
      by (stages.Thrown cause) e = refl

  pub visited_is : (root id : ℕ) (x : Url) → l.stage ≡ stages.Open root → HaveRecords t.urls.slots R → id_under t.urls.slots x ≡ Some id
      → loading_of maps (set_load t s (record l { visited = l.visited ++ id ∷ [] })) R ≡ visit (loading_of maps t R) s (url_at (urls_of t.urls.slots) root, modules_in t.urls.slots (is_in l.visited)) x
  visited_is root id x e h under =
      let ss = t.urls.slots in
      let us = urls_of ss in
      let next : load_state ss (record l { visited = l.visited ++ id ∷ [] }) ≡ loading.Open (url_at us root) (with_url (modules_in ss (is_in l.visited)) x) =
      ap (λ stage. state_of ss stage (l.visited ++ id ∷ [])) e ∙ ap (loading.Open (url_at us root)) (modules_push ss R l.visited id x h under) in
      ap (λ ls. record (loading_of maps t R) { loads = ls }) (set_map (load_state ss) t.loads.items s (record l { visited = l.visited ++ id ∷ [] }) ∙ ap (slice_set (map (load_state ss) t.loads.items) s) next)

  pub threw_is : (cause : Cause) → loading_of maps (set_load t s (record l { stage = stages.Thrown cause })) R ≡ throw (loading_of maps t R) s (throw_of (urls_of t.urls.slots) cause)
  threw_is cause = ap (λ ls. record (loading_of maps t R) { loads = ls }) (set_map (load_state t.urls.slots) t.loads.items s (record l { stage = stages.Thrown cause }))

-- ---- asking

url_kept : (us : List Url) (u : Url) (k : ℕ) → k < length us → url_at (us ++ u ∷ []) k ≡ url_at us k
url_kept us u k l = at_kept us (u ∷ []) k [] l

pub request_same : (us : List Url) (u : Url) (n : ℕ) (w : Waiting) → n ≡ length us → IsWaitingWithin n w → request_of (us ++ u ∷ []) w ≡ request_of us w
request_same us u n w e h = by w.requester h
  where
    by : (r : Requester) → IsRequesterWithin n r → request_by (us ++ u ∷ []) w.load r ≡ request_by us w.load r
    by requesters.Root h = refl
    by (requesters.Module referrer request) h = ap (λ v. Request w.load v request) (url_kept us u referrer (omega (arith, h, e)))

requests_same : (us : List Url) (u : Url) (n : ℕ) (o : Option (List Waiting)) → n ≡ length us → IfSome o (All (IsWaitingWithin n)) → requests_in (us ++ u ∷ []) o ≡ requests_in us o
requests_same us u n None e h = refl
requests_same us u n (Some q) e h = map_same (request_of (us ++ u ∷ [])) (request_of us) q (All-weaker (IsWaitingWithin n) (λ w. request_of (us ++ u ∷ []) w ≡ request_of us w) (λ w h. request_same us u n w e h) q h)

load_same : (ss : List Slot) (u : Url) (n : ℕ) (l : LoadView) → place_in (urls_of ss) u ≡ None → IsLoadWithin (length ss) n l → load_state (ss ++ open_slot u ∷ []) l ≡ load_state ss l
load_same ss u n l fresh h = by l.stage h.0
  where
    kept : (k : ℕ) → k < length ss → url_at (urls_of (ss ++ open_slot u ∷ [])) k ≡ url_at (urls_of ss) k
    kept k l = ap (λ us. url_at us k) (urls_more ss u) ∙ url_kept (urls_of ss) u k (omega (arith, l, urls_many ss))

    by : (stage : Stage) → IsStageWithin (length ss) stage → state_of (ss ++ open_slot u ∷ []) stage l.visited ≡ state_of ss stage l.visited
    by stages.Asked h = refl
    by (stages.Open root) h = ap (λ v. loading.Open v (modules_in (ss ++ open_slot u ∷ []) (is_in l.visited))) (kept root h) ∙ ap (loading.Open (url_at (urls_of ss) root)) (modules_open ss u (is_in l.visited) fresh)
    by (stages.Complete root) h = ap loading.LoadComplete (kept root h)
    by (stages.Thrown (causes.Unfetched place)) h = ap (λ v. loading.Thrown (throw_of (v ∷ []) (causes.Unfetched 0))) (kept place h)
    by (stages.Thrown (causes.Kept error)) h = refl

abbrev nobody : Option TableEntry
nobody = None

-- a URL more, which isn't fetched, changes no entry
entries_same : (trees : List (List Item)) (R : List RecordParts) (ss : List Slot) (u : Url) → place_in (urls_of ss) u ≡ None → entries_in trees R (ss ++ open_slot u ∷ []) ≡ entries_in trees R ss
entries_same trees R ss u fresh = λ i v. (ap (λ us. entry_by trees R (at_url us (ss ++ open_slot u ∷ []) v)) (urls_more ss u) ∙ (ap (entry_by trees R) (at_push (urls_of ss) u ss (open_slot u) v fresh (sym (urls_many ss))) ∙ by v (same_url v u) refl)) i
  where
    by : (v : Url) (b : Bool) → same_url v u ≡ b → entry_by trees R (cond b (Some (open_slot u)) (at_url (urls_of ss) ss v)) ≡ entry_by trees R (at_url (urls_of ss) ss v)
    by v true e = sym (ap (λ v. entry_by trees R (at_url (urls_of ss) ss v)) (same_text v u e) ∙ ap (λ o. entry_by trees R (get_by ss o)) fresh)
    by v false e = refl

less : (n : ℕ) → n < 4096 → nat_lt n 4096 ≡ true
less n l = grind (arith, l)

-- a request waits for a URL that has a queue
pub waiting_is : (us : List Url) (qs : List (List Waiting)) (u : Url) (k : ℕ) (w : Waiting) → place_in us u ≡ Some k → k < length qs
    → pending_in us (push_at qs k w) ≡ put_at (pending_in us qs) u (pending_in us qs u ++ request_of us w ∷ [])
waiting_is us qs u k w place inside = λ i v. by v i
  where
    q : (q : List Waiting) × (slice_get qs k ≡ Some q)
    q = get_within qs k inside

    own : pending_in us qs u ≡ map (request_of us) q.0
    own = ap (λ o. requests_in us (get_by qs o)) place ∙ ap (requests_in us) q.1

    at : queue_at qs k ≡ q.0
    at = at_place qs k q.0 [] q.1

    step : (v : Url) (b : Bool) → requests_in us (cond b (Some (queue_at qs k ++ w ∷ [])) (at_url us qs v)) ≡ cond b (pending_in us qs u ++ request_of us w ∷ []) (pending_in us qs v)
    step v true = map-append (request_of us) (queue_at qs k) (w ∷ []) ∙ ap (λ rs. rs ++ request_of us w ∷ []) (ap (map (request_of us)) at ∙ sym own)
    step v false = refl

    by : (v : Url) → requests_in us (at_url us (push_at qs k w) v) ≡ cond (same_url u v) (pending_in us qs u ++ request_of us w ∷ []) (pending_in us qs v)
    by v = ap (requests_in us) (at_set us u qs k q.0 (queue_at qs k ++ w ∷ []) v place q.1) ∙ (step v (same_url v u) ∙ ap (λ b. cond b (pending_in us qs u ++ request_of us w ∷ []) (pending_in us qs v)) (same_sym v u))

-- a request waits for a URL that is new
new_waiting : (us : List Url) (qs : List (List Waiting)) (u : Url) (w : Waiting) → place_in us u ≡ None → length qs ≡ length us → All (All (IsWaitingWithin (length us))) qs → IsWaitingWithin (length us) w
    → pending_in (us ++ u ∷ []) (push_at (qs ++ [] ∷ []) (length us) w) ≡ put_at (pending_in us qs) u (pending_in us qs u ++ request_of us w ∷ [])
new_waiting us qs u w fresh long within mine = λ i v. by v i
  where
    pushed : push_at (qs ++ [] ∷ []) (length us) w ≡ qs ++ (w ∷ []) ∷ []
    pushed = ap (λ k. slice_set (qs ++ [] ∷ []) k (queue_at (qs ++ [] ∷ []) k ++ w ∷ [])) (sym long) ∙ (ap (λ q. slice_set (qs ++ [] ∷ []) (length qs) (q ++ w ∷ [])) (at_last qs [] []) ∙ set_last qs [] (w ∷ []))

    old : (v : Url) → IfSome (at_url us qs v) (All (IsWaitingWithin (length us)))
    old v = each (place_in us v)
      where
        each : (o : Option ℕ) → IfSome (get_by qs o) (All (IsWaitingWithin (length us)))
        each None = tt
        each (Some k) = one (slice_get qs k) refl
          where
            one : (o : Option (List Waiting)) → slice_get qs k ≡ o → IfSome o (All (IsWaitingWithin (length us)))
            one None e = tt
            one (Some q) e = all_get (All (IsWaitingWithin (length us))) qs k q within e

    none : pending_in us qs u ≡ []
    none = ap (λ o. requests_in us (get_by qs o)) fresh

    step : (v : Url) (b : Bool) → requests_in (us ++ u ∷ []) (cond b (Some (w ∷ [])) (at_url us qs v)) ≡ cond b (pending_in us qs u ++ request_of us w ∷ []) (pending_in us qs v)
    step v true = ap (λ r. r ∷ []) (request_same us u (length us) w refl mine) ∙ ap (λ rs. rs ++ request_of us w ∷ []) (sym none)
    step v false = requests_same us u (length us) (at_url us qs v) refl (old v)

    by : (v : Url) → requests_in (us ++ u ∷ []) (at_url (us ++ u ∷ []) (push_at (qs ++ [] ∷ []) (length us) w) v) ≡ cond (same_url u v) (pending_in us qs u ++ request_of us w ∷ []) (pending_in us qs v)
    by v = ap (λ qs. requests_in (us ++ u ∷ []) (at_url (us ++ u ∷ []) qs v)) pushed ∙ (ap (requests_in (us ++ u ∷ [])) (at_push us u qs (w ∷ []) v fresh long)
        ∙ (step v (same_url v u) ∙ ap (λ b. cond b (pending_in us qs u ++ request_of us w ∷ []) (pending_in us qs v)) (same_sym v u)))

-- a request asks
pub asked_is : (maps : Maps) (R : List RecordParts) (t : Loads) (n : ℕ) (u : Url) (at : Option ℕ) (w : Waiting) → AreJoined t n → IsWaitingWithin (length t.urls.slots) w → place_in (urls_of t.urls.slots) u ≡ at → (at ≡ None → length t.urls.slots < 4096)
    → loading_of maps (add_waiting (with_asked t u at) (place_or t at) w) R ≡ ask (loading_of maps t R) u (request_of (urls_of t.urls.slots) w)
asked_is maps R t n u (Some k) w j inside place room =
    let us = urls_of t.urls.slots in
    let placed = place_some us u k place in
    let old : has us u ≡ true = listed us k u placed.at in
    rw old (ap (λ p. record (loading_of maps t R) { pending = p }) (waiting_is us t.queues.queues u k w place (omega (arith, placed.within, j.queues, urls_many t.urls.slots))))
asked_is maps R t n u None w j inside place room =
    let ss = t.urls.slots in
    let us = urls_of ss in
    let new : has us u ≡ false = place_none us u place in
    let many = urls_many ss in
    let few : nat_lt (length us) 4096 ≡ true = ap (λ n. nat_lt n 4096) many ∙ less (length ss) (room refl) in
    let L = loading_of maps t R in
    let qs = t.queues.queues in
    let pending : pending_in (us ++ u ∷ []) (push_at (qs ++ [] ∷ []) (length ss) w) ≡ put_at L.pending u (L.pending u ++ request_of us w ∷ []) =
    ap (λ k. pending_in (us ++ u ∷ []) (push_at (qs ++ [] ∷ []) k w)) (sym many)
    ∙ new_waiting us qs u w place (j.queues ∙ sym many) (subst (λ k. All (All (IsWaitingWithin k)) qs) (sym many) j.requests) (subst (λ k. IsWaitingWithin k w) (sym many) inside) in
    let loads : map (load_state (ss ++ open_slot u ∷ [])) t.loads.items ≡ map (load_state ss) t.loads.items =
    map_same (load_state (ss ++ open_slot u ∷ [])) (load_state ss) t.loads.items (All-weaker (IsLoadWithin (length ss) n) (λ l. load_state (ss ++ open_slot u ∷ []) l ≡ load_state ss l) (λ l h. load_same ss u n l place h) t.loads.items j.loads) in
    let asked = urls_more ss u in
    let entries = entries_same (trees_of t) R ss u place in
    let unlinked = modules_open ss u (is_unlinked R) place in
    rw (new, few) (ap (λ us. record L { asked = us; entries = entries_in (trees_of t) R (ss ++ open_slot u ∷ []); pending = pending_in us (push_at (qs ++ [] ∷ []) (length ss) w); loads = map (load_state (ss ++ open_slot u ∷ [])) t.loads.items; unlinked = modules_in (ss ++ open_slot u ∷ []) (is_unlinked R) }) asked
    ∙ (λ i. record L { asked = us ++ u ∷ []; entries = entries i; pending = pending i; loads = loads i; unlinked = unlinked i }))

-- ---- the tables still fit together

pub joined_load : (t : Loads) (n s : ℕ) (l : LoadView) → AreJoined t n → IsLoadWithin (length t.urls.slots) n l → AreJoined (set_load t s l) n
joined_load t n s l j h = record {
  distinct = j.distinct;
  usable = j.usable;
  few = j.few;
  queues = j.queues;
  counts = j.counts ∙ sym (length-set t.loads.items s l);
  requests = j.requests;
  loads = all_set (IsLoadWithin (length t.urls.slots) n) t.loads.items s l j.loads h;
  last = j.last;
}

pub joined_placed : (t : Loads) (n : ℕ) (places : List ℕ) → AreJoined t n → AreJoined (with_places t places) n
joined_placed t n places j = record {
  distinct = j.distinct;
  usable = j.usable;
  few = j.few;
  queues = j.queues;
  counts = j.counts;
  requests = j.requests;
  loads = j.loads;
  last = j.last;
}

requester_more : (n m : ℕ) (r : Requester) → n ≤ m → IsRequesterWithin n r → IsRequesterWithin m r
requester_more n m requesters.Root l h = h
requester_more n m (requesters.Module referrer request) l h = omega (arith, h, l)

stage_more : (n m : ℕ) (stage : Stage) → n ≤ m → IsStageWithin n stage → IsStageWithin m stage
stage_more n m stages.Asked l h = h
stage_more n m (stages.Open root) l h = omega (arith, h, l)
stage_more n m (stages.Complete root) l h = omega (arith, h, l)
stage_more n m (stages.Thrown (causes.Unfetched place)) l h = omega (arith, h, l)
stage_more n m (stages.Thrown (causes.Kept error)) l h = h

queue_within : (qs : List (List Waiting)) (m k : ℕ) → All (All (IsWaitingWithin m)) qs → All (IsWaitingWithin m) (queue_at qs k)
queue_within [] m k h = All-nil (IsWaitingWithin m)
queue_within (q ∷ qs) m zero h = All-head (All (IsWaitingWithin m)) q qs h
queue_within (q ∷ qs) m (suc k) h = queue_within qs m k (All-tail (All (IsWaitingWithin m)) q qs h)

-- a URL that isn't fetched gets a request
last_waiting : (ss : List Slot) (qs : List (List Waiting)) (place k : ℕ) (q : List Waiting) → OnlyLastHasPending ss qs place → ((s : Slot) → slice_get ss k ≡ Some s → is_open s.state ≡ true) → OnlyLastHasPending ss (slice_set qs k q) place
last_waiting ss qs place k q h fetching j s r e f closed n = by (set_places qs k j q r f)
  where
    by : ((j ≡ k) × (r ≡ q)) ⊎ ((j ≡ k → ⊥) × (slice_get qs j ≡ Some r)) → r ≡ []
    by (inl g) = let o = fetching s (ap (slice_get ss) (sym g.0) ∙ e) in cc
    by (inr g) = h j s r e g.1 closed n

last_more : (ss : List Slot) (qs : List (List Waiting)) (u : Url) (place : ℕ) (q : List Waiting) → length qs ≡ length ss → OnlyLastHasPending ss qs place → OnlyLastHasPending (ss ++ open_slot u ∷ []) (qs ++ q ∷ []) place
last_more ss qs u place q long h j s r e f closed n = by (get_push ss (open_slot u) j s e) (get_push qs q j r f)
  where
    by : (slice_get ss j ≡ Some s) ⊎ ((j ≡ length ss) × (s ≡ open_slot u)) → (slice_get qs j ≡ Some r) ⊎ ((j ≡ length qs) × (r ≡ q)) → r ≡ []
    by (inl g) (inl o) = h j s r g o closed n
    by (inl g) (inr o) = let w = slice_get_within ss j s g in absurd (omega (arith, w, o.0, long))
    by (inr g) o = let open_is = ap (λ (s : Slot). is_open s.state) g.1 in cc

pub joined_ask : (t : Loads) (n : ℕ) (u : Url) (at : Option ℕ) (w : Waiting) → AreJoined t n → IsWaitingWithin (length t.urls.slots) w → IsUsable u → place_in (urls_of t.urls.slots) u ≡ at → (at ≡ None → length t.urls.slots < 4096)
    → ((k : ℕ) (s : Slot) → at ≡ Some k → slice_get t.urls.slots k ≡ Some s → is_open s.state ≡ true) → AreJoined (add_waiting (with_asked t u at) (place_or t at) w) n
joined_ask t n u (Some k) w j inside usable place room fetching =
    let qs = t.queues.queues in
    record {
      distinct = j.distinct;
      usable = j.usable;
      few = j.few;
      queues = length-set qs k (queue_at qs k ++ w ∷ []) ∙ j.queues;
      counts = j.counts;
      requests = all_set (All (IsWaitingWithin (length t.urls.slots))) qs k (queue_at qs k ++ w ∷ []) j.requests (All-push (IsWaitingWithin (length t.urls.slots)) (queue_at qs k) w (queue_within qs (length t.urls.slots) k j.requests) inside);
      loads = j.loads;
      last = last_waiting t.urls.slots qs t.delivered k (queue_at qs k ++ w ∷ []) j.last (λ s e. fetching k s refl e);
    }
joined_ask t n u None w j inside usable place room fetching =
    let ss = t.urls.slots in
    let us = urls_of ss in
    let qs = t.queues.queues in
    let more = urls_more ss u in
    let r = room refl in
    let long : length (ss ++ open_slot u ∷ []) ≡ length ss + 1 = length-append ss (open_slot u ∷ []) in
    let wider : length ss ≤ length (ss ++ open_slot u ∷ []) = omega (arith, long) in
    let pushed : push_at (qs ++ [] ∷ []) (length ss) w ≡ qs ++ (w ∷ []) ∷ [] =
    ap (λ k. slice_set (qs ++ [] ∷ []) k (queue_at (qs ++ [] ∷ []) k ++ w ∷ [])) (sym j.queues) ∙ (ap (λ q. slice_set (qs ++ [] ∷ []) (length qs) (q ++ w ∷ [])) (at_last qs [] []) ∙ set_last qs [] (w ∷ [])) in
    let waits_more = λ (w : Waiting) (h : IsWaitingWithin (length ss) w). requester_more (length ss) (length (ss ++ open_slot u ∷ [])) w.requester wider h in
    let one : All (IsWaitingWithin (length (ss ++ open_slot u ∷ []))) (w ∷ []) = All-cons (IsWaitingWithin (length (ss ++ open_slot u ∷ []))) w [] (waits_more w inside) (All-nil (IsWaitingWithin (length (ss ++ open_slot u ∷ [])))) in
    let old : All (All (IsWaitingWithin (length (ss ++ open_slot u ∷ [])))) qs = All-weaker (All (IsWaitingWithin (length ss))) (All (IsWaitingWithin (length (ss ++ open_slot u ∷ [])))) (λ q h. All-weaker (IsWaitingWithin (length ss)) (IsWaitingWithin (length (ss ++ open_slot u ∷ []))) waits_more q h) qs j.requests in
    record {
      distinct = rw more (distinct_push us u j.distinct (place_none us u place));
      usable = rw more (All-push IsUsable us u j.usable usable);
      few = omega (arith, long, r);
      queues = ap length pushed ∙ omega (arith, long, length-append qs ((w ∷ []) ∷ []), j.queues);
      counts = j.counts;
      requests = rw pushed (All-push (All (IsWaitingWithin (length (ss ++ open_slot u ∷ [])))) qs (w ∷ []) old one);
      loads = All-weaker (IsLoadWithin (length ss) n) (IsLoadWithin (length (ss ++ open_slot u ∷ [])) n) (λ l h. (stage_more (length ss) (length (ss ++ open_slot u ∷ [])) l.stage wider h.0, h.1)) t.loads.items j.loads;
      last = rw pushed (last_more ss qs u t.delivered (w ∷ []) j.queues j.last);
    }
