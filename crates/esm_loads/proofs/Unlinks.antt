-- Records whose modules become Unlinked stay as they are but for the status, and a load ends.
use Rattle.std.proofs.Common.{◌≡◌, ℕ, suc, zero, ◌+◌, ◌≤◌, Bool, true, false, List, [], ◌∷◌, ◌++◌, length, map, take, Option, Some, None, refl, ap, subst, sym, ◌∙◌, arith}
use Rattle.std.specs.Prelude.{◌||◌, ◌==◌, slice_get, slice_set, nat_eq}
use Rattle.std.specs.List.{list_any}
use Rattle.esm_tree.specs.Syntax.{Item}
use Rattle.esm_base.specs.Urls.{Url}
use Rattle.esm_realm.specs.Sound.{RecordParts}
use Rattle.esm_import_map.specs.ImportMap.{Maps}
use Rattle.esm_loads.specs.Loading.{Loading, OpenLoad, open_load, finish, finish_by, has_pending, LoadComplete, is_of as asks_of, load_of}
use Rattle.esm_loads.specs.LoadsView.{urls_of, url_at, at_url, get_by, entries_in, entry_at, entry_by, module_of, tree_at, modules_in, is_in, is_unlinked, load_state, LoadView, request_of, request_by, requests_in, pending_in, before_linking}
use Rattle.esm_loads.specs.LoadsAsLoading.{loading_of, trees_of}
use Rattle.esm_loads.specs.Fits.{AreJoined, HaveRecords, IsLoadWithin, IsStageWithin, RecordsMatch}
use Rattle.esm_loads.specs.Inner.Flags.{root_in}
use Rattle.esm_loads.specs.Inner.Requests.{is_of}
use Rattle.esm_loads.specs.Inner.Steps.{set_load, is_open_stage}
use Rattle.esm_loads.specs.declared.data.Slot.{Slot}
use Rattle.esm_loads.specs.declared.data.UrlState.{UrlState}
use Rattle.esm_loads.specs.declared.data.UrlState.TheVariants as states
use Rattle.esm_loads.specs.declared.data.Stage.{Stage}
use Rattle.esm_loads.specs.declared.data.Stage.TheVariants as stages
use Rattle.esm_loads.specs.declared.data.Waiting.{Waiting}
use Rattle.esm_loads.specs.declared.data.Requester.{Requester}
use Rattle.esm_loads.specs.declared.data.Requester.TheVariants as requesters
use Rattle.esm_loads.specs.declared.loads.Loads.{Loads}
use Rattle.esm_loads.proofs.Places.{some_is, all_get, get_map, set_map, map_long}
use Rattle.esm_loads.proofs.PlacesOfUrls.{place_at}
use Rattle.esm_loads.proofs.UrlIndices.{urls_many}
use Rattle.esm_loads.proofs.Lookups.{modules_or, in_push}
use Rattle.esm_loads.proofs.LoadSteps.{open_is, over_is, joined_load}
use Rattle.esm_loads.proofs.Flags.{take_next}

-- ---- records

pub get_stale : (first R : List RecordParts) → map before_linking R ≡ map before_linking first → (id : ℕ) (p : RecordParts) → slice_get first id ≡ Some p → (r : RecordParts) × (slice_get R id ≡ Some r) × (before_linking r ≡ before_linking p)
get_stale first R e id p f = by R id (ap (λ rs. slice_get rs id) e ∙ get_map before_linking first id p f)
  where
    by : (R : List RecordParts) (id : ℕ) → slice_get (map before_linking R) id ≡ Some (before_linking p) → (r : RecordParts) × (slice_get R id ≡ Some r) × (before_linking r ≡ before_linking p)
    by [] id e = cc
    by (r ∷ R) zero e = (r, refl, some_is e)
    by (r ∷ R) (suc id) e = by R id e

pub kept_stale : (first R : List RecordParts) (ss : List Slot) → map before_linking R ≡ map before_linking first → HaveRecords ss first → HaveRecords ss R
kept_stale first R ss e h = record { kept = λ k id m. let x = h.kept k id m in let r = get_stale first R e id x.parts x.is in record { parts = r.0; is = r.1; under = ap (λ (r : RecordParts). r.url) r.2 ∙ x.under } }

pub long_stale : (first R : List RecordParts) → map before_linking R ≡ map before_linking first → length R ≡ length first
long_stale first R e = sym (map_long before_linking R) ∙ (ap length e ∙ map_long before_linking first)

pub matching_stale : (first R : List RecordParts) (ss : List Slot) (trees : List (List Item)) → map before_linking R ≡ map before_linking first → RecordsMatch ss trees first → RecordsMatch ss trees R
matching_stale first R ss trees e h = record {
  have = kept_stale first R ss e h.have;
  known = λ id r f. let p = get_stale R first (sym e) id r f in h.known id p.0 p.1;
  as_many = h.as_many ∙ sym (long_stale first R e);
  entries = λ id r tree f g. let p = get_stale R first (sym e) id r f in sym (ap (λ (r : RecordParts). r.entries) p.2) ∙ h.entries id p.0 tree p.1 g;
  spelled = h.spelled;
}

module _ (trees : List (List Item)) where
  entry_stale : (R : List RecordParts) (state : UrlState) → entry_at trees (map before_linking R) state ≡ entry_at trees R state
  entry_stale R states.Open = refl
  entry_stale R states.Failed = refl
  entry_stale R (states.Broken error) = refl
  entry_stale R (states.Module id) = by R id.0
    where
      by : (R : List RecordParts) (n : ℕ) → module_of (tree_at trees id.0) (slice_get (map before_linking R) n) ≡ module_of (tree_at trees id.0) (slice_get R n)
      by [] n = refl
      by (r ∷ R) zero = refl
      by (r ∷ R) (suc n) = by R n

  entries_by : (R : List RecordParts) (ss : List Slot) → entries_in trees (map before_linking R) ss ≡ entries_in trees R ss
  entries_by R ss = λ i u. by (at_url (urls_of ss) ss u) i
    where
      by : (o : Option Slot) → entry_by trees (map before_linking R) o ≡ entry_by trees R o
      by None = refl
      by (Some s) = entry_stale R s.state

  pub entries_stale : (first R : List RecordParts) (ss : List Slot) → map before_linking R ≡ map before_linking first → entries_in trees R ss ≡ entries_in trees first ss
  entries_stale first R ss e = sym (entries_by R ss) ∙ (ap (λ rs. entries_in trees rs ss) e ∙ entries_by first ss)

-- one more of the modules is Unlinked
pub one_more : (first R new : List RecordParts) (ids : List ℕ) (i id : ℕ) → ((n : ℕ) → is_unlinked R n ≡ (is_unlinked first n || is_in (take i ids) n)) → slice_get ids i ≡ Some id
    → ((n : ℕ) → is_unlinked new n ≡ (is_unlinked R n || nat_eq n id)) → (n : ℕ) → is_unlinked new n ≡ (is_unlinked first n || is_in (take (i + 1) ids) n)
one_more first R new ids i id h e more n =
    more n ∙ (ap (λ b. b || nat_eq n id) (h n) ∙ (by (is_unlinked first n) (is_in (take i ids) n) (nat_eq n id) ∙ ap (λ b. is_unlinked first n || b) (sym (in_push (take i ids) id n) ∙ ap (λ ids. is_in ids n) (sym next))))
  where
    next : take (i + 1) ids ≡ take i ids ++ id ∷ []
    next = take_next ids i id e

    by : (a b c : Bool) → ((a || b) || c) ≡ (a || (b || c))
    by true b c = refl
    by false b c = refl

pub take_whole : (ks : List ℕ) (i : ℕ) → length ks ≤ i → take i ks ≡ ks
take_whole [] zero h = refl
take_whole [] (suc i) h = refl
take_whole (k ∷ ks) zero h = absurd (omega arith)
take_whole (k ∷ ks) (suc i) h = ap (λ ks. k ∷ ks) (take_whole ks i (omega arith))

-- ---- pending requests of a load

any_same : {A B : Type 0} (f : A → Bool) (g : B → Bool) (xs : List A) (ys : List B) → length ys ≡ length xs → ((k : ℕ) (x : A) (y : B) → slice_get xs k ≡ Some x → slice_get ys k ≡ Some y → f x ≡ g y) → list_any f xs ≡ list_any g ys
any_same f g [] [] e h = refl
any_same f g [] (y ∷ ys) e h = absurd (omega (arith, e))
any_same f g (x ∷ xs) [] e h = absurd (omega (arith, e))
any_same f g (x ∷ xs) (y ∷ ys) e h = ap (λ b. b || list_any f xs) (h 0 x y refl refl) ∙ ap (λ b. g y || b) (any_same f g xs ys (omega (arith, e)) (λ k a b p q. h (suc k) a b p q))

same_load : (us : List Url) (load : ℕ) (r : Requester) → load_of (request_by us load r) ≡ load
same_load us load requesters.Root = refl
same_load us load (requesters.Module referrer request) = refl

any_request : (us : List Url) (s : ℕ) (ws : List Waiting) → list_any (asks_of s) (map (request_of us) ws) ≡ list_any (is_of s) ws
any_request us s [] = refl
any_request us s (w ∷ ws) = ap (λ n. (n == s) || list_any (asks_of s) (map (request_of us) ws)) (same_load us w.load w.requester) ∙ ap (λ b. is_of s w || b) (any_request us s ws)

-- a load has a pending request in the queues exactly where it has one in the definition
pub pending_are : (maps : Maps) (R : List RecordParts) (t : Loads) (n s : ℕ) → AreJoined t n → has_pending (loading_of maps t R) s ≡ list_any (list_any (is_of s)) t.queues.queues
pending_are maps R t n s j = any_same (λ u. list_any (asks_of s) (pending_in us t.queues.queues u)) (list_any (is_of s)) us t.queues.queues (j.queues ∙ sym (urls_many t.urls.slots)) (λ k u q e f. ap (list_any (asks_of s)) (own k u q e f) ∙ any_request us s q)
  where
    us : List Url
    us = urls_of t.urls.slots

    own : (k : ℕ) (u : Url) (q : List Waiting) → slice_get us k ≡ Some u → slice_get t.queues.queues k ≡ Some q → pending_in us t.queues.queues u ≡ map (request_of us) q
    own k u q e f = ap (λ o. requests_in us (get_by t.queues.queues o)) (place_at us k u j.distinct e) ∙ ap (requests_in us) f

-- ---- the end of a load

pub finish_is : (maps : Maps) (t : Loads) (n : ℕ) (R R' : List RecordParts) (s : ℕ) (l : LoadView) (root : ℕ) → AreJoined t n → slice_get t.loads.items s ≡ Some l → l.stage ≡ stages.Open root → list_any (list_any (is_of s)) t.queues.queues ≡ false → map before_linking R' ≡ map before_linking R
    → ((id : ℕ) → is_unlinked R' id ≡ (is_unlinked R id || is_in l.visited id)) → loading_of maps (set_load t s (record l { stage = stages.Complete root })) R' ≡ finish (loading_of maps t R) s
finish_is maps t n R R' s l root j at e none same unlinked =
    let ss = t.urls.slots in
    let L = loading_of maps t R in
    let next = record l { stage = stages.Complete root } in
    let over : finish L s ≡ record L { loads = slice_set L.loads s (LoadComplete (url_at (urls_of ss) root)); unlinked = λ u. L.unlinked u || modules_in ss (is_in l.visited) u } =
    ap (λ b. finish_by b (open_load L s) L s) (pending_are maps R t n s j ∙ none) ∙ ap (λ o. finish_by false o L s) (open_is maps R t s l at root e) in
    ap (λ f. record L { entries = f; loads = map (load_state ss) (slice_set t.loads.items s next); unlinked = modules_in ss (is_unlinked R') }) (entries_stale (trees_of t) R R' ss same)
    ∙ (ap (λ ls. record L { loads = ls; unlinked = modules_in ss (is_unlinked R') }) (set_map (load_state ss) t.loads.items s next)
    ∙ (ap (λ f. record L { loads = slice_set L.loads s (LoadComplete (url_at (urls_of ss) root)); unlinked = f }) (modules_or ss (is_unlinked R') (is_unlinked R) (is_in l.visited) unlinked)
    ∙ sym over))

pub finish_waits : (maps : Maps) (t : Loads) (n : ℕ) (R : List RecordParts) (s : ℕ) → AreJoined t n → list_any (list_any (is_of s)) t.queues.queues ≡ true → loading_of maps t R ≡ finish (loading_of maps t R) s
finish_waits maps t n R s j some =
    let L = loading_of maps t R in
    sym (ap (λ b. finish_by b (open_load L s) L s) (pending_are maps R t n s j ∙ some) ∙ by L (open_load L s))
  where
    by : (L : Loading) (o : Option OpenLoad) → finish_by true o L s ≡ L
    by L None = refl
    by L (Some o) = refl

pub finish_over : (maps : Maps) (t : Loads) (R : List RecordParts) (s : ℕ) (l : LoadView) → slice_get t.loads.items s ≡ Some l → root_in l.stage ≡ None → loading_of maps t R ≡ finish (loading_of maps t R) s
finish_over maps t R s l at none =
    let L = loading_of maps t R in
    sym (ap (λ o. finish_by (has_pending L s) o L s) (over_is maps R t s l at (off l.stage none)) ∙ by (has_pending L s) L)
  where
    off : (stage : Stage) → root_in stage ≡ None → is_open_stage stage ≡ false
    off stages.Asked e = refl
    off (stages.Open root) e = cc
    off (stages.Complete root) e = refl
    off (stages.Thrown cause) e = refl

    by : (b : Bool) (L : Loading) → finish_by b None L s ≡ L
    by true L = refl
    by false L = refl

pub root_open : (stage : Stage) (root : ℕ) → root_in stage ≡ Some root → stage ≡ stages.Open root
root_open stages.Asked root e = cc
root_open (stages.Open r) root e = ap stages.Open (some_is e)
root_open (stages.Complete r) root e = cc
root_open (stages.Thrown cause) root e = cc

pub finish_joined : (t : Loads) (n s : ℕ) (l : LoadView) (root : ℕ) → AreJoined t n → slice_get t.loads.items s ≡ Some l → l.stage ≡ stages.Open root → AreJoined (set_load t s (record l { stage = stages.Complete root })) n
finish_joined t n s l root j at e =
    let w = all_get (IsLoadWithin (length t.urls.slots) n) t.loads.items s l j.loads at in
    joined_load t n s (record l { stage = stages.Complete root }) j (subst (IsStageWithin (length t.urls.slots)) e w.0, w.1)
