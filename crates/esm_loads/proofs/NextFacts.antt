-- The first pending request of the URL that was fetched last is the one that the definition answers next.
use Rattle.std.proofs.Common.{◌≡◌, ℕ, suc, zero, ◌<◌, Bool, true, false, cond, List, [], ◌∷◌, length, map, Option, Some, None, refl, ap, subst, sym, ◌∙◌, arith, inl, inr}
use Rattle.std.specs.Prelude.{◌⊎◌, slice_get, slice_set, All}
use Rattle.std.proofs.lemmas.List.{length-set}
use Rattle.std.proofs.lemmas.List.Elements.{All-tail}
use Rattle.std.proofs.lemmas.Option.{slice_get_within}
use Rattle.esm_tree.specs.Syntax.{Item}
use Rattle.esm_base.specs.Urls.{Url, same_url}
use Rattle.esm_realm.specs.Laws.{AreDistinct}
use Rattle.esm_realm.specs.Sound.{RecordParts}
use Rattle.esm_import_map.specs.ImportMap.{Maps}
use Rattle.esm_loads.specs.UrlTable.{TableEntry, put_at}
use Rattle.esm_loads.specs.UrlTable as table
use Rattle.esm_loads.specs.Loading.{Loading, PendingRequest}
use Rattle.esm_loads.specs.Arrival.{Next, next, next_among, next_by}
use Rattle.esm_loads.specs.LoadsView.{urls_of, url_at, place_in, at_url, get_by, is_open, entries_in, entry_at, entry_by, module_of, tree_at, requests_in, request_of}
use Rattle.esm_loads.specs.LoadsAsLoading.{loading_of, trees_of}
use Rattle.esm_loads.specs.Fits.{AreJoined, HaveRecords, IsModuleAt, IsWaitingWithin, OnlyLastHasPending}
use Rattle.esm_loads.specs.Inner.Stepping.{Takes, NothingPending}
use Rattle.esm_loads.specs.declared.data.Slot.{Slot}
use Rattle.esm_loads.specs.declared.data.UrlState.{UrlState}
use Rattle.esm_loads.specs.declared.data.UrlState.TheVariants as states
use Rattle.esm_loads.specs.declared.data.Waiting.{Waiting}
use Rattle.esm_loads.specs.declared.loads.Loads.{Loads}
use Rattle.esm_loads.proofs.Places.{some_is, get_within, all_set, all_get, set_places, same_place}
use Rattle.esm_loads.proofs.PlacesOfUrls.{same_sym, place_at}
use Rattle.esm_loads.proofs.UrlIndices.{urls_many}
use Rattle.esm_loads.proofs.Lookups.{at_set, own_place, slot_url}
use Rattle.esm_loads.proofs.EnterFacts.{at_slot}

passed : (u : Url) (o : Option TableEntry) (rs : List PendingRequest) (later : Option Next) → (o ≡ None) ⊎ (rs ≡ []) → next_by u o rs later ≡ later
passed u None rs later h = refl
passed u (Some e) [] later h = refl
passed u (Some e) (a ∷ rs) later (inl f) = cc
passed u (Some e) (a ∷ rs) later (inr f) = cc

pub next_found : (l : Loading) (us : List Url) (d : ℕ) (u : Url) (e : TableEntry) (a : PendingRequest) (others : List PendingRequest) → slice_get us d ≡ Some u → l.entries u ≡ Some e → l.pending u ≡ a ∷ others
    → ((k : ℕ) (v : Url) → slice_get us k ≡ Some v → (k ≡ d → ⊥) → (l.entries v ≡ None) ⊎ (l.pending v ≡ [])) → next_among l us ≡ Some (record { url = u; pending_request = a; entry = e; others = others })
next_found l [] d u e a others at entry pending h = cc
next_found l (v ∷ vs) zero u e a others at entry pending h =
    let same : v ≡ u = some_is at in
    ap (λ w. next_by w (l.entries w) (l.pending w) (next_among l vs)) same ∙ (ap (λ o. next_by u o (l.pending u) (next_among l vs)) entry ∙ ap (λ rs. next_by u (Some e) rs (next_among l vs)) pending)
next_found l (v ∷ vs) (suc d) u e a others at entry pending h =
    passed v (l.entries v) (l.pending v) (next_among l vs) (h 0 v refl (λ z. absurd (omega (arith, z))))
    ∙ next_found l vs d u e a others at entry pending (λ k w f n. h (suc k) w f (λ z. n (omega (arith, z))))

pub next_none : (l : Loading) (us : List Url) → ((k : ℕ) (v : Url) → slice_get us k ≡ Some v → (l.entries v ≡ None) ⊎ (l.pending v ≡ [])) → next_among l us ≡ None
next_none l [] h = refl
next_none l (v ∷ vs) h = passed v (l.entries v) (l.pending v) (next_among l vs) (h 0 v refl) ∙ next_none l vs (λ k w f. h (suc k) w f)

-- ---- what stands at a place

pub entry_of : (trees : List (List Item)) (R : List RecordParts) (ss : List Slot) (k : ℕ) (s : Slot) (n : ℕ) (t : Loads) → AreJoined t n → t.urls.slots ≡ ss → slice_get ss k ≡ Some s → entries_in trees R ss s.url ≡ entry_at trees R s.state
entry_of trees R ss k s n t j e at = ap (λ o. entry_by trees R (get_by ss o)) (own_place ss k s (subst (λ ss. AreDistinct (urls_of ss)) e j.distinct) at) ∙ ap (entry_by trees R) at

-- a fetched URL has an entry
pub has_entry : (trees : List (List Item)) (R : List RecordParts) (ss : List Slot) (k : ℕ) (s : Slot) → HaveRecords ss R → slice_get ss k ≡ Some s → is_open s.state ≡ false → (e : TableEntry) × (entry_at trees R s.state ≡ Some e)
has_entry trees R ss k s h at closed = by s.state refl
  where
    by : (state : UrlState) → s.state ≡ state → (e : TableEntry) × (entry_at trees R state ≡ Some e)
    by states.Open e = let c = ap is_open (sym e) ∙ closed in cc
    by states.Failed e = (table.Failed, refl)
    by (states.Broken error) e = (table.Broken error.0, refl)
    by (states.Module id) e = let m : IsModuleAt ss k id.0 = record { slot = s; at = at; stands = e } in (_, ap (module_of (tree_at trees id.0)) (h.kept k id.0 m).is)

-- ---- what is taken

module _ (maps : Maps) (R : List RecordParts) (t : Loads) (n : ℕ) (j : AreJoined t n) where
  abbrev L : Loading
  L = loading_of maps t R

  abbrev us : List Url
  us = urls_of t.urls.slots

  queue_of : (k : ℕ) (v : Url) (q : List Waiting) → slice_get us k ≡ Some v → slice_get t.queues.queues k ≡ Some q → L.pending v ≡ map (request_of us) q
  queue_of k v q e f = ap (λ o. requests_in us (get_by t.queues.queues o)) (place_at us k v j.distinct e) ∙ ap (requests_in us) f

  -- a place that isn't fetched, or has no pending request
  idle : (k : ℕ) (v : Url) → slice_get us k ≡ Some v → ((s : Slot) (q : List Waiting) → slice_get t.urls.slots k ≡ Some s → slice_get t.queues.queues k ≡ Some q → is_open s.state ≡ false → q ≡ []) → (L.entries v ≡ None) ⊎ (L.pending v ≡ [])
  idle k v e h = by (get_within t.urls.slots k inside) (get_within t.queues.queues k (omega (arith, inside, j.queues)))
    where
      inside : k < length t.urls.slots
      inside = let w = slice_get_within us k v e in omega (arith, w, urls_many t.urls.slots)

      state_by : (s : Slot) (q : List Waiting) → slice_get t.urls.slots k ≡ Some s → slice_get t.queues.queues k ≡ Some q → (state : UrlState) → s.state ≡ state → (entries_in (trees_of t) R t.urls.slots v ≡ entry_at (trees_of t) R state) → (L.entries v ≡ None) ⊎ (L.pending v ≡ [])
      state_by s q f g states.Open c entry = inl entry
      state_by s q f g states.Failed c entry = inr (queue_of k v q e g ∙ ap (map (request_of us)) (h s q f g (ap is_open c)))
      state_by s q f g (states.Broken error) c entry = inr (queue_of k v q e g ∙ ap (map (request_of us)) (h s q f g (ap is_open c)))
      state_by s q f g (states.Module id) c entry = inr (queue_of k v q e g ∙ ap (map (request_of us)) (h s q f g (ap is_open c)))

      by : (s : Slot) × (slice_get t.urls.slots k ≡ Some s) → (q : List Waiting) × (slice_get t.queues.queues k ≡ Some q) → (L.entries v ≡ None) ⊎ (L.pending v ≡ [])
      by s q =
          let url : v ≡ s.0.url = some_is (sym e ∙ slot_url t.urls.slots k s.0 s.1) in
          state_by s.0 q.0 s.1 q.1 s.0.state refl (ap (entries_in (trees_of t) R t.urls.slots) url ∙ entry_of (trees_of t) R t.urls.slots k s.0 n t j refl s.1)

  pub nothing_next : NothingPending t → next L ≡ None
  nothing_next h = next_none L us (λ k v e. idle k v e (λ s q f g c. by k s q f g c (same_place k t.delivered)))
    where
      by : (k : ℕ) (s : Slot) (q : List Waiting) → slice_get t.urls.slots k ≡ Some s → slice_get t.queues.queues k ≡ Some q → is_open s.state ≡ false → (k ≡ t.delivered) ⊎ (k ≡ t.delivered → ⊥) → q ≡ []
      by k s q f g c (inl e) = h s q (ap (slice_get t.urls.slots) (sym e) ∙ f) (ap (slice_get t.queues.queues) (sym e) ∙ g) c
      by k s q f g c (inr d) = j.last k s q f g c d

  -- what is taken is next
  pub record IsNext (w : Waiting) (rest : List Waiting) : Type 0 where
    pub entry : TableEntry
    pub is : L.entries (url_at us t.delivered) ≡ Some entry
    pub next_is : next L ≡ Some (record { url = url_at us t.delivered; pending_request = request_of us w; entry = entry; others = map (request_of us) rest })
    pub left : loading_of maps (record t { queues = record t.queues { queues = slice_set t.queues.queues t.delivered rest } }) R ≡ record L { pending = put_at L.pending (url_at us t.delivered) (map (request_of us) rest) }

  pub taken_next : (new : Loads) (w : Waiting) → HaveRecords t.urls.slots R → (x : Takes t new w) → IsNext w x.rest
  taken_next new w h x = record {
    entry = found.0;
    is = ap L.entries url ∙ entry_is;
    next_is = next_found L us t.delivered (url_at us t.delivered) found.0 (request_of us w) (map (request_of us) x.rest) (at ∙ ap (λ u. Some u) (sym url)) (ap L.entries url ∙ entry_is) pending (λ k v e d. idle k v e (λ s q f g c. j.last k s q f g c d));
    left = ap (λ p. record L { pending = p }) (λ i v. put v i);
  }
    where
      at : slice_get us t.delivered ≡ Some x.slot.url
      at = slot_url t.urls.slots t.delivered x.slot x.at

      url : url_at us t.delivered ≡ x.slot.url
      url = at_slot t.urls.slots t.delivered x.slot x.at

      found : (e : TableEntry) × (entry_at (trees_of t) R x.slot.state ≡ Some e)
      found = has_entry (trees_of t) R t.urls.slots t.delivered x.slot h x.at x.fetched

      entry_is : L.entries x.slot.url ≡ Some found.0
      entry_is = entry_of (trees_of t) R t.urls.slots t.delivered x.slot n t j refl x.at ∙ found.1

      pending : L.pending (url_at us t.delivered) ≡ request_of us w ∷ map (request_of us) x.rest
      pending = ap L.pending url ∙ queue_of t.delivered x.slot.url (w ∷ x.rest) at x.queue

      step : (v : Url) (b : Bool) → requests_in us (cond b (Some x.rest) (at_url us t.queues.queues v)) ≡ cond b (map (request_of us) x.rest) (L.pending v)
      step v true = refl
      step v false = refl

      put : (v : Url) → requests_in us (at_url us (slice_set t.queues.queues t.delivered x.rest) v) ≡ cond (same_url (url_at us t.delivered) v) (map (request_of us) x.rest) (L.pending v)
      put v =
          let place = ap (place_in us) url ∙ own_place t.urls.slots t.delivered x.slot j.distinct x.at in
          ap (requests_in us) (at_set us (url_at us t.delivered) t.queues.queues t.delivered (w ∷ x.rest) x.rest v place x.queue)
          ∙ (step v (same_url v (url_at us t.delivered)) ∙ ap (λ b. cond b (map (request_of us) x.rest) (L.pending v)) (same_sym v (url_at us t.delivered)))

  pub joined_taken : (new : Loads) (w : Waiting) → Takes t new w → AreJoined new n
  joined_taken new w x = subst (λ t. AreJoined t n) (sym x.new_is) (record {
    distinct = j.distinct;
    usable = j.usable;
    few = j.few;
    queues = length-set t.queues.queues t.delivered x.rest ∙ j.queues;
    counts = j.counts;
    requests = all_set (All (IsWaitingWithin (length t.urls.slots))) t.queues.queues t.delivered x.rest j.requests (All-tail (IsWaitingWithin (length t.urls.slots)) w x.rest (all_get (All (IsWaitingWithin (length t.urls.slots))) t.queues.queues t.delivered (w ∷ x.rest) j.requests x.queue));
    loads = j.loads;
    last = last;
  })
    where
      last : OnlyLastHasPending t.urls.slots (slice_set t.queues.queues t.delivered x.rest) t.delivered
      last k s q f g c d = by (set_places t.queues.queues t.delivered k x.rest q g)
        where
          by : ((k ≡ t.delivered) × (q ≡ x.rest)) ⊎ ((k ≡ t.delivered → ⊥) × (slice_get t.queues.queues k ≡ Some q)) → q ≡ []
          by (inl e) = absurd (d e.0)
          by (inr e) = j.last k s q f e.1 c d
