-- A fetch has ended: the tables with what it has come to.
use mathlib.Core.Bool.{true≢false}
use Rattle.std.proofs.Common.{◌≡◌, ℕ, suc, zero, ◌+◌, ◌<◌, ◌≤◌, true, false, List, [], ◌∷◌, ◌++◌, length, map, Option, Some, None, refl, ap, subst, sym, ◌∙◌, arith, inl, inr, length-append}
use Rattle.std.specs.Prelude.{◌⊎◌, slice_get, slice_set, All, nat_lt}
use Rattle.std.proofs.lemmas.List.{length-set, length-map}
use Rattle.std.proofs.lemmas.List.Elements.{All-weaker, All-head, All-tail}
use Rattle.std.proofs.lemmas.Option.{slice_get_within}
use Rattle.std.specs.Global.{Vec}
use Rattle.std.specs.declared.alloc.Global.{Global}
use Rattle.std.specs.declared.sync.Arc.{Arc}
use Rattle.esm_tree.specs.Syntax.{Item, Parts}
use Rattle.esm_ast.specs.Entries.{entries_of}
use Rattle.esm_ast.specs.Outcome.{OutcomeView}
use Rattle.esm_base.specs.Urls.{Url, has, same_url, IsUsable}
use Rattle.esm_base.specs.declared.module_id.ModuleId.{ModuleId}
use Rattle.esm_realm.specs.Laws.{AreDistinct}
use Rattle.esm_realm.specs.Sound.{RecordParts, IsSound, new_record, url_of}
use Rattle.esm_realm.proofs.Urls.{or_cases, or_left, or_true, own_text, same_text, not_true, not_both}
use Rattle.esm_realm.proofs.Weigh.{length_within}
use Rattle.esm_import_map.specs.ImportMap.{Maps}
use Rattle.esm_values.specs.Errors.{Errors, next_error}
use Rattle.esm_promise.specs.Code.{Numbered}
use Rattle.esm_loads.specs.UrlTable.{TableEntry, Failed, Broken, Module, found}
use Rattle.esm_base.specs.declared.limits.Limit.{Limit}
use Rattle.esm_base.specs.declared.limits.Limit.TheVariants.{L2}
use Rattle.esm_loads.specs.Loading.{Loading, PendingRequest}
use Rattle.esm_loads.specs.Host.{Host, with_loading}
use Rattle.esm_loads.specs.Arrival.{with_entry, put_found, after_fetch, bytes_of, count_by, store, Next, next, next_among, next_by}
use Rattle.esm_loads.specs.LoadsView.{every_form, tree_items, url_of_slot, urls_of, place_in, is_open, entry_at, module_of, tree_at, is_in, is_unlinked, is_unlinked_by, pending_in, purpose_of, get_by, request_of, requests_in}
use Rattle.esm_loads.specs.LoadsAsLoading.{loading_of, trees_of}
use Rattle.esm_loads.specs.Fits.{FitRecords, HaveRecords, HasRecord, IsModuleAt, IsLoadWithin, IsWaitingWithin, RecordsMatch, HaveTexts, AreBelow, records_with}
use Rattle.esm_loads.specs.Hosted.{host_of}
use Rattle.esm_loads.specs.Inner.Arriving.{Filled, Stores, stores, IsOpenSlot, NonePending, settled}
use Rattle.esm_loads.specs.Inner.Arriving.Filled.{AsModule, AsBroken, AsFailed}
use Rattle.esm_loads.specs.Inner.Targets.{AreKnown, IsOneMore, KnowTargets, all_targets}
use Rattle.esm_loads.specs.Inner.Urls.{UrlsView}
use Rattle.esm_loads.specs.declared.data.Slot.{Slot}
use Rattle.esm_loads.specs.declared.data.UrlState.{UrlState}
use Rattle.esm_loads.specs.declared.data.UrlState.TheVariants as states
use Rattle.esm_loads.specs.declared.data.Waiting.{Waiting}
use Rattle.esm_loads.specs.declared.loads.Loads.{Loads}
use Rattle.esm_loads.proofs.Places.{some_is, get_push, get_kept, kept_get, get_last, at_kept, at_last, set_get, set_other, set_places, all_get}
use Rattle.esm_loads.proofs.PlacesOfUrls.{place_at}
use Rattle.esm_loads.proofs.UrlIndices.{urls_set}
use Rattle.esm_loads.proofs.Lookups.{slot_url, own_place, other_id}
use Rattle.esm_loads.proofs.EnterFacts.{id_within}
use Rattle.esm_loads.proofs.NextFacts.{entry_of, has_entry}
use Rattle.esm_loads.proofs.ArriveFacts.{Grew}
use Rattle.esm_loads.proofs.ArriveFacts as facts

module_same : (a b : ModuleId) → states.Module a ≡ states.Module b → a ≡ b
module_same a b e = cc

-- the entry of the URL
abbrev entry_in : (maps : Maps) (url : Url) (c : OutcomeView) (old new : Stores) (state : UrlState) → Filled maps url c old new state → TableEntry
entry_in maps url c old new _ (AsModule tree targets e t r x) = Module (record { body = tree; targets = targets })
entry_in maps url c old new _ (AsBroken f e t r x) = Broken (next_error old.errors)
entry_in maps url c old new _ (AsFailed e t r x) = Failed

not_below : (n : ℕ) (ids : List ℕ) → AreBelow n ids → is_in ids n ≡ false
not_below n [] h = refl
not_below n (i ∷ ids) h =
    let l : i < n = All-head (λ (id : ℕ). id < n) i ids h in
    rw (other_id n i (λ e. absurd (omega (arith, e, l)))) (not_below n ids (All-tail (λ (id : ℕ). id < n) i ids h))

module _ (maps : Maps) (url : Url) (c : OutcomeView) (old new : Stores) (ss : List Slot) (have : HaveRecords ss old.records) (same : length old.trees ≡ length old.records) where
  pub grew_of : (state : UrlState) (f : Filled maps url c old new state) → Grew old.trees new.trees old.records new.records ss state (entry_in maps url c old new state f)
  grew_of _ (AsModule tree targets e t r x) = record {
    entry = ap (λ ts. module_of (tree_at ts (length old.records)) (slice_get new.records (length old.records))) t
        ∙ (ap (λ b. module_of b (slice_get new.records (length old.records))) (ap (tree_at (old.trees ++ tree ∷ [])) (sym same) ∙ at_last old.trees tree [])
        ∙ ap (module_of tree) (ap (λ rs. slice_get rs (length old.records)) r ∙ get_last old.records (new_record url (entries_of tree) targets)));
    kept = λ k s at. kept k s at s.state refl;
    new = ap is_unlinked_by (ap (λ rs. slice_get rs (length old.records)) r ∙ get_last old.records (new_record url (entries_of tree) targets));
    old = λ id l. ap is_unlinked_by (ap (λ rs. slice_get rs id) r ∙ kept_get old.records (new_record url (entries_of tree) targets ∷ []) id l);
    apart = λ ids h. not_below (length old.records) ids h;
  }
    where
      kept : (k : ℕ) (s : Slot) → slice_get ss k ≡ Some s → (state : UrlState) → s.state ≡ state → entry_at new.trees new.records state ≡ entry_at old.trees old.records state
      kept k s at states.Open g = refl
      kept k s at states.Failed g = refl
      kept k s at (states.Broken error) g = refl
      kept k s at (states.Module id) g =
          let l = id_within ss old.records k id.0 have (record { slot = s; at = at; stands = g }) in
          ap (λ ts. module_of (tree_at ts id.0) (slice_get new.records id.0)) t
          ∙ (ap (λ b. module_of b (slice_get new.records id.0)) (at_kept old.trees (tree ∷ []) id.0 [] (omega (arith, l, same)))
          ∙ ap (module_of (tree_at old.trees id.0)) (ap (λ rs. slice_get rs id.0) r ∙ kept_get old.records (new_record url (entries_of tree) targets ∷ []) id.0 l))
  grew_of _ (AsBroken f e t r x) = record {
    entry = refl;
    kept = λ k s at. ap (λ ts. entry_at ts new.records s.state) t ∙ ap (λ rs. entry_at old.trees rs s.state) r;
    new = refl;
    old = λ id l. ap (λ rs. is_unlinked rs id) r;
    apart = λ ids h. refl;
  }
  grew_of _ (AsFailed e t r x) = record {
    entry = refl;
    kept = λ k s at. ap (λ ts. entry_at ts new.records s.state) t ∙ ap (λ rs. entry_at old.trees rs s.state) r;
    new = refl;
    old = λ id l. ap (λ rs. is_unlinked rs id) r;
    apart = λ ids h. refl;
  }

  pub filled_closed : (state : UrlState) → Filled maps url c old new state → is_open state ≡ false
  filled_closed _ (AsModule tree targets e t r x) = refl
  filled_closed _ (AsBroken f e t r x) = refl
  filled_closed _ (AsFailed e t r x) = refl

  pub filled_records : (state : UrlState) → Filled maps url c old new state → new.records ≡ records_with old.records url (found maps every_form url c)
  filled_records _ (AsModule tree targets e t r x) = r ∙ ap (records_with old.records url) (sym e)
  filled_records _ (AsBroken f e t r x) = r ∙ ap (records_with old.records url) (sym e)
  filled_records _ (AsFailed e t r x) = r ∙ ap (records_with old.records url) (sym e)

  filled_more : (state : UrlState) → Filled maps url c old new state → length old.records ≤ length new.records
  filled_more _ (AsModule tree targets e t r x) = omega (arith, ap length r, length-append old.records (new_record url (entries_of tree) targets ∷ []))
  filled_more _ (AsBroken f e t r x) = omega (arith, ap length r)
  filled_more _ (AsFailed e t r x) = omega (arith, ap length r)

  filled_kept : (state : UrlState) (id : ℕ) (p : RecordParts) → Filled maps url c old new state → slice_get old.records id ≡ Some p → slice_get new.records id ≡ Some p
  filled_kept _ id p (AsModule tree targets e t r x) is = ap (λ rs. slice_get rs id) r ∙ get_kept old.records (new_record url (entries_of tree) targets ∷ []) id p is
  filled_kept _ id p (AsBroken f e t r x) is = ap (λ rs. slice_get rs id) r ∙ is
  filled_kept _ id p (AsFailed e t r x) is = ap (λ rs. slice_get rs id) r ∙ is

  filled_record : (state : UrlState) (id : ℕ) → Filled maps url c old new state → state ≡ states.Module (record { 0 = id }) → HasRecord new.records id url
  filled_record _ id (AsModule tree targets e t r x) st =
      let is : length old.records ≡ id = ap (λ (m : ModuleId). m.0) (module_same _ _ st) in
      subst (λ n. HasRecord new.records n url) is (record { parts = _; is = ap (λ rs. slice_get rs (length old.records)) r ∙ get_last old.records _; under = refl })
  filled_record _ id (AsBroken f e t r x) st = cc
  filled_record _ id (AsFailed e t r x) st = cc

  filled_known : (state : UrlState) (id : ℕ) (p : RecordParts) → Filled maps url c old new state → slice_get new.records id ≡ Some p → (slice_get old.records id ≡ Some p) ⊎ (state ≡ states.Module (record { 0 = id }))
  filled_known _ id p (AsModule tree targets e t r x) is = by (get_push old.records _ id p (ap (λ rs. slice_get rs id) (sym r) ∙ is))
    where
      by : (slice_get old.records id ≡ Some p) ⊎ ((id ≡ length old.records) × (p ≡ new_record url (entries_of tree) targets)) → (slice_get old.records id ≡ Some p) ⊎ (states.Module (record { 0 = length old.records }) ≡ states.Module (record { 0 = id }))
      by (inl g) = inl g
      by (inr g) = inr (ap (λ n. states.Module (record { 0 = n })) (sym g.0))
  filled_known _ id p (AsBroken f e t r x) is = inl (ap (λ rs. slice_get rs id) (sym r) ∙ is)
  filled_known _ id p (AsFailed e t r x) is = inl (ap (λ rs. slice_get rs id) (sym r) ∙ is)

  -- the entries of a record are those of its tree
  filled_entries : (state : UrlState) (id : ℕ) (p : RecordParts) (body : List Item) → Filled maps url c old new state
      → ((id : ℕ) (p : RecordParts) (body : List Item) → slice_get old.records id ≡ Some p → slice_get old.trees id ≡ Some body → p.entries ≡ entries_of body)
      → slice_get new.records id ≡ Some p → slice_get new.trees id ≡ Some body → p.entries ≡ entries_of body
  filled_entries _ id p body (AsModule tree targets e t r x) before is at =
      by (get_push old.records _ id p (ap (λ rs. slice_get rs id) (sym r) ∙ is)) (get_push old.trees tree id body (ap (λ ts. slice_get ts id) (sym t) ∙ at))
    where
      by : (slice_get old.records id ≡ Some p) ⊎ ((id ≡ length old.records) × (p ≡ new_record url (entries_of tree) targets))
          → (slice_get old.trees id ≡ Some body) ⊎ ((id ≡ length old.trees) × (body ≡ tree)) → p.entries ≡ entries_of body
      by (inl g) (inl h) = before id p body g h
      by (inl g) (inr h) = let inside = slice_get_within old.records id p g in absurd (omega (arith, inside, h.0, same))
      by (inr g) (inl h) = let inside = slice_get_within old.trees id body h in absurd (omega (arith, inside, g.0, same))
      by (inr g) (inr h) = ap (λ (r : RecordParts). r.entries) g.1 ∙ ap entries_of (sym h.1)
  filled_entries _ id p body (AsBroken f e t r x) before is at = before id p body (ap (λ rs. slice_get rs id) (sym r) ∙ is) (ap (λ ts. slice_get ts id) (sym t) ∙ at)
  filled_entries _ id p body (AsFailed e t r x) before is at = before id p body (ap (λ rs. slice_get rs id) (sym r) ∙ is) (ap (λ ts. slice_get ts id) (sym t) ∙ at)

  filled_length : (state : UrlState) → Filled maps url c old new state → length new.trees ≡ length new.records
  filled_length _ (AsModule tree targets e t r x) = omega (arith, same, ap length t, ap length r, length-append old.trees (tree ∷ []), length-append old.records (new_record url (entries_of tree) targets ∷ []))
  filled_length _ (AsBroken f e t r x) = ap length t ∙ (same ∙ ap length (sym r))
  filled_length _ (AsFailed e t r x) = ap length t ∙ (same ∙ ap length (sym r))

-- ---- the record of a new module

has_record : (records : List RecordParts) (u : Url) → has (map url_of records) u ≡ true → (id : ℕ) × (r : RecordParts) × (slice_get records id ≡ Some r) × (r.url ≡ u)
has_record [] u h = cc
has_record (r ∷ records) u h = by (or_cases (same_url u r.url) (has (map url_of records) u) h) (has_record records u)
  where
    by : (same_url u r.url ≡ true) ⊎ (has (map url_of records) u ≡ true) → (has (map url_of records) u ≡ true → (id : ℕ) × (q : RecordParts) × (slice_get records id ≡ Some q) × (q.url ≡ u))
        → (id : ℕ) × (q : RecordParts) × (slice_get (r ∷ records) id ≡ Some q) × (q.url ≡ u)
    by (inl e) rest = (0, r, refl, sym (same_text u r.url e))
    by (inr f) rest = let found = rest f in (suc found.0, found.1, found.2, found.3)

-- a record's URL is that of its module's slot
record_place : (t : Loads) (R : List RecordParts) → FitRecords t R → (u : Url) → has (map url_of R) u ≡ true → (j : ℕ) × (s : Slot) × (slice_get t.urls.slots j ≡ Some s) × (is_open s.state ≡ false) × (s.url ≡ u)
record_place t R fit u h =
    let found = has_record R u h in
    let m = fit.matching.known found.0 found.1 found.2 in
    let r = fit.matching.have.kept m.0 found.0 m.1 in
    let same : found.1 ≡ r.parts = some_is (sym found.2 ∙ r.is) in
    (m.0, m.1.slot, m.1.at, ap is_open m.1.stands, sym r.under ∙ (ap url_of (sym same) ∙ found.3))

listed : (us : List Url) (k : ℕ) (u : Url) → slice_get us k ≡ Some u → has us u ≡ true
listed [] k u e = cc
listed (w ∷ ws) zero u e = or_left (same_url u w) (has ws u) (subst (λ v. same_url u v ≡ true) (sym (some_is e)) (own_text u))
listed (w ∷ ws) (suc k) u e = or_true (same_url u w) (has ws u) (listed ws k u e)

module _ (t : Loads) (R : List RecordParts) (k : ℕ) (url : Url) (fit : FitRecords t R) (at : IsOpenSlot t.urls.slots k url) where
  under_at : slice_get (urls_of t.urls.slots) k ≡ Some url
  under_at = slot_url t.urls.slots k at.slot at.at ∙ ap (λ u. Some u) at.under

  pub record_new : has (map url_of R) url ≡ false
  record_new = not_true (has (map url_of R) url) (λ h.
      let p = record_place t R fit url h in
      let a = place_at (urls_of t.urls.slots) p.0 url fit.joined.distinct (slot_url t.urls.slots p.0 p.1 p.2 ∙ ap (λ u. Some u) p.4) in
      let b = place_at (urls_of t.urls.slots) k url fit.joined.distinct under_at in
      let same : p.0 ≡ k = some_is (sym a ∙ b) in
      let slots : p.1 ≡ at.slot = some_is (sym p.2 ∙ (ap (slice_get t.urls.slots) same ∙ at.at)) in
      not_both (is_open at.slot.state) at.fetching (ap (λ (s : Slot). is_open s.state) (sym slots) ∙ p.3))

  pub record_room : IsSound R → length R < 4096
  record_room sound =
      let all = length_within (url ∷ map url_of R) (urls_of t.urls.slots) (record_new, sound.differ) inside in
      omega (arith, all, fit.joined.few, length-map R url_of, length-map t.urls.slots url_of_slot)
    where
      by : (u : Url) → (same_url u url ≡ true) ⊎ (has (map url_of R) u ≡ true) → has (urls_of t.urls.slots) u ≡ true
      by u (inl e) = listed (urls_of t.urls.slots) k u (under_at ∙ ap (λ v. Some v) (sym (same_text u url e)))
      by u (inr h) = let p = record_place t R fit u h in listed (urls_of t.urls.slots) p.0 u (slot_url t.urls.slots p.0 p.1 p.2 ∙ ap (λ v. Some v) p.4)

      inside : (u : Url) → has (url ∷ map url_of R) u ≡ true → has (urls_of t.urls.slots) u ≡ true
      inside u h = by u (or_cases (same_url u url) (has (map url_of R) u) h)

  pub url_usable : IsUsable url
  url_usable = all_get IsUsable (urls_of t.urls.slots) k url fit.joined.usable under_at

-- ---- all together

module _ (maps : Maps) (t : Loads) (R R' : List RecordParts) (k : ℕ) (url : Url) (c : OutcomeView) (state : UrlState) (errors made : Errors) (ts : Vec (Arc Parts Global)) (starts places : List ℕ)
    (fit : FitRecords t R) (at : IsOpenSlot t.urls.slots k url) (none : NonePending t) (f : Filled maps url c (stores (trees_of t) R errors) (stores (map tree_items ts.items) R' made) state) where
  abbrev put : Slot
  put = record at.slot { state = state }

  abbrev slots : List Slot
  slots = slice_set t.urls.slots k put

  abbrev now : Loads
  now = settled (record t { trees = ts; urls = record t.urls { starts = starts; places = places } }) k put

  abbrev old_stores : Stores
  old_stores = stores (trees_of t) R errors

  abbrev new_stores : Stores
  new_stores = stores (map tree_items ts.items) R' made

  same_urls : urls_of slots ≡ urls_of t.urls.slots
  same_urls = urls_set t.urls.slots k at.slot put at.at refl

  place : place_in (urls_of t.urls.slots) url ≡ Some k
  place = place_at (urls_of t.urls.slots) k url fit.joined.distinct (under_at t R k url fit at)

  grew : Grew (trees_of t) (map tree_items ts.items) R R' t.urls.slots state (entry_in maps url c old_stores new_stores state f)
  grew = grew_of maps url c old_stores new_stores t.urls.slots fit.matching.have fit.matching.as_many state f

  loading_is : loading_of maps now R' ≡ with_entry (loading_of maps t R) url (entry_in maps url c old_stores new_stores state f)
  loading_is = λ i. record {
    maps = maps;
    built = every_form;
    asked = same_urls i;
    entries = facts.entries_are (trees_of t) (map tree_items ts.items) R R' t.urls.slots k at.slot state (entry_in maps url c old_stores new_stores state f) url place at.at at.fetching fit.matching.have grew i;
    pending = pending_in (same_urls i) t.queues.queues;
    loads = facts.loads_are (trees_of t) (map tree_items ts.items) R R' t.urls.slots k at.slot state (entry_in maps url c old_stores new_stores state f) url place at.at at.fetching fit.matching.have grew t.loads.items (length t.urls.slots) fit.joined.loads i;
    purposes = map purpose_of t.purposes.items;
    unlinked = facts.unlinked_is (trees_of t) (map tree_items ts.items) R R' t.urls.slots k at.slot state (entry_in maps url c old_stores new_stores state f) url place at.at at.fetching fit.matching.have grew i;
    bytes = t.urls.bytes;
    import_calls = t.import_calls;
    stopped = None;
  }

  pub stored_is : (named : ℕ → Url) (ps : Numbered) → host_of named ps made (loading_of maps now R') ≡ put_found (host_of named ps errors (loading_of maps t R)) url (found maps every_form url c)
  stored_is named ps = ap (host_of named ps made) loading_is ∙ by state f
    where
      by : (state : UrlState) (f : Filled maps url c old_stores new_stores state) → host_of named ps made (with_entry (loading_of maps t R) url (entry_in maps url c old_stores new_stores state f)) ≡ put_found (host_of named ps errors (loading_of maps t R)) url (found maps every_form url c)
      by _ (AsModule tree targets e x r g) = rw (e, g) refl
      by _ (AsBroken thrown e x r g) = rw (e, g) refl
      by _ (AsFailed e x r g) = rw (e, g) refl

  slot_at : (j : ℕ) (s : Slot) → slice_get slots j ≡ Some s → ((j ≡ k) × (s ≡ put)) ⊎ ((j ≡ k → ⊥) × (slice_get t.urls.slots j ≡ Some s))
  slot_at j s e = set_places t.urls.slots k j put s e

  kept_slot : (j : ℕ) (s : Slot) → slice_get t.urls.slots j ≡ Some s → is_open s.state ≡ false → slice_get slots j ≡ Some s
  kept_slot j s e closed = set_other t.urls.slots k j put (λ same.
      true≢false (sym at.fetching ∙ (ap (λ (q : Slot). is_open q.state) (some_is (sym at.at ∙ (ap (slice_get t.urls.slots) (sym same) ∙ e))) ∙ closed))) ∙ e

  slots_many : length slots ≡ length t.urls.slots
  slots_many = length-set t.urls.slots k put

  matching : HaveTexts (map tree_items ts.items) → RecordsMatch slots (map tree_items ts.items) R'
  matching spelled = record {
    have = record { kept = λ j id m. kept j id m (slot_at j m.slot m.at) };
    known = λ id r e. known id r (filled_known maps url c old_stores new_stores t.urls.slots fit.matching.have fit.matching.as_many state id r f e);
    as_many = filled_length maps url c old_stores new_stores t.urls.slots fit.matching.have fit.matching.as_many state f;
    entries = λ id r tree e g. filled_entries maps url c old_stores new_stores t.urls.slots fit.matching.have fit.matching.as_many state id r tree f fit.matching.entries e g;
    spelled = spelled;
  }
    where
      kept : (j id : ℕ) (m : IsModuleAt slots j id) → ((j ≡ k) × (m.slot ≡ put)) ⊎ ((j ≡ k → ⊥) × (slice_get t.urls.slots j ≡ Some m.slot)) → HasRecord R' id m.slot.url
      kept j id m (inl p) = subst (λ u. HasRecord R' id u) (sym at.under ∙ ap (λ (s : Slot). s.url) (sym p.1)) (filled_record maps url c old_stores new_stores t.urls.slots fit.matching.have fit.matching.as_many state id f (ap (λ (s : Slot). s.state) (sym p.1) ∙ m.stands))
      kept j id m (inr p) =
          let h = fit.matching.have.kept j id (record { slot = m.slot; at = p.1; stands = m.stands }) in
          record { parts = h.parts; is = filled_kept maps url c old_stores new_stores t.urls.slots fit.matching.have fit.matching.as_many state id h.parts f h.is; under = h.under }

      known : (id : ℕ) (r : RecordParts) → (slice_get R id ≡ Some r) ⊎ (state ≡ states.Module (record { 0 = id })) → (j : ℕ) × IsModuleAt slots j id
      known id r (inl e) = let h = fit.matching.known id r e in (h.0, record { slot = h.1.slot; at = kept_slot h.0 h.1.slot h.1.at (ap is_open h.1.stands); stands = h.1.stands })
      known id r (inr st) = (k, record { slot = put; at = set_get t.urls.slots k at.slot put at.at; stands = st })

  pub stored_fits : HaveTexts (map tree_items ts.items) → AreKnown (urls_of t.urls.slots) starts places (all_targets R') → FitRecords now R'
  stored_fits spelled known = record {
    joined = record {
      distinct = subst AreDistinct (sym same_urls) fit.joined.distinct;
      usable = subst (All IsUsable) (sym same_urls) fit.joined.usable;
      few = omega (arith, slots_many, fit.joined.few);
      queues = fit.joined.queues ∙ sym slots_many;
      counts = fit.joined.counts;
      requests = subst (λ n. All (All (IsWaitingWithin n)) t.queues.queues) (sym slots_many) fit.joined.requests;
      loads = subst (λ n. All (IsLoadWithin n (length R')) t.loads.items) (sym slots_many) (All-weaker (IsLoadWithin (length t.urls.slots) (length R)) (IsLoadWithin (length t.urls.slots) (length R')) (λ l w. (w.0, All-weaker (λ (id : ℕ). id < length R) (λ (id : ℕ). id < length R') (λ id l. omega (arith, l, more)) l.visited w.1)) t.loads.items fit.joined.loads);
      last = λ j s q g h closed apart. by j s q h closed apart (slot_at j s g);
    };
    matching = matching spelled;
    known = subst (λ us. AreKnown us starts places (all_targets R')) (sym same_urls) known;
    purposes = fit.purposes;
    few_calls = fit.few_calls;
  }
    where
      more : length R ≤ length R'
      more = filled_more maps url c old_stores new_stores t.urls.slots fit.matching.have fit.matching.as_many state f

      by : (j : ℕ) (s : Slot) (q : List Waiting) → slice_get t.queues.queues j ≡ Some q → is_open s.state ≡ false → (j ≡ k → ⊥) → ((j ≡ k) × (s ≡ put)) ⊎ ((j ≡ k → ⊥) × (slice_get t.urls.slots j ≡ Some s)) → q ≡ []
      by j s q h closed apart (inl e) = absurd (apart e.0)
      by j s q h closed apart (inr e) = none j s q e.1 h closed

-- what is settled beside new places
pub settled_is : (t : Loads) (v : UrlsView) (new : Loads) (k : ℕ) (slot : Slot) (state : UrlState) → v ≡ record t.urls { starts = v.starts; places = v.places } → slice_get t.urls.slots k ≡ Some slot
    → ((s : Slot) → slice_get v.slots k ≡ Some s → new ≡ settled (record t { urls = v }) k (record s { state = state })) → new ≡ settled (record t { urls = record t.urls { starts = v.starts; places = v.places } }) k (record slot { state = state })
settled_is t v new k slot state rest at told =
    told slot (ap (λ (v : UrlsView). slice_get v.slots k) rest ∙ at) ∙ ap (λ v. settled (record t { urls = v }) k (record slot { state = state })) rest

pub known_stays : (old new : UrlsView) (R : List RecordParts) → new ≡ record old { starts = new.starts; places = new.places } → KnowTargets new R → AreKnown (urls_of old.slots) new.starts new.places (all_targets R)
known_stays old new R rest h = subst (λ us. AreKnown us new.starts new.places (all_targets R)) (ap (λ (v : UrlsView). urls_of v.slots) rest) h

-- there is no record more, or one
pub filled_one : (maps : Maps) (url : Url) (c : OutcomeView) (old new : Stores) (state : UrlState) → Filled maps url c old new state → IsOneMore old.records new.records
filled_one maps url c old new _ (AsModule tree targets e x r g) = inr (_, r)
filled_one maps url c old new _ (AsBroken thrown e x r g) = inl r
filled_one maps url c old new _ (AsFailed e x r g) = inl r

-- ---- no fetched URL has a pending request

none_here : (u : Url) (o : Option TableEntry) (rs : List PendingRequest) (later : Option Next) (e : TableEntry) → next_by u o rs later ≡ None → o ≡ Some e → rs ≡ []
none_here u None rs later e h f = cc
none_here u (Some x) [] later e h f = refl
none_here u (Some x) (a ∷ rs) later e h f = cc

none_later : (u : Url) (o : Option TableEntry) (rs : List PendingRequest) (later : Option Next) → next_by u o rs later ≡ None → later ≡ None
none_later u None rs later h = h
none_later u (Some x) [] later h = h
none_later u (Some x) (a ∷ rs) later h = cc

next_empty : (l : Loading) (us : List Url) (k : ℕ) (u : Url) (e : TableEntry) → next_among l us ≡ None → slice_get us k ≡ Some u → l.entries u ≡ Some e → l.pending u ≡ []
next_empty l [] k u e h at entry = cc
next_empty l (v ∷ vs) zero u e h at entry =
    let same : v ≡ u = some_is at in
    ap l.pending (sym same) ∙ none_here v (l.entries v) (l.pending v) (next_among l vs) e h (ap l.entries same ∙ entry)
next_empty l (v ∷ vs) (suc k) u e h at entry = next_empty l vs k u e (none_later v (l.entries v) (l.pending v) (next_among l vs) h) at entry

no_items : {A B : Type 0} (f : A → B) (xs : List A) → map f xs ≡ [] → xs ≡ []
no_items f [] e = refl
no_items f (x ∷ xs) e = cc

pub none_pending : (maps : Maps) (R : List RecordParts) (t : Loads) → FitRecords t R → next (loading_of maps t R) ≡ None → NonePending t
none_pending maps R t f h k s q at queue closed =
    let us = urls_of t.urls.slots in
    let x = has_entry (trees_of t) R t.urls.slots k s f.matching.have at closed in
    let entry = entry_of (trees_of t) R t.urls.slots k s (length R) t f.joined refl at ∙ x.1 in
    let pending : (loading_of maps t R).pending s.url ≡ map (request_of us) q = ap (λ o. requests_in us (get_by t.queues.queues o)) (own_place t.urls.slots k s f.joined.distinct at) ∙ ap (requests_in us) queue in
    no_items (request_of us) q (sym pending ∙ next_empty (loading_of maps t R) us k s.url x.0 h (slot_url t.urls.slots k s at) entry)

-- ---- the bytes are counted first

pub counted_fits : (t : Loads) (b : ℕ) (R : List RecordParts) → FitRecords t R → FitRecords (record t { urls = record t.urls { bytes = b } }) R
counted_fits t b R f = record {
  joined = record {
    distinct = f.joined.distinct;
    usable = f.joined.usable;
    few = f.joined.few;
    queues = f.joined.queues;
    counts = f.joined.counts;
    requests = f.joined.requests;
    loads = f.joined.loads;
    last = f.joined.last;
  };
  matching = f.matching;
  known = f.known;
  purposes = f.purposes;
  few_calls = f.few_calls;
}

module _ (named : ℕ → Url) (maps : Maps) (ps : Numbered) (errors : Errors) (t : Loads) (R : List RecordParts) (url : Url) (c : OutcomeView) where
  abbrev before : Host
  before = host_of named ps errors (loading_of maps t R)

  pub counted_is : t.urls.bytes + bytes_of c ≤ 16777216
      → after_fetch before url c ≡ put_found (host_of named ps errors (loading_of maps (record t { urls = record t.urls { bytes = t.urls.bytes + bytes_of c } }) R)) url (found maps every_form url c)
  counted_is few =
      let b : nat_lt 16777216 (t.urls.bytes + bytes_of c) ≡ false = grind arith in
      ap (λ b. store (with_loading before (count_by b before.imports (bytes_of c))) url c) b

  pub limit_is : (limit : Limit) → limit ≡ L2 → 16777216 < t.urls.bytes + bytes_of c → (after_fetch before url c).imports.stopped ≡ Some limit
  limit_is limit is over =
      let b : nat_lt 16777216 (t.urls.bytes + bytes_of c) ≡ true = grind arith in
      ap (λ b. (store (with_loading before (count_by b before.imports (bytes_of c))) url c).imports.stopped) b ∙ ap (λ l. Some l) (sym is)
