-- What the calls say of the loads as a whole.
use Rattle.std.proofs.Common.{◌≡◌, ℕ, suc, ◌<◌, Bool, true, false, List, [], ◌∷◌, ◌++◌, length, map, Some, refl, ap, sym, subst, ◌∙◌, arith, length-append}
use Rattle.std.specs.Prelude.{slice_get, All, filter}
use Rattle.std.proofs.lemmas.List.{map-append}
use Rattle.std.proofs.lemmas.List.Elements.{All-nil, All-push}
use Rattle.esm_base.specs.Urls.{Url}
use Rattle.esm_realm.specs.Sound.{RecordParts}
use Rattle.esm_import_map.specs.ImportMap.{Maps}
use Rattle.esm_loads.specs.Loading.{is_fetching, Asked}
use Rattle.esm_loads.specs.Arrival.{open_asks}
use Rattle.esm_loads.specs.LoadsView.{urls_of, is_open, load_state, purpose_of, entry_at}
use Rattle.esm_loads.specs.LoadsAsLoading.{loading_of, trees_of}
use Rattle.esm_loads.specs.Fits.{FitRecords, IsLoadWithin}
use Rattle.esm_loads.specs.Inner.Asking.{AddsLoad}
use Rattle.esm_loads.specs.Inner.Flags.{asked_load}
use Rattle.esm_loads.specs.Inner.Urls.{open_urls, open_by}
use Rattle.esm_loads.specs.declared.data.Slot.{Slot}
use Rattle.esm_loads.specs.declared.data.UrlState.{UrlState}
use Rattle.esm_loads.specs.declared.data.UrlState.TheVariants as states
use Rattle.esm_loads.specs.declared.data.Purpose.{Purpose}
use Rattle.esm_loads.specs.declared.loads.Loads.{Loads}
use Rattle.esm_loads.proofs.NextFacts.{entry_of, has_entry}

-- ---- one load more

pub added_is : (maps : Maps) (R : List RecordParts) (t new : Loads) (p : Purpose) → AddsLoad t new p
    → loading_of maps new R ≡ record (loading_of maps t R) { loads = (loading_of maps t R).loads ++ Asked ∷ []; purposes = (loading_of maps t R).purposes ++ purpose_of p ∷ [] }
added_is maps R t new p h =
    let ss = t.urls.slots in
    ap (λ l. loading_of maps l R) h.rest
    ∙ (ap (λ ls. record (loading_of maps t R) { loads = ls; purposes = map purpose_of new.purposes.items }) (ap (map (load_state ss)) h.loads ∙ map-append (load_state ss) t.loads.items (asked_load ∷ []))
    ∙ ap (λ ps. record (loading_of maps t R) { loads = map (load_state ss) t.loads.items ++ Asked ∷ []; purposes = ps }) (ap (map purpose_of) h.purposes ∙ map-append purpose_of t.purposes.items (p ∷ [])))

pub added_fits : (t new : Loads) (R : List RecordParts) (p : Purpose) → FitRecords t R → AddsLoad t new p → FitRecords new R
added_fits t new R p f h = subst (λ l. FitRecords l R) (sym h.rest) (record {
  joined = record {
    distinct = f.joined.distinct;
    usable = f.joined.usable;
    few = f.joined.few;
    queues = f.joined.queues;
    counts = let e = ap length h.loads in omega (arith, f.joined.counts, e, length-append t.loads.items (asked_load ∷ []));
    requests = f.joined.requests;
    loads = subst (All (IsLoadWithin (length t.urls.slots) (length R))) (sym h.loads) (All-push (IsLoadWithin (length t.urls.slots) (length R)) t.loads.items asked_load f.joined.loads (tt, All-nil (λ (id : ℕ). id < length R)));
    last = f.joined.last;
  };
  matching = f.matching;
  known = f.known;
  purposes = let e = ap length h.loads in let g = ap length h.purposes in omega (arith, f.purposes, e, g, length-append t.loads.items (asked_load ∷ []), length-append t.purposes.items (p ∷ []));
  few_calls = f.few_calls;
})

-- ---- open asks

filter_open : (ss : List Slot) (f : Url → Bool) → ((k : ℕ) (s : Slot) → slice_get ss k ≡ Some s → f s.url ≡ is_open s.state) → filter f (urls_of ss) ≡ open_urls ss
filter_open [] f h = refl
filter_open (s ∷ ss) f h = by (f s.url) (is_open s.state) refl refl (h 0 s refl) (filter_open ss f (λ k r e. h (suc k) r e))
  where
    by : (a b : Bool) → f s.url ≡ a → is_open s.state ≡ b → f s.url ≡ is_open s.state → filter f (urls_of ss) ≡ open_urls ss → filter f (urls_of (s ∷ ss)) ≡ open_by (is_open s.state) s.url (open_urls ss)
    by true b e g is rest = rw (e, sym is ∙ e) (ap (λ us. s.url ∷ us) rest)
    by false b e g is rest = rw (e, sym is ∙ e) rest

pub asks_are : (maps : Maps) (R : List RecordParts) (t : Loads) → FitRecords t R → open_urls t.urls.slots ≡ open_asks (loading_of maps t R)
asks_are maps R t f = sym (filter_open t.urls.slots (λ u. is_fetching ((loading_of maps t R).entries u)) (λ k s e. ap is_fetching (entry_of (trees_of t) R t.urls.slots k s (length R) t f.joined refl e) ∙ by k s e s.state refl))
  where
    by : (k : ℕ) (s : Slot) → slice_get t.urls.slots k ≡ Some s → (state : UrlState) → s.state ≡ state → is_fetching (entry_at (trees_of t) R s.state) ≡ is_open s.state
    by k s e states.Open g = ap (λ state. is_fetching (entry_at (trees_of t) R state)) g ∙ sym (ap is_open g)
    by k s e states.Failed g = let c = ap is_open g in let x = has_entry (trees_of t) R t.urls.slots k s f.matching.have e c in ap is_fetching x.1 ∙ sym c
    by k s e (states.Broken error) g = let c = ap is_open g in let x = has_entry (trees_of t) R t.urls.slots k s f.matching.have e c in ap is_fetching x.1 ∙ sym c
    by k s e (states.Module id) g = let c = ap is_open g in let x = has_entry (trees_of t) R t.urls.slots k s f.matching.have e c in ap is_fetching x.1 ∙ sym c
