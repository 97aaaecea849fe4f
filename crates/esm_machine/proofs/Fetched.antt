-- The end of a fetch, by the records and the loads.
use Rattle.std.proofs.Common.{◌≡◌, ◌⊎◌, inl, inr, ℕ, zero, suc, Bool, true, false, cond, List, [], ◌∷◌, ◌++◌, map, Option, Some, None, refl, ap, subst, sym, ◌∙◌}
use Rattle.std.specs.Prelude.{◌||◌, filter, Result, Ok, Err}
use Rattle.std.proofs.lemmas.List.{map-append}
use Rattle.esm_base.specs.declared.end.End.{End}
use Rattle.esm_base.specs.declared.end.End.TheVariants as ends
use Rattle.esm_base.specs.declared.limits.Limit.{Limit}
use Rattle.esm_base.specs.Urls.{Url, has, same_url}
use Rattle.esm_ast.specs.Entries.{entries_of}
use Rattle.esm_ast.specs.Outcome.{OutcomeView}
use Rattle.esm_import_map.specs.ImportMap.{Maps}
use Rattle.esm_realm.specs.ById.{status_of, is_linking}
use Rattle.esm_realm.specs.Sound.{RecordParts, new_record, url_of}
use Rattle.esm_realm.proofs.Urls.{same_text}
use Rattle.esm_values.specs.Errors.{Errors}
use Rattle.esm_promise.specs.Code.{Numbered}
use Rattle.esm_loads.specs.Arrival.{after_fetch, open_asks}
use Rattle.esm_loads.specs.Fits.{FitRecords, records_with}
use Rattle.esm_loads.specs.Host.{Host}
use Rattle.esm_loads.specs.Hosted.{host_of, StopsAt}
use Rattle.esm_loads.specs.Laws.{IsOrderly, StaysOrderly, StaysWhole}
use Rattle.esm_loads.specs.Loaded.{HaveLoaded}
use Rattle.esm_loads.specs.Loading.{Loading, is_fetching}
use Rattle.esm_loads.specs.LoadsAsLoading.{loading_of}
use Rattle.esm_loads.specs.LoadsView.{every_form}
use Rattle.esm_loads.specs.UrlTable.{TableEntry, Entries, Found, Nothing, Faulty, Script, found}
use Rattle.esm_loads.specs.Whole.{IsWhole}
use Rattle.esm_loads.specs.declared.loads.Loads.{Loads}
use Rattle.esm_link.specs.Realm.{is_linked}
use Rattle.esm_machine.specs.Arrivals.{urls_with}
use Rattle.esm_machine.specs.Calls.{FetchesBy}
use Rattle.esm_machine.specs.ModuleStore.{imported, is_whole, seen_of, linked_urls}
use Rattle.esm_machine.specs.Kept.{GoesOn}
use Rattle.esm_machine.specs.declared.condition.Condition.{Condition}
use Rattle.esm_machine.specs.declared.condition.Condition.TheVariants as conditions
use Rattle.esm_machine.specs.Inner.Importing.{or_true, Linked}

-- ---- one record more

pub urls_more : (R : List RecordParts) (u : Url) (f : Found) → map url_of (records_with R u f) ≡ urls_with (map url_of R) u f
urls_more R u Nothing = refl
urls_more R u (Faulty f) = refl
urls_more R u (Script m) = map-append url_of R (new_record u (entries_of m.body) m.targets ∷ [])

linked_last : (R : List RecordParts) (r : RecordParts) → is_linked r.status ≡ false → linked_urls (R ++ r ∷ []) ≡ linked_urls R
linked_last [] r e = ap (λ b. map url_of (cond b (r ∷ []) [])) e
linked_last (q ∷ R) r e = by (is_linked q.status) (linked_last R r e)
  where
    by : (b : Bool) → linked_urls (R ++ r ∷ []) ≡ linked_urls R
        → map url_of (cond b (q ∷ Linked (R ++ r ∷ [])) (Linked (R ++ r ∷ []))) ≡ map url_of (cond b (q ∷ Linked R) (Linked R))
    by true k = λ i. q.url ∷ k i
    by false k = k

pub linked_more : (R : List RecordParts) (u : Url) (f : Found) → linked_urls (records_with R u f) ≡ linked_urls R
linked_more R u Nothing = refl
linked_more R u (Faulty f) = refl
linked_more R u (Script m) = linked_last R (new_record u (entries_of m.body) m.targets) refl

idle_last : (R : List RecordParts) (r : RecordParts) → is_linking r.status ≡ false → ((m : ℕ) → is_linking (status_of R m) ≡ false) → (m : ℕ) → is_linking (status_of (R ++ r ∷ []) m) ≡ false
idle_last [] r e h zero = e
idle_last [] r e h (suc m) = refl
idle_last (q ∷ R) r e h zero = h 0
idle_last (q ∷ R) r e h (suc m) = idle_last R r e (λ n. h (suc n)) m

pub idle_more : (R : List RecordParts) (u : Url) (f : Found) → ((m : ℕ) → is_linking (status_of R m) ≡ false) → (m : ℕ) → is_linking (status_of (records_with R u f) m) ≡ false
idle_more R u Nothing h = h
idle_more R u (Faulty f) h = h
idle_more R u (Script m) h = idle_last R (new_record u (entries_of m.body) m.targets) refl h

-- ---- an open ask

first : (a b : Bool) → a ≡ true → (a || b) ≡ true
first true b h = refl
first false b h = cc

later : (a b : Bool) → b ≡ true → (a || b) ≡ true
later true b h = refl
later false b h = h

is_none : (o : Option TableEntry) → is_fetching o ≡ true → o ≡ None
is_none None e = refl
is_none (Some x) e = cc

among_open : (es : Entries) (us : List Url) (u : Url) → has (filter (λ v. is_fetching (es v)) us) u ≡ true → (has us u ≡ true) × (is_fetching (es u) ≡ true)
among_open es [] u h = cc
among_open es (v ∷ us) u h = by (is_fetching (es v)) refl h (among_open es us u)
  where
    Rest : Bool
    Rest = has (filter (λ v. is_fetching (es v)) us) u

    own : is_fetching (es v) ≡ true → (same_url u v ≡ true) ⊎ (Rest ≡ true) → (Rest ≡ true → (has us u ≡ true) × (is_fetching (es u) ≡ true))
        → (has (v ∷ us) u ≡ true) × (is_fetching (es u) ≡ true)
    own e (inl s) rest = (first (same_url u v) (has us u) s, subst (λ x. is_fetching (es x) ≡ true) (sym (same_text u v s)) e)
    own e (inr k) rest = let found = rest k in (later (same_url u v) (has us u) found.0, found.1)

    by : (b : Bool) → is_fetching (es v) ≡ b → has (cond b (v ∷ filter (λ v. is_fetching (es v)) us) (filter (λ v. is_fetching (es v)) us)) u ≡ true
        → (Rest ≡ true → (has us u ≡ true) × (is_fetching (es u) ≡ true)) → (has (v ∷ us) u ≡ true) × (is_fetching (es u) ≡ true)
    by true e k rest = own e (or_true (same_url u v) Rest k) rest
    by false e k rest = let found = rest k in (later (same_url u v) (has us u) found.0, found.1)

pub open_asked : (l : Loading) (u : Url) → has (open_asks l) u ≡ true → has l.asked u ≡ true
open_asked l u h = (among_open l.entries l.asked u h).0

pub open_unfetched : (l : Loading) (u : Url) → has (open_asks l) u ≡ true → l.entries u ≡ None
open_unfetched l u h = is_none (l.entries u) ((among_open l.entries l.asked u h).1)

-- ---- what is known, and what is told

abbrev pub refused_fetch : End Limit → Result (Unit {0}) (End Limit)
refused_fetch end = Err end

module _ (R S : List RecordParts) (t l : Loads) (maps : Maps) (named : ℕ → Url) (promises : Numbered) (errors errors_after : Errors) (u : Url) (o : OutcomeView) where
  abbrev Before : Loading
  Before = loading_of maps t R

  abbrev H : Host
  H = host_of named promises errors Before

  abbrev Left : Host
  Left = host_of named promises errors_after (loading_of maps l S)

  pub fetch_keeps : StaysOrderly → StaysWhole → GoesOn (imported R t maps conditions.Whole) → FitRecords l S → (HaveLoaded R → HaveLoaded S)
      → S ≡ records_with R u (found maps every_form u o) → Left ≡ after_fetch H u o → has (open_asks Before) u ≡ true → GoesOn (imported S l maps conditions.Whole)
  fetch_keeps orderly whole k fits loaded more fetched open_ask = record {
    fits = fits;
    orderly = subst (λ (h : Host). IsOrderly h.imports) (sym fetched) (orderly.fetched H u o k.orderly (open_asked Before u open_ask));
    whole = subst (λ (h : Host). IsWhole h.imports) (sym fetched) (whole.fetched H u o k.whole (open_unfetched Before u open_ask));
    loaded = loaded k.loaded;
    idle = subst (λ rs. (m : ℕ) → is_linking (status_of rs m) ≡ false) (sym more) (idle_more R u (found maps every_form u o) k.idle);
  }

  pub fetches_ok : (c : Condition) → is_whole c ≡ true → Left ≡ after_fetch H u o
      → FetchesBy (Ok tt) (after_fetch (host_of named promises errors (seen_of (imported R t maps c)).loading) u o)
      (host_of named promises errors_after (seen_of (imported S l maps c)).loading)
  fetches_ok conditions.Whole w e = e
  fetches_ok (conditions.Stopped limit) w e = cc
  fetches_ok conditions.Lost w e = cc

  stops_by : (end : End Limit) (after : Host) → StopsAt (refused_fetch end) (after_fetch H u o) → FetchesBy (Err end) (after_fetch H u o) after
  stops_by (ends.Fault limit) after f = f limit refl
  stops_by ends.Memory after f = tt

  pub fetches_err : (c : Condition) (end : End Limit) (after : Host) → is_whole c ≡ true → StopsAt (refused_fetch end) (after_fetch H u o)
      → FetchesBy (Err end) (after_fetch (host_of named promises errors (seen_of (imported R t maps c)).loading) u o) after
  fetches_err conditions.Whole end after w f = stops_by end after f
  fetches_err (conditions.Stopped limit) end after w f = cc
  fetches_err conditions.Lost end after w f = cc

-- the same are linked
pub linked_still : (c : Condition) (R S : List RecordParts) (t l : Loads) (maps : Maps) (u : Url) (f : Found) → is_whole c ≡ true → S ≡ records_with R u f
    → (seen_of (imported S l maps c)).linked ≡ (seen_of (imported R t maps c)).linked
linked_still conditions.Whole R S t l maps u f w e = ap linked_urls e ∙ linked_more R u f
linked_still (conditions.Stopped limit) R S t l maps u f w e = cc
linked_still conditions.Lost R S t l maps u f w e = cc
