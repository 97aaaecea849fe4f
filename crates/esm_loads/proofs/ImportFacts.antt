-- The load of an import() and its root.
use Rattle.std.proofs.Common.{◌≡◌, ℕ, ◌<◌, ◌+◌, arith, Bool, true, false, List, length, map, Option, Some, None, refl, ap, sym, subst, ◌∙◌}
use Rattle.std.specs.Prelude.{◌==◌, ◌&&◌, slice_get, nat_le, not, Result, Ok, Err, OnOk}
use Rattle.esm_tree.specs.Syntax.{Item}
use Rattle.esm_base.specs.Urls.{Text, Url, IsCanonical, IsUsable, is_canonical}
use Rattle.esm_base.specs.Ends.{Gives}
use Rattle.esm_base.specs.declared.end.End.{End}
use Rattle.esm_base.specs.declared.end.End.TheVariants as ends
use Rattle.esm_base.specs.declared.limits.Limit.{Limit}
use Rattle.esm_base.specs.declared.limits.Limit.TheVariants.{L4}
use Rattle.esm_specifier.specs.Resolution.{resolution_of_specifier}
use Rattle.esm_specifier.specs.declared.fault.SpecFault.{SpecFault}
use Rattle.esm_realm.specs.ById as by_id
use Rattle.esm_realm.specs.Sound.{RecordParts, IsSound, IsSoundRecord, parts_of}
use Rattle.esm_realm.specs.declared.record.Record.{Record}
use Rattle.esm_import_map.specs.ImportMap.{Maps}
use Rattle.esm_values.specs.Errors.{Errors}
use Rattle.esm_promise.specs.Code.{Numbered}
use Rattle.esm_loads.specs.UrlTable.{TableEntry, specifier_error}
use Rattle.esm_loads.specs.Loading.{Root}
use Rattle.esm_loads.specs.Host.{Host, Answered, reject_new}
use Rattle.esm_loads.specs.ImportCall as import_call
use Rattle.esm_loads.specs.ImportCall.Imports.{limit, unresolved, asks, answers}
use Rattle.esm_loads.specs.LoadsView.{urls_of, url_at, place_in, get_by, is_open, entries_in, entry_at, entry_by, load_state}
use Rattle.esm_loads.specs.LoadsAsLoading.{loading_of}
use Rattle.esm_loads.specs.Fits.{FitRecords, IsFetching}
use Rattle.esm_loads.specs.Hosted.{host_of, stopped_host, IsImport, IsRooted}
use Rattle.esm_loads.specs.Inner.Asking.{AddsLoad, IsFetchedAs}
use Rattle.esm_loads.specs.declared.data.Slot.{Slot}
use Rattle.esm_loads.specs.declared.data.UrlState.{UrlState}
use Rattle.esm_loads.specs.declared.data.UrlState.TheVariants as states
use Rattle.esm_loads.specs.declared.data.Purpose.TheVariants as purposes
use Rattle.esm_loads.specs.declared.loads.Loads.{Loads}
use Rattle.esm_values.specs.declared.value.PromiseId.{PromiseId}
use Rattle.esm_loads.proofs.Places.{some_is, all_get, get_map, get_within, map_long, on_ok}
use Rattle.esm_loads.proofs.PlacesOfUrls.{place_some}
use Rattle.esm_loads.proofs.Lookups.{slot_url}
use Rattle.esm_loads.proofs.EnterFacts.{at_slot}
use Rattle.esm_loads.proofs.NextFacts.{has_entry}
use Rattle.esm_loads.proofs.PublicFacts.{added_is}

pub open_by : (b : Bool) → false ≡ not b → b ≡ true
open_by true e = refl
open_by false e = cc

-- a URL that isn't fetched has no entry
pub fetching_none : (trees : List (List Item)) (R : List RecordParts) (t : Loads) (u : Url) → IsFetching t u → entries_in trees R t.urls.slots u ≡ None
fetching_none trees R t u h = by (place_in (urls_of t.urls.slots) u) refl
  where
    slot_by : (s : Slot) → is_open s.state ≡ true → entry_at trees R s.state ≡ None
    slot_by s o = state_by s.state o
      where
        state_by : (state : UrlState) → is_open state ≡ true → entry_at trees R state ≡ None
        state_by states.Open o = refl
        state_by states.Failed o = cc
        state_by (states.Broken error) o = cc
        state_by (states.Module id) o = cc

    by : (o : Option ℕ) → place_in (urls_of t.urls.slots) u ≡ o → entry_by trees R (get_by t.urls.slots o) ≡ None
    by None e = refl
    by (Some k) e = one (slice_get t.urls.slots k) refl
      where
        one : (s : Option Slot) → slice_get t.urls.slots k ≡ s → entry_by trees R s ≡ None
        one None f = refl
        one (Some s) f = slot_by s (h k s e f)

-- a fetched URL has one
pub fetched_entry : (trees : List (List Item)) (R : List RecordParts) (t : Loads) (u : Url) (k : ℕ) → FitRecords t R → IsFetchedAs t.urls.slots u k → (e : TableEntry) × (entries_in trees R t.urls.slots u ≡ Some e)
fetched_entry trees R t u k f x =
    let e = has_entry trees R t.urls.slots k x.slot f.matching.have x.at x.fetched in
    (e.0, ap (λ o. entry_by trees R (get_by t.urls.slots o)) x.place ∙ (ap (entry_by trees R) x.at ∙ e.1))

pub fetched_url : (t : Loads) (u : Url) (k : ℕ) → IsFetchedAs t.urls.slots u k → url_at (urls_of t.urls.slots) k ≡ u
fetched_url t u k x = at_slot t.urls.slots k x.slot x.at ∙ some_is (sym (slot_url t.urls.slots k x.slot x.at) ∙ (place_some (urls_of t.urls.slots) u k x.place).at)

-- the host with the load
pub added_host : (named : ℕ → Url) (maps : Maps) (R : List RecordParts) (t new : Loads) (promise : PromiseId) (ps : Numbered) (errors : Errors) → AddsLoad t new (purposes.ForImport promise None)
    → host_of named ps errors (loading_of maps new R) ≡ import_call.add_load (host_of named ps errors (loading_of maps t R)) promise.0
added_host named maps R t new promise ps errors h = ap (host_of named ps errors) (added_is maps R t new (purposes.ForImport promise None) h)

pub number_is : (named : ℕ → Url) (maps : Maps) (R : List RecordParts) (t : Loads) (ps : Numbered) (errors : Errors) (s : ℕ) → s ≡ length t.loads.items → s ≡ import_call.next_load (host_of named ps errors (loading_of maps t R))
number_is named maps R t ps errors s e = e ∙ sym (map_long (load_state t.urls.slots) t.loads.items)

pub root_answered : (h one : Host) (promise load : ℕ) (u v : Url) (e : TableEntry) (after : Host) → one ≡ import_call.add_load h promise → load ≡ import_call.next_load h → v ≡ u → Answered one (Root load) v e after
    → Answered (import_call.add_load h promise) (Root (import_call.next_load h)) u e after
root_answered h one promise load u v e after is number url a =
    subst (λ one. Answered one (Root (import_call.next_load h)) u e after) is (subst (λ s. Answered one (Root s) u e after) number (subst (λ v. Answered one (Root load) v e after) url a))

pub has_room : (n : ℕ) → n < 4096 → (n == 4096) ≡ false
has_room n l = grind arith

pub is_full : (n : ℕ) → n ≡ 4096 → (n == 4096) ≡ true
is_full n e = grind arith

pub ok_always : {A B : Type 0} (r : Result A B) (P : Type 0) → P → OnOk r P
ok_always (Ok v) P p = p
ok_always (Err e) P p = tt

pub ok_three : {A B : Type 0} (r : Result A B) (P Q S T : Type 0) → OnOk r P → OnOk r Q → OnOk r S → (P → Q → S → T) → OnOk r T
ok_three (Ok v) P Q S T p q s f = f p q s
ok_three (Err e) P Q S T p q s f = tt

-- ---- the whole call

abbrev IsEnd : Type 0
IsEnd = Result (Unit {0}) (End Limit)

begun : (h : Host) (referrer : Url) (specifier : Text) (promise : ℕ) (after : Host) → after.imports.stopped ≡ None → import_call.Imports h referrer specifier promise after → import_call.BeginsImport h referrer specifier promise (Ok tt) after
begun h referrer specifier promise after on it = record { imports = it; ends = ap import_call.end_by (sym on) }

halted : (h : Host) (referrer : Url) (specifier : Text) (promise : ℕ) (after : Host) (l : Limit) → after.imports.stopped ≡ Some l → import_call.Imports h referrer specifier promise after → import_call.BeginsImport h referrer specifier promise (Err l) after
halted h referrer specifier promise after l stop it = record { imports = it; ends = ap import_call.end_by (sym stop) }

-- the specifier resolves
pub imports_by : (h one : Host) (referrer : Url) (specifier : Text) (promise : ℕ) (u : Url) (result : IsEnd) (after : Host) → one ≡ import_call.counted h → after.imports.stopped ≡ None → import_call.HasRoom h.imports → resolution_of_specifier h.imports.maps referrer specifier ≡ Ok u
    → IsRooted one promise u result after → IsImport h referrer specifier promise result after
imports_by h one referrer specifier promise u result after is on room to given = by (h.imports.entries u) refl
  where
    rooted : IsRooted (import_call.counted h) promise u result after
    rooted = subst (λ k. IsRooted k promise u result after) is given

    by : (o : Option TableEntry) → h.imports.entries u ≡ o → IsImport h referrer specifier promise result after
    by None e =
        let r = rooted.asks e in
        let it = asks u room to e in
        record {
          begins = on_ok result _ _ r.0 (λ is. begun h referrer specifier promise after on (subst (import_call.Imports h referrer specifier promise) (sym is) it));
          limit = λ l x. halted h referrer specifier promise (stopped_host after l) l refl (subst (import_call.Imports h referrer specifier promise) (sym (r.1 l x)) it);
        }
    by (Some x) e =
        let r = rooted.answers x e in
        record {
          begins = on_ok result _ _ r.0 (λ a. begun h referrer specifier promise after on (answers u x room to e a));
          limit = λ l y. halted h referrer specifier promise (stopped_host after l) l refl (answers u x room to e (r.1 l y));
        }

-- it doesn't
pub refused_by : (h one : Host) (referrer : Url) (specifier : Text) (promise : ℕ) (why : End SpecFault) (result : IsEnd) (after : Host) → one ≡ import_call.counted h → after.imports.stopped ≡ None → import_call.HasRoom h.imports
    → Gives {T = Url} (Err why) (resolution_of_specifier h.imports.maps referrer specifier) → ((f : SpecFault) → why ≡ ends.Fault f → OnOk result (after ≡ reject_new one promise (specifier_error referrer specifier f)))
    → (why ≡ ends.Memory → result ≡ Err ends.Memory) → ((l : Limit) → result ≡ Err (ends.Fault l) → ⊥) → IsImport h referrer specifier promise result after
refused_by h one referrer specifier promise why result after is on room told refuses memory never = record {
  begins = by why told refuses memory;
  limit = λ l e. absurd (never l e);
}
  where
    out : (result : IsEnd) (P : Type 0) → result ≡ Err ends.Memory → OnOk result P
    out (Ok u) P e = cc
    out (Err x) P e = tt

    by : (why : End SpecFault) → Gives {T = Url} (Err why) (resolution_of_specifier h.imports.maps referrer specifier) → ((f : SpecFault) → why ≡ ends.Fault f → OnOk result (after ≡ reject_new one promise (specifier_error referrer specifier f)))
        → (why ≡ ends.Memory → result ≡ Err ends.Memory) → OnOk result (import_call.BeginsImport h referrer specifier promise (Ok tt) after)
    by (ends.Fault f) told refuses memory = on_ok result _ _ (refuses f refl) (λ e. begun h referrer specifier promise after on (subst (import_call.Imports h referrer specifier promise) (sym (e ∙ ap (λ k. reject_new k promise (specifier_error referrer specifier f)) is)) (unresolved f room told)))
    by ends.Memory told refuses memory = out result _ (memory refl)

full : (h : Host) (referrer : Url) (specifier : Text) (promise : ℕ) → import_call.IsFull h.imports → import_call.Imports h referrer specifier promise (import_call.stop_imports h)
full h referrer specifier promise e = limit e

-- no more calls may be begun
pub full_by : (h : Host) (referrer : Url) (specifier : Text) (promise : ℕ) (result : IsEnd) (after : Host) → ((l : Limit) → result ≡ Err (ends.Fault l) → (l ≡ L4) × (h.imports.import_calls ≡ 4096)) → ((l : Limit) → result ≡ Err (ends.Fault l) → after ≡ h)
    → OnOk result ⊥ → IsImport h referrer specifier promise result after
full_by h referrer specifier promise result after told same none = record {
  begins = on_ok result _ _ none (λ e. absurd e);
  limit = λ l e.
      let x = told l e in
      let is : stopped_host after l ≡ import_call.stop_imports h = ap (λ k. stopped_host k l) (same l e) ∙ ap (stopped_host h) x.0 in
      halted h referrer specifier promise (stopped_host after l) l refl (subst (import_call.Imports h referrer specifier promise) (sym is) (full h referrer specifier promise (is_full h.imports.import_calls x.1)));
}

-- one call more is begun
pub called_fits : (t : Loads) (R : List RecordParts) → FitRecords t R → t.import_calls < 4096 → FitRecords (record t { import_calls = t.import_calls + 1 }) R
called_fits t R f room = record {
  joined = record {
    distinct = f.joined.distinct;
    usable = f.joined.usable;
    few = f.joined.few;
    queues = f.joined.queues;
    counts = f.joined.counts;
    requests = f.joined.requests;
    loads = f.joined.loads;
    last = f.joined.last;
  };
  matching = f.matching;
  known = f.known;
  purposes = f.purposes;
  few_calls = omega (arith, room);
}

-- ---- the referrer

pub url_is : (xs : List Record) (k : ℕ) (r : Record) → slice_get xs k ≡ Some r → by_id.url_at (map parts_of xs) k ≡ r.url
url_is xs k r e = ap by_id.url_by (get_map parts_of xs k r e)

pub canonical : (u : Url) → IsUsable u → IsCanonical u
canonical u h = by (nat_le (length u) 8192) (is_canonical u) h
  where
    by : (a b : Bool) → (a && b) ≡ true → b ≡ true
    by true b e = e
    by false b e = cc

-- the URL of a record is canonical
pub referrer_canonical : (R : List RecordParts) (k : ℕ) → IsSound R → k < length R → IsCanonical (by_id.url_at R k)
referrer_canonical R k sound inside =
    let r = get_within R k inside in
    canonical (by_id.url_at R k) (subst IsUsable (sym (ap by_id.url_by r.1)) (all_get (λ (r : RecordParts). IsSoundRecord r.url r.entries r.targets) R k r.0 sound.each r.1).url_is)
