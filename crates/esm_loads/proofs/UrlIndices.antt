-- The index of the asked URLs, as they grow and are fetched.
use Rattle.std.proofs.Common.{◌≡◌, ℕ, suc, zero, ◌+◌, ◌<◌, Bool, true, false, cond, List, [], ◌∷◌, ◌++◌, length, Option, Some, None, refl, ap, sym, subst, ◌∙◌, arith, length-append, zero-add}
use Rattle.std.specs.Prelude.{◌||◌, bytes_eq, option_map, position, slice_get, slice_set}
use Rattle.std.specs.List.{position_from, remove}
use Rattle.std.proofs.lemmas.Iterator.Adapters.{position_from-zero}
use Rattle.std.proofs.lemmas.List.{map-append, length-set}
use Rattle.esm_base.specs.Urls.{Url, has, same_url}
use Rattle.esm_realm.specs.Laws.{AreDistinct}
use Rattle.esm_realm.proofs.Urls.{same_text, not_both, distinct_append}
use Rattle.esm_loads.specs.LoadsView.{url_of_slot, urls_of, place_by, place_in, is_open}
use Rattle.esm_loads.specs.Inner.Urls.{open_by, open_urls, open_slot, Closes}
use Rattle.esm_loads.specs.Inner.UrlIndex.{AreIndexed}
use Rattle.esm_loads.specs.declared.data.Slot.{Slot}
use Rattle.esm_loads.specs.declared.asked_urls.OpenAsks.{OpenAsks}
use Rattle.esm_loads.proofs.PlacesOfUrls.{place_none}
use Rattle.esm_loads.proofs.OpenPlaces.{places_opened, taken}

pub urls_many : (ss : List Slot) → length (urls_of ss) ≡ length ss
urls_many [] = refl
urls_many (s ∷ ss) = let f = urls_many ss in omega (arith, f)

pub urls_more : (ss : List Slot) (u : Url) → urls_of (ss ++ open_slot u ∷ []) ≡ urls_of ss ++ u ∷ []
urls_more ss u = map-append url_of_slot ss (open_slot u ∷ [])

pub urls_set : (ss : List Slot) (k : ℕ) (s t : Slot) → slice_get ss k ≡ Some s → s.url ≡ t.url → urls_of (slice_set ss k t) ≡ urls_of ss
urls_set [] k s t e u = cc
urls_set (r ∷ ss) zero s t e u = let same : r ≡ s = cc in ap (λ v. v ∷ urls_of ss) (sym u ∙ ap (λ (s : Slot). s.url) (sym same))
urls_set (r ∷ ss) (suc k) s t e u = ap (λ us. r.url ∷ us) (urls_set ss k s t e u)

pub open_push : (ss : List Slot) (u : Url) → open_urls (ss ++ open_slot u ∷ []) ≡ open_urls ss ++ u ∷ []
open_push [] u = refl
open_push (r ∷ ss) u = by (is_open r.state) (open_push ss u)
  where
    by : (b : Bool) → open_urls (ss ++ open_slot u ∷ []) ≡ open_urls ss ++ u ∷ [] → open_by b r.url (open_urls (ss ++ open_slot u ∷ [])) ≡ open_by b r.url (open_urls ss) ++ u ∷ []
    by true f = ap (λ us. r.url ∷ us) f
    by false f = f

-- a URL that isn't there is none of those that are
fresh_apart : (us : List Url) (u y : Url) → has us u ≡ false → has us y ≡ true → has (u ∷ []) y ≡ false
fresh_apart us u y none there = by (same_url y u) refl
  where
    by : (b : Bool) → same_url y u ≡ b → (b || false) ≡ false
    by true e = absurd (not_both (has us y) there (subst (λ v. has us v ≡ false) (sym (same_text y u e)) none))
    by false e = refl

distinct_more : (us : List Url) (u : Url) → AreDistinct us → place_in us u ≡ None → AreDistinct (us ++ u ∷ [])
distinct_more us u d fresh = distinct_append us (u ∷ []) d (refl, tt) (λ y there. fresh_apart us u y (place_none us u fresh) there)

pub indexed_more : (old new : List Url) (ss : List Slot) (asks more : OpenAsks) (bytes : ℕ) (u : Url) → AreIndexed old ss asks bytes → place_in (urls_of ss) u ≡ None → length ss < 4096 → new ≡ old ++ u ∷ []
    → more.urls ≡ asks.urls ++ u ∷ [] → more.places ≡ asks.places ++ length ss ∷ [] → AreIndexed new (ss ++ open_slot u ∷ []) more bytes
indexed_more old new ss asks more bytes u h fresh room puts urls places =
    let us = urls_of ss in
    record {
      listed = puts ∙ (ap (λ l. l ++ u ∷ []) h.listed ∙ sym (urls_more ss u));
      distinct = subst AreDistinct (sym (urls_more ss u)) (distinct_more us u h.distinct fresh);
      few = omega (arith, length-append ss (open_slot u ∷ []));
      urls = urls ∙ (ap (λ us. us ++ u ∷ []) h.urls ∙ sym (open_push ss u));
      places = places ∙ (ap (λ ks. ks ++ length ss ∷ []) h.places ∙ sym (places_opened ss (open_slot u) refl));
      few_bytes = h.few_bytes;
    }

pub indexed_set : (table : List Url) (ss : List Slot) (asks more : OpenAsks) (bytes k : ℕ) (s t : Slot) → AreIndexed table ss asks bytes → slice_get ss k ≡ Some s → is_open s.state ≡ true → s.url ≡ t.url → is_open t.state ≡ false → Closes asks more k
    → AreIndexed table (slice_set ss k t) more bytes
indexed_set table ss asks more bytes k s t h at o u c closes =
    let here = ap (λ ks. slice_get ks closes.at) (sym h.places) ∙ (closes.found ∙ ap (λ k. Some k) (sym (zero-add k))) in
    let out = taken 0 ss k s t closes.at at o c here in
    record {
      listed = h.listed ∙ sym (urls_set ss k s t at u);
      distinct = subst AreDistinct (sym (urls_set ss k s t at u)) h.distinct;
      few = omega (arith, h.few, length-set ss k t);
      urls = closes.urls ∙ (ap (λ us. remove us closes.at) h.urls ∙ out.urls);
      places = closes.places ∙ (ap (λ ks. remove ks closes.at) h.places ∙ out.places);
      few_bytes = h.few_bytes;
    }

-- where a URL stands
place_from : (i : ℕ) (us : List Url) (u : Url) → position_from (bytes_eq u) i us ≡ option_map (λ k. i + k) (place_in us u)
place_from i [] u = refl
place_from i (v ∷ vs) u = by (same_url u v) (place_from (i + 1) vs u)
  where
    shift : (o : Option ℕ) → option_map (λ k. i + 1 + k) o ≡ option_map (λ k. i + k) (option_map suc o)
    shift None = refl
    shift (Some k) = let same : i + 1 + k ≡ i + suc k = omega arith in ap (λ n. Some n) same

    by : (b : Bool) → position_from (bytes_eq u) (i + 1) vs ≡ option_map (λ k. i + 1 + k) (place_in vs u) → cond b (Some i) (position_from (bytes_eq u) (i + 1) vs) ≡ option_map (λ k. i + k) (place_by b (place_in vs u))
    by true h = let same : i ≡ i + 0 = omega arith in ap (λ n. Some n) same
    by false h = h ∙ shift (place_in vs u)

pub place_is : (table us : List Url) (u : Url) → table ≡ us → position (bytes_eq u) table ≡ place_in us u
place_is table us u is = ap (position (bytes_eq u)) is ∙ (position_from-zero (bytes_eq u) us ∙ (place_from 0 us u ∙ zero_on (place_in us u)))
  where
    zero_on : (o : Option ℕ) → option_map (λ k. 0 + k) o ≡ o
    zero_on None = refl
    zero_on (Some k) = ap (λ n. Some n) (zero-add k)
