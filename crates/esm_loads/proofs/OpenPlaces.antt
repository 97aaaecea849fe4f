-- The places of the open asks rise, and one of them is taken out where its URL is fetched.
use Rattle.std.proofs.Common.{◌≡◌, ℕ, suc, zero, ◌+◌, ◌<◌, ◌≤◌, Bool, true, false, List, [], ◌∷◌, ◌++◌, length, get_or, Some, refl, ap, sym, ◌∙◌, arith, add-zero}
use Rattle.std.specs.Prelude.{slice_get, slice_set}
use Rattle.std.specs.List.{remove}
use Rattle.std.specs.List.Sorted.{IsNonDecreasing}
use Rattle.std.proofs.lemmas.List.Sorted.{IsNonDecreasingBy-from_default}
use Rattle.esm_loads.specs.Inner.UrlIndex.{open_places, open_place_by}
use Rattle.esm_loads.specs.LoadsView.{is_open}
use Rattle.esm_loads.specs.Inner.Urls.{open_urls, open_by}
use Rattle.esm_loads.specs.declared.data.Slot.{Slot}

-- one more slot that isn't fetched
places_opened_from : (n : ℕ) (ss : List Slot) (s : Slot) → is_open s.state ≡ true → open_places n (ss ++ s ∷ []) ≡ open_places n ss ++ (n + length ss) ∷ []
places_opened_from n [] s o = ap (λ b. open_place_by b n []) o ∙ ap (λ k. k ∷ []) (omega arith)
places_opened_from n (r ∷ ss) s o = by (is_open r.state) (places_opened_from (suc n) ss s o)
  where
    longer : suc n + length ss ≡ n + length (r ∷ ss)
    longer = omega arith

    by : (b : Bool) → open_places (suc n) (ss ++ s ∷ []) ≡ open_places (suc n) ss ++ (suc n + length ss) ∷ []
        → open_place_by b n (open_places (suc n) (ss ++ s ∷ [])) ≡ open_place_by b n (open_places (suc n) ss) ++ (n + length (r ∷ ss)) ∷ []
    by true rest = ap (λ ks. n ∷ ks) (rest ∙ ap (λ k. open_places (suc n) ss ++ k ∷ []) longer)
    by false rest = rest ∙ ap (λ k. open_places (suc n) ss ++ k ∷ []) longer

pub places_opened : (ss : List Slot) (s : Slot) → is_open s.state ≡ true → open_places 0 (ss ++ s ∷ []) ≡ open_places 0 ss ++ length ss ∷ []
places_opened ss s o = places_opened_from 0 ss s o ∙ ap (λ k. open_places 0 ss ++ k ∷ []) (omega arith)

-- as many places as URLs
pub as_many : (n : ℕ) (ss : List Slot) → length (open_places n ss) ≡ length (open_urls ss)
as_many n [] = refl
as_many n (s ∷ ss) = by (is_open s.state) (as_many (suc n) ss)
  where
    by : (b : Bool) → length (open_places (suc n) ss) ≡ length (open_urls ss) → length (open_place_by b n (open_places (suc n) ss)) ≡ length (open_by b s.url (open_urls ss))
    by true rest = omega (arith, rest)
    by false rest = rest

-- each place is that of its slot or a later one
from_on : (n : ℕ) (ss : List Slot) (i k : ℕ) → slice_get (open_places n ss) i ≡ Some k → n ≤ k
from_on n [] i k e = cc
from_on n (s ∷ ss) i k e = by (is_open s.state) i e (λ j f. from_on (suc n) ss j k f)
  where
    by : (b : Bool) (i : ℕ) → slice_get (open_place_by b n (open_places (suc n) ss)) i ≡ Some k → ((j : ℕ) → slice_get (open_places (suc n) ss) j ≡ Some k → suc n ≤ k) → n ≤ k
    by true zero f rest = let same : n ≡ k = cc in omega (arith, same)
    by true (suc j) f rest = let h = rest j f in omega (arith, h)
    by false i f rest = let h = rest i f in omega (arith, h)

-- the place of a slot that isn't fetched is there
pub place_listed : (n : ℕ) (ss : List Slot) (k : ℕ) (s : Slot) → slice_get ss k ≡ Some s → is_open s.state ≡ true → (i : ℕ) × (slice_get (open_places n ss) i ≡ Some (n + k))
place_listed n [] k s e o = cc
place_listed n (r ∷ ss) zero s e o =
    let same : r ≡ s = cc in
    (0, ap (λ b. slice_get (open_place_by b n (open_places (suc n) ss)) 0) (ap (λ (s : Slot). is_open s.state) same ∙ o) ∙ ap (λ k. Some k) (sym (add-zero n)))
place_listed n (r ∷ ss) (suc k) s e o = by (is_open r.state) (place_listed (suc n) ss k s e o)
  where
    next : suc n + k ≡ n + suc k
    next = omega arith

    by : (b : Bool) → ((i : ℕ) × (slice_get (open_places (suc n) ss) i ≡ Some (suc n + k))) → (i : ℕ) × (slice_get (open_place_by b n (open_places (suc n) ss)) i ≡ Some (n + suc k))
    by true found = (suc found.0, found.1 ∙ ap (λ k. Some k) next)
    by false found = (found.0, found.1 ∙ ap (λ k. Some k) next)

-- what is taken out where a slot is fetched
pub record IsTaken (n : ℕ) (ss : List Slot) (k : ℕ) (t : Slot) (i : ℕ) : Type 0 where
  pub urls : remove (open_urls ss) i ≡ open_urls (slice_set ss k t)
  pub places : remove (open_places n ss) i ≡ open_places n (slice_set ss k t)

pub taken : (n : ℕ) (ss : List Slot) (k : ℕ) (s t : Slot) (i : ℕ) → slice_get ss k ≡ Some s → is_open s.state ≡ true → is_open t.state ≡ false → slice_get (open_places n ss) i ≡ Some (n + k) → IsTaken n ss k t i
taken n [] k s t i e o c at = cc
taken n (r ∷ ss) zero s t i e o c at =
    let same : r ≡ s = cc in
    let open_is : is_open r.state ≡ true = ap (λ (s : Slot). is_open s.state) same ∙ o in
    let first = here i (ap (λ b. slice_get (open_place_by b n (open_places (suc n) ss)) i) (sym open_is) ∙ at) in
    record {
      urls = ap (λ b. remove (open_by b r.url (open_urls ss)) i) open_is ∙ (ap (remove (r.url ∷ open_urls ss)) first ∙ ap (λ b. open_by b t.url (open_urls ss)) (sym c));
      places = ap (λ b. remove (open_place_by b n (open_places (suc n) ss)) i) open_is ∙ (ap (remove (n ∷ open_places (suc n) ss)) first ∙ ap (λ b. open_place_by b n (open_places (suc n) ss)) (sym c));
    }
  where
    here : (i : ℕ) → slice_get (n ∷ open_places (suc n) ss) i ≡ Some (n + zero) → i ≡ 0
    here zero e = refl
    here (suc j) e = let h = from_on (suc n) ss j (n + zero) e in absurd (omega (arith, h))
taken n (r ∷ ss) (suc k) s t i e o c at = let h = by (is_open r.state) i at (λ j f. taken (suc n) ss k s t j e o c f) in record { urls = h.0; places = h.1 }
  where
    back : (j : ℕ) → slice_get (open_places (suc n) ss) j ≡ Some (n + suc k) → slice_get (open_places (suc n) ss) j ≡ Some (suc n + k)
    back j f = f ∙ ap (λ k. Some k) (omega arith)

    by : (b : Bool) (i : ℕ) → slice_get (open_place_by b n (open_places (suc n) ss)) i ≡ Some (n + suc k)
        → ((j : ℕ) → slice_get (open_places (suc n) ss) j ≡ Some (suc n + k) → IsTaken (suc n) ss k t j)
        → (remove (open_by b r.url (open_urls ss)) i ≡ open_by b r.url (open_urls (slice_set ss k t))) × (remove (open_place_by b n (open_places (suc n) ss)) i ≡ open_place_by b n (open_places (suc n) (slice_set ss k t)))
    by true zero f rest = let same : n ≡ n + suc k = cc in absurd (omega (arith, same))
    by true (suc j) f rest = let h = rest j (back j f) in (ap (λ us. r.url ∷ us) h.urls, ap (λ ks. n ∷ ks) h.places)
    by false i f rest = let h = rest i (back i f) in (h.urls, h.places)

low : (n : ℕ) (ss : List Slot) (j : ℕ) → j < length (open_places n ss) → n ≤ get_or (open_places n ss) j 0
low n [] j l = absurd (omega arith)
low n (s ∷ ss) j l = by (is_open s.state) j l (low (suc n) ss)
  where
    by : (b : Bool) (j : ℕ) → j < length (open_place_by b n (open_places (suc n) ss)) → ((j : ℕ) → j < length (open_places (suc n) ss) → suc n ≤ get_or (open_places (suc n) ss) j 0) → n ≤ get_or (open_place_by b n (open_places (suc n) ss)) j 0
    by true zero l rest = omega arith
    by true (suc j) l rest = let h = rest j (omega arith) in omega (arith, h)
    by false j l rest = let h = rest j l in omega (arith, h)

rises : (n : ℕ) (ss : List Slot) (i j : ℕ) → i ≤ j → j < length (open_places n ss) → get_or (open_places n ss) i 0 ≤ get_or (open_places n ss) j 0
rises n [] i j h l = absurd (omega arith)
rises n (s ∷ ss) i j h l = by (is_open s.state) i j h l (rises (suc n) ss) (low (suc n) ss)
  where
    by : (b : Bool) (i j : ℕ) → i ≤ j → j < length (open_place_by b n (open_places (suc n) ss))
        → ((i j : ℕ) → i ≤ j → j < length (open_places (suc n) ss) → get_or (open_places (suc n) ss) i 0 ≤ get_or (open_places (suc n) ss) j 0)
        → ((j : ℕ) → j < length (open_places (suc n) ss) → suc n ≤ get_or (open_places (suc n) ss) j 0)
        → get_or (open_place_by b n (open_places (suc n) ss)) i 0 ≤ get_or (open_place_by b n (open_places (suc n) ss)) j 0
    by true zero zero h l rest above = omega arith
    by true zero (suc j) h l rest above = let f = above j (omega arith) in omega (arith, f)
    by true (suc i) zero h l rest above = absurd (omega arith)
    by true (suc i) (suc j) h l rest above = rest i j (omega arith) (omega arith)
    by false i j h l rest above = rest i j h l

pub places_rise : (ss : List Slot) → IsNonDecreasing (open_places 0 ss)
places_rise ss = IsNonDecreasingBy-from_default (λ n. n) (open_places 0 ss) 0 (rises 0 ss)
