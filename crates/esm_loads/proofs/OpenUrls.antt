-- Whether a URL is open, by the slot at which it is found.
use Rattle.std.proofs.Common.{◌≡◌, ℕ, ◌<◌, Bool, true, false, List, [], ◌∷◌, length, Some, None, refl, ap, sym, subst, ◌∙◌, arith}
use Rattle.std.specs.Prelude.{◌||◌, slice_get}
use Rattle.esm_base.specs.Urls.{Url, has, same_url}
use Rattle.esm_realm.specs.Laws.{AreDistinct}
use Rattle.esm_realm.proofs.Urls.{same_text, both_false, or_false, or_left}
use Rattle.esm_loads.specs.LoadsView.{urls_of, place_in, place_by, is_open}
use Rattle.esm_loads.specs.Inner.Urls.{open_urls, open_by}
use Rattle.esm_loads.specs.declared.data.Slot.{Slot}
use Rattle.esm_loads.proofs.Places.{get_within}
use Rattle.esm_loads.proofs.PlacesOfUrls.{place_none, place_some, some_map}
use Rattle.esm_loads.proofs.UrlIndices.{urls_many}

-- what isn't asked isn't open
not_open : (ss : List Slot) (u : Url) → has (urls_of ss) u ≡ false → has (open_urls ss) u ≡ false
not_open [] u h = refl
not_open (s ∷ ss) u h = by (is_open s.state) (not_open ss u)
  where
    by : (b : Bool) → (has (urls_of ss) u ≡ false → has (open_urls ss) u ≡ false) → has (open_by b s.url (open_urls ss)) u ≡ false
    by true rest = both_false (same_url u s.url) (has (open_urls ss) u) (or_false _ _ h).0 (rest (or_false _ _ h).1)
    by false rest = rest (or_false _ _ h).1

-- the slot of a URL tells whether it is open
open_at : (ss : List Slot) (u : Url) (k : ℕ) (s : Slot) → AreDistinct (urls_of ss) → place_in (urls_of ss) u ≡ Some k → slice_get ss k ≡ Some s → has (open_urls ss) u ≡ is_open s.state
open_at [] u k s d p at = cc
open_at (r ∷ ss) u k s d p at = by (same_url u r.url) refl p (is_open r.state) refl (λ j. open_at ss u j s d.1)
  where
    by : (b : Bool) → same_url u r.url ≡ b → place_by b (place_in (urls_of ss) u) ≡ Some k → (c : Bool) → is_open r.state ≡ c
        → ((j : ℕ) → place_in (urls_of ss) u ≡ Some j → slice_get ss j ≡ Some s → has (open_urls ss) u ≡ is_open s.state)
        → has (open_by c r.url (open_urls ss)) u ≡ is_open s.state
    by true g f c o rest =
        let first : k ≡ 0 = cc in
        let here = subst (λ (i : ℕ). slice_get (r ∷ ss) i ≡ Some s) first at in
        let same : r ≡ s = cc in
        let fresh : has (urls_of ss) u ≡ false = subst (λ v. has (urls_of ss) v ≡ false) (sym (same_text u r.url g)) d.0 in
        whole c g fresh ∙ (sym o ∙ ap (λ (t : Slot). is_open t.state) same)
      where
        whole : (c : Bool) → same_url u r.url ≡ true → has (urls_of ss) u ≡ false → has (open_by c r.url (open_urls ss)) u ≡ c
        whole true g fresh = or_left (same_url u r.url) (has (open_urls ss) u) g
        whole false g fresh = not_open ss u fresh
    by false g f c o rest =
        let m = some_map (place_in (urls_of ss) u) k f in
        later c g (rest m.0 m.1 (subst (λ (i : ℕ). slice_get (r ∷ ss) i ≡ Some s) m.2 at))
      where
        later : (c : Bool) → same_url u r.url ≡ false → has (open_urls ss) u ≡ is_open s.state → has (open_by c r.url (open_urls ss)) u ≡ is_open s.state
        later true g e = ap (λ b. b || has (open_urls ss) u) g ∙ e
        later false g e = e

pub found_inside : (ss : List Slot) (u : Url) (k : ℕ) → place_in (urls_of ss) u ≡ Some k → k < length ss
found_inside ss u k p = let w = (place_some (urls_of ss) u k p).within in let m = urls_many ss in omega (arith, w, m)

pub found_open : (ss : List Slot) (u : Url) (k : ℕ) (b : Bool) → AreDistinct (urls_of ss) → place_in (urls_of ss) u ≡ Some k → ((s : Slot) → slice_get ss k ≡ Some s → b ≡ is_open s.state) → b ≡ has (open_urls ss) u
found_open ss u k b d p told =
    let s = get_within ss k (found_inside ss u k p) in
    told s.0 s.1 ∙ sym (open_at ss u k s.0 d p s.1)

pub missing_open : (ss : List Slot) (u : Url) → place_in (urls_of ss) u ≡ None → has (open_urls ss) u ≡ false
missing_open ss u p = not_open ss u (place_none (urls_of ss) u p)
