-- What stands in a list at the place of a URL.
use mathlib.Core.Bool.{true≢false}
use Rattle.std.proofs.Common.{◌≡◌, ℕ, Bool, true, false, cond, List, [], ◌∷◌, ◌++◌, length, Option, Some, None, refl, ap, sym, ◌∙◌, arith}
use Rattle.std.specs.Prelude.{◌||◌, slice_get, slice_set, nat_eq}
use Rattle.esm_base.specs.Urls.{Url, same_url}
use Rattle.esm_realm.specs.Laws.{AreDistinct}
use Rattle.esm_realm.specs.Sound.{RecordParts}
use Rattle.esm_realm.proofs.Urls.{same_text, own_text}
use Rattle.esm_loads.specs.LoadsView.{url_of_slot, urls_of, place_in, get_by, at_url, id_in, id_by, id_under, has_id, modules_in, is_in}
use Rattle.esm_loads.specs.UrlTable.{with_url}
use Rattle.esm_loads.specs.Fits.{IsModuleAt, HaveRecords}
use Rattle.esm_loads.specs.Inner.Urls.{open_slot}
use Rattle.esm_loads.specs.declared.data.Slot.{Slot}
use Rattle.esm_loads.specs.declared.data.UrlState.{UrlState}
use Rattle.esm_loads.specs.declared.data.UrlState.TheVariants as states
use Rattle.esm_loads.proofs.Places.{some_is, get_map, get_last, kept_get, set_get, set_other}
use Rattle.esm_loads.proofs.PlacesOfUrls.{place_push, place_some, place_at}
use Rattle.esm_loads.proofs.UrlIndices.{urls_many, urls_more}

-- one more URL, with what stands at its place
pub at_push : {A : Type 0} (us : List Url) (u : Url) (xs : List A) (x : A) (v : Url) → place_in us u ≡ None → length xs ≡ length us → at_url (us ++ u ∷ []) (xs ++ x ∷ []) v ≡ cond (same_url v u) (Some x) (at_url us xs v)
at_push {A} us u xs x v fresh long = ap (get_by (xs ++ x ∷ [])) (place_push us u v fresh) ∙ by (same_url v u) (place_in us v) refl
  where
    by : (b : Bool) (o : Option ℕ) → place_in us v ≡ o → get_by (xs ++ x ∷ []) (cond b (Some (length us)) o) ≡ cond b (Some x) (get_by xs o)
    by true o e = ap (slice_get (xs ++ x ∷ [])) (sym long) ∙ get_last xs x
    by false None e = refl
    by false (Some k) e = let w = (place_some us v k e).within in kept_get xs (x ∷ []) k (omega (arith, w, long))

-- one URL has something else
pub at_set : {A : Type 0} (us : List Url) (u : Url) (xs : List A) (k : ℕ) (x y : A) (v : Url) → place_in us u ≡ Some k → slice_get xs k ≡ Some x → at_url us (slice_set xs k y) v ≡ cond (same_url v u) (Some y) (at_url us xs v)
at_set {A} us u xs k x y v place at = by (same_url v u) refl (place_in us v) refl
  where
    by : (b : Bool) → same_url v u ≡ b → (o : Option ℕ) → place_in us v ≡ o → get_by (slice_set xs k y) o ≡ cond b (Some y) (get_by xs o)
    by true e o f =
        let same : o ≡ Some k = sym f ∙ (ap (place_in us) (same_text v u e) ∙ place) in
        ap (get_by (slice_set xs k y)) same ∙ set_get xs k x y at
    by false e None f = refl
    by false e (Some j) f = set_other xs k j y (λ g. absurd (true≢false (sym (ap (λ w. same_url w u) (some_is (sym (place_some us v j f).at ∙ (ap (slice_get us) g ∙ (place_some us u k place).at))) ∙ own_text u) ∙ e)))

-- ---- slots

pub slot_url : (ss : List Slot) (k : ℕ) (s : Slot) → slice_get ss k ≡ Some s → slice_get (urls_of ss) k ≡ Some s.url
slot_url ss k s e = get_map url_of_slot ss k s e

pub own_place : (ss : List Slot) (k : ℕ) (s : Slot) → AreDistinct (urls_of ss) → slice_get ss k ≡ Some s → place_in (urls_of ss) s.url ≡ Some k
own_place ss k s d e = place_at (urls_of ss) k s.url d (slot_url ss k s e)

-- what stands under the URL of a place
pub at_own : {A : Type 0} (ss : List Slot) (xs : List A) (k : ℕ) (s : Slot) (x : A) → AreDistinct (urls_of ss) → slice_get ss k ≡ Some s → slice_get xs k ≡ Some x → at_url (urls_of ss) xs s.url ≡ Some x
at_own ss xs k s x d e f = ap (get_by xs) (own_place ss k s d e) ∙ f

-- what is found by a URL stands at its place
pub record IsFound (ss : List Slot) (u : Url) (s : Slot) : Type 0 where
  pub place : ℕ
  pub at : slice_get ss place ≡ Some s
  pub under : s.url ≡ u
  pub place_is : place_in (urls_of ss) u ≡ Some place

pub found : (ss : List Slot) (u : Url) (s : Slot) → at_url (urls_of ss) ss u ≡ Some s → IsFound ss u s
found ss u s e = by (place_in (urls_of ss) u) refl e
  where
    by : (o : Option ℕ) → place_in (urls_of ss) u ≡ o → get_by ss o ≡ Some s → IsFound ss u s
    by None f g = cc
    by (Some k) f g = record {
      place = k;
      at = g;
      under = some_is (sym (slot_url ss k s g) ∙ (place_some (urls_of ss) u k f).at);
      place_is = f;
    }

-- ---- ids

is_module : (state : UrlState) (id : ℕ) → id_in state ≡ Some id → state ≡ states.Module (record { 0 = id })
is_module states.Open id e = cc
is_module states.Failed id e = cc
is_module (states.Broken error) id e = cc
is_module (states.Module m) id e = let same : m.0 ≡ id = some_is e in ap (λ n. states.Module (record { 0 = n })) same

-- the module under a URL
pub record IsUnder (ss : List Slot) (u : Url) (id : ℕ) : Type 0 where
  pub place : ℕ
  pub module_is : IsModuleAt ss place id
  pub under : module_is.slot.url ≡ u

pub under : (ss : List Slot) (u : Url) (id : ℕ) → id_under ss u ≡ Some id → IsUnder ss u id
under ss u id e = by (at_url (urls_of ss) ss u) refl e
  where
    by : (o : Option Slot) → at_url (urls_of ss) ss u ≡ o → id_by o ≡ Some id → IsUnder ss u id
    by None f g = cc
    by (Some s) f g = let is = found ss u s f in record { place = is.place; module_is = record { slot = s; at = is.at; stands = is_module s.state id g }; under = is.under }

pub id_of_module : (ss : List Slot) (k id : ℕ) → AreDistinct (urls_of ss) → (m : IsModuleAt ss k id) → id_under ss m.slot.url ≡ Some id
id_of_module ss k id d m = ap id_by (at_own ss ss k m.slot m.slot d m.at m.at) ∙ ap id_in m.stands

-- two URLs of one module are one
pub one_url : (ss : List Slot) (R : List RecordParts) (u v : Url) (id : ℕ) → HaveRecords ss R → id_under ss u ≡ Some id → id_under ss v ≡ Some id → v ≡ u
one_url ss R u v id h e f =
    let a = under ss u id e in
    let b = under ss v id f in
    let p = h.kept a.place id a.module_is in
    let q = h.kept b.place id b.module_is in
    sym b.under ∙ (sym q.under ∙ (ap (λ (r : RecordParts). r.url) (some_is (sym q.is ∙ p.is)) ∙ (p.under ∙ a.under)))

-- ---- sets of modules

pub own_id : (n : ℕ) → nat_eq n n ≡ true
own_id n = grind arith

pub other_id : (n m : ℕ) → (n ≡ m → ⊥) → nat_eq n m ≡ false
other_id n m d = grind arith

pub in_push : (ids : List ℕ) (id n : ℕ) → is_in (ids ++ id ∷ []) n ≡ (is_in ids n || nat_eq n id)
in_push [] id n = by (nat_eq n id)
  where
    by : (b : Bool) → (b || false) ≡ b
    by true = refl
    by false = refl
in_push (i ∷ ids) id n = ap (λ b. nat_eq n i || b) (in_push ids id n) ∙ by (nat_eq n i) (is_in ids n) (nat_eq n id)
  where
    by : (a b c : Bool) → (a || (b || c)) ≡ ((a || b) || c)
    by true b c = refl
    by false b c = refl

pub or_right : (a b : Bool) → b ≡ true → (a || b) ≡ true
or_right true b e = refl
or_right false b e = e

pub or_nothing : (a b : Bool) → b ≡ false → (a || b) ≡ a
or_nothing true b e = refl
or_nothing false b e = e

-- a set with one more module
pub modules_push : (ss : List Slot) (R : List RecordParts) (ids : List ℕ) (id : ℕ) (x : Url) → HaveRecords ss R → id_under ss x ≡ Some id → modules_in ss (is_in (ids ++ id ∷ [])) ≡ with_url (modules_in ss (is_in ids)) x
modules_push ss R ids id x h e = λ i v. by v (same_url x v) refl (id_under ss v) refl i
  where
    by : (v : Url) (b : Bool) → same_url x v ≡ b → (o : Option ℕ) → id_under ss v ≡ o → has_id (is_in (ids ++ id ∷ [])) o ≡ cond b true (has_id (is_in ids) o)
    by v true f o g =
        let same : o ≡ Some id = sym g ∙ (ap (id_under ss) (sym (same_text x v f)) ∙ e) in
        ap (has_id (is_in (ids ++ id ∷ []))) same ∙ (in_push ids id id ∙ or_right (is_in ids id) (nat_eq id id) (own_id id))
    by v false f None g = refl
    by v false f (Some n) g =
        let apart : n ≡ id → ⊥ = λ k. absurd (true≢false (sym (ap (same_url x) (one_url ss R x v id h e (g ∙ ap (λ n. Some n) k)) ∙ own_text x) ∙ f)) in
        in_push ids id n ∙ or_nothing (is_in ids n) (nat_eq n id) (other_id n id apart)

pub modules_same : (ss : List Slot) (f g : ℕ → Bool) → ((n : ℕ) → f n ≡ g n) → modules_in ss f ≡ modules_in ss g
modules_same ss f g h = λ i v. by (id_under ss v) i
  where
    by : (o : Option ℕ) → has_id f o ≡ has_id g o
    by None = refl
    by (Some n) = h n

pub modules_or : (ss : List Slot) (f g h : ℕ → Bool) → ((n : ℕ) → f n ≡ (g n || h n)) → modules_in ss f ≡ (λ u. modules_in ss g u || modules_in ss h u)
modules_or ss f g h e = λ i v. by (id_under ss v) i
  where
    by : (o : Option ℕ) → has_id f o ≡ (has_id g o || has_id h o)
    by None = refl
    by (Some n) = e n

-- ---- one more URL that isn't fetched

pub id_open : (ss : List Slot) (u v : Url) → place_in (urls_of ss) u ≡ None → id_under (ss ++ open_slot u ∷ []) v ≡ id_under ss v
id_open ss u v fresh = ap (λ us. id_by (at_url us (ss ++ open_slot u ∷ []) v)) (urls_more ss u) ∙ (ap id_by (at_push (urls_of ss) u ss (open_slot u) v fresh (sym (urls_many ss))) ∙ by (same_url v u) refl)
  where
    by : (b : Bool) → same_url v u ≡ b → id_by (cond b (Some (open_slot u)) (at_url (urls_of ss) ss v)) ≡ id_under ss v
    by true e = sym (ap (id_under ss) (same_text v u e) ∙ ap (λ o. id_by (get_by ss o)) fresh)
    by false e = refl

pub modules_open : (ss : List Slot) (u : Url) (set : ℕ → Bool) → place_in (urls_of ss) u ≡ None → modules_in (ss ++ open_slot u ∷ []) set ≡ modules_in ss set
modules_open ss u set fresh = λ i v. has_id set (id_open ss u v fresh i)
