-- The places that are kept for the targets of requests stay those of the targets.
use Rattle.std.proofs.Common.{◌≡◌, ℕ, suc, zero, ◌+◌, ◌<◌, ◌≤◌, Bool, true, false, cond, List, [], ◌∷◌, ◌++◌, length, map, Option, Some, None, refl, ap, subst, sym, ◌∙◌, arith, inl, inr, replicate, length-append}
use Rattle.std.specs.Prelude.{◌⊎◌, option_map, slice_get, slice_set}
use Rattle.std.proofs.lemmas.List.{length-set, length-replicate, map-append}
use Rattle.std.proofs.lemmas.Option.{slice_get_within}
use Rattle.esm_base.specs.Urls.{Url, same_url}
use Rattle.esm_realm.specs.Sound.{RecordParts}
use Rattle.esm_realm.proofs.Urls.{own_text}
use Rattle.esm_loads.specs.LoadsView.{urls_of, url_of_slot, place_in, place_by, before_linking}
use Rattle.esm_loads.specs.Inner.Urls.{UrlsView}
use Rattle.esm_loads.specs.Inner.Filling.{Fills}
use Rattle.esm_loads.specs.Inner.Steps.{Grown, place_or, with_asked}
use Rattle.esm_loads.specs.Inner.Targets.{AreKnown, IsKept, IsOneMore, IsTargetOf, KnowTargets, all_targets, record_targets, with_place, with_place_by}
use Rattle.esm_loads.specs.declared.data.Slot.{Slot}
use Rattle.esm_loads.specs.declared.loads.Loads.{Loads}
use Rattle.esm_loads.proofs.Places.{some_is, get_last, get_map, get_push, kept_get, map_long, set_map, set_places}
use Rattle.esm_loads.proofs.PlacesOfUrls.{place_push, some_map}
use Rattle.esm_loads.proofs.UrlIndices.{urls_many, urls_more}
use Rattle.esm_loads.proofs.FillFacts.{set_own}

-- ---- the asked URLs grow

pub place_kept : (us vs : List Url) (u : Url) (k : ℕ) → place_in us u ≡ Some k → place_in (us ++ vs) u ≡ Some k
place_kept [] vs u k e = cc
place_kept (v ∷ us) vs u k e = by (same_url u v) e (place_kept us vs u)
  where
    by : (b : Bool) → place_by b (place_in us u) ≡ Some k → ((j : ℕ) → place_in us u ≡ Some j → place_in (us ++ vs) u ≡ Some j) → place_by b (place_in (us ++ vs) u) ≡ Some k
    by true f later = f
    by false f later =
        let m = some_map (place_in us u) k f in
        ap (option_map suc) (later m.0 m.1) ∙ ap (λ n. Some n) (sym m.2)

last_place : (us : List Url) (u : Url) → place_in us u ≡ None → place_in (us ++ u ∷ []) u ≡ Some (length us)
last_place us u e = place_push us u u e ∙ by (same_url u u) (own_text u)
  where
    by : (b : Bool) → b ≡ true → cond b (Some (length us)) (place_in us u) ≡ Some (length us)
    by true e = refl
    by false e = cc

-- the place that a URL has once it was asked for
pub place_asked : (t : Loads) (u : Url) (at : Option ℕ) → place_in (urls_of t.urls.slots) u ≡ at → place_in (urls_of (with_asked t u at).urls.slots) u ≡ Some (place_or t at)
place_asked t u (Some k) e = e
place_asked t u None e =
    let ss = t.urls.slots in
    ap (λ us. place_in us u) (urls_more ss u) ∙ (last_place (urls_of ss) u e ∙ ap (λ n. Some n) (urls_many ss))

known_more : (us vs : List Url) (starts places : List ℕ) (T : List (List Url)) → AreKnown us starts places T → AreKnown (us ++ vs) starts places T
known_more us vs starts places T h = record {
  as_many = h.as_many;
  inside = h.inside;
  apart = h.apart;
  right = λ id i k u x y. place_kept us vs u k (h.right id i k u x y);
}

pub known_asked : (t : Loads) (u : Url) (at : Option ℕ) (R : List RecordParts) → KnowTargets t.urls R → KnowTargets (with_asked t u at).urls R
known_asked t u (Some p) R h = h
known_asked t u None R h = subst (λ us. AreKnown us t.urls.starts t.urls.places (all_targets R)) (sym (urls_more t.urls.slots u)) (known_more (urls_of t.urls.slots) (u ∷ []) t.urls.starts t.urls.places (all_targets R) h)

pub place_grown : (n s : ℕ) (t new : Loads) (u : Url) (k : ℕ) → Grown n s t new → place_in (urls_of t.urls.slots) u ≡ Some k → place_in (urls_of new.urls.slots) u ≡ Some k
place_grown n s t new u k g e =
    ap (λ ss. place_in (urls_of ss) u) g.slots
    ∙ (ap (λ us. place_in us u) (map-append url_of_slot t.urls.slots g.more) ∙ place_kept (urls_of t.urls.slots) (urls_of g.more) u k e)

-- ---- a place is kept

order : (m n : ℕ) → (m < n) ⊎ ((m ≡ n) ⊎ (n < m))
order zero zero = inr (inl refl)
order zero (suc n) = inl (omega arith)
order (suc m) zero = inr (inr (omega arith))
order (suc m) (suc n) = by (order m n)
  where
    by : (m < n) ⊎ ((m ≡ n) ⊎ (n < m)) → (suc m < suc n) ⊎ ((suc m ≡ suc n) ⊎ (suc n < suc m))
    by (inl l) = inl (omega (arith, l))
    by (inr (inl e)) = inr (inl (ap suc e))
    by (inr (inr l)) = inr (inr (omega (arith, l)))

module _ (us : List Url) (starts places : List ℕ) (T : List (List Url)) (h : AreKnown us starts places T) (id i : ℕ) (u : Url) (t : IsTargetOf T id i u) where
  -- no other request has its place there
  one_request : (first m j later : ℕ) (w : Url) → slice_get starts id ≡ Some first → slice_get starts m ≡ Some later → IsTargetOf T m j w → later + j ≡ first + i → (m ≡ id) × (j ≡ i)
  one_request first m j later w e s y g = by (order m id)
    where
      mine : i < length t.own
      mine = slice_get_within t.own i u t.at

      other : j < length y.own
      other = slice_get_within y.own j w y.at

      by : (m < id) ⊎ ((m ≡ id) ⊎ (id < m)) → (m ≡ id) × (j ≡ i)
      by (inl l) = let f = h.apart m id later first y.own l s e y.is in let o = other in absurd (omega (arith, f, o, g))
      by (inr (inl same)) =
          let f : later ≡ first = some_is (sym s ∙ (ap (slice_get starts) same ∙ e)) in
          let n : j ≡ i = omega (arith, f, g) in
          (same, n)
      by (inr (inr l)) = let f = h.apart id m first later t.own l e s t.is in let o = mine in absurd (omega (arith, f, o, g))

  one_target : (m j : ℕ) (w : Url) → IsTargetOf T m j w → m ≡ id → j ≡ i → w ≡ u
  one_target m j w y e f =
      let same : y.own ≡ t.own = some_is (sym y.is ∙ (ap (slice_get T) e ∙ t.is)) in
      some_is (sym y.at ∙ (ap (λ ts. slice_get ts j) same ∙ (ap (slice_get t.own) f ∙ t.at)))

  pub known_keep : (k : ℕ) → place_in us u ≡ Some k → AreKnown us starts (with_place starts places id i k) T
  known_keep k p = by (slice_get starts id) refl
    where
      by : (o : Option ℕ) → slice_get starts id ≡ o → AreKnown us starts (with_place_by o places i k) T
      by None e = h
      by (Some first) e = record {
        as_many = h.as_many;
        inside = λ m f own s a. let l = h.inside m f own s a in omega (arith, l, length-set places (first + i) k);
        apart = h.apart;
        right = λ m j q w x y. one m j q w x y (set_places places (first + i) (x.first + j) k q x.at);
      }
        where
          one : (m j q : ℕ) (w : Url) (x : IsKept starts (slice_set places (first + i) k) m j q) → IsTargetOf T m j w
              → ((x.first + j ≡ first + i) × (q ≡ k)) ⊎ ((x.first + j ≡ first + i → ⊥) × (slice_get places (x.first + j) ≡ Some q)) → place_in us w ≡ Some q
          one m j q w x y (inr g) = h.right m j q w (record { first = x.first; begins = x.begins; at = g.1; known = x.known }) y
          one m j q w x y (inl g) =
              let here = one_request first m j x.first w e x.begins y g.0 in
              ap (place_in us) (one_target m j w y here.0 here.1) ∙ (p ∙ ap (λ n. Some n) (sym g.1))

-- ---- one module more

none_known : (n j k : ℕ) → slice_get (replicate n 4096) j ≡ Some k → k < 4096 → ⊥
none_known zero j k e l = cc
none_known (suc n) zero k e l = let f : 4096 ≡ k = some_is e in omega (arith, f, l)
none_known (suc n) (suc j) k e l = none_known n j k e l

pub was_known : (ks : List ℕ) (n j k : ℕ) → slice_get (ks ++ replicate n 4096) j ≡ Some k → k < 4096 → slice_get ks j ≡ Some k
was_known [] n j k e l = absurd (none_known n j k e l)
was_known (q ∷ ks) n zero k e l = e
was_known (q ∷ ks) n (suc j) k e l = was_known ks n j k e l

module _ (us : List Url) (starts places : List ℕ) (T : List (List Url)) (ts : List Url) (h : AreKnown us starts places T) where
  abbrev more_places : List ℕ
  more_places = places ++ replicate (length ts) 4096

  abbrev more_starts : List ℕ
  more_starts = starts ++ length places ∷ []

  long : length more_places ≡ length places + length ts
  long = let e = length-append places (replicate (length ts) 4096) in let f = length-replicate {A = ℕ} (length ts) 4096 in omega (arith, e, f)

  -- a module that was there
  old_start : (id first : ℕ) → slice_get starts id ≡ Some first → id < length T
  old_start id first s = let l = slice_get_within starts id first s in omega (arith, l, h.as_many)

  old_targets : (id : ℕ) (own : List Url) → id < length T → slice_get (T ++ ts ∷ []) id ≡ Some own → slice_get T id ≡ Some own
  old_targets id own l e = sym (kept_get T (ts ∷ []) id l) ∙ e

  -- the new one
  new_targets : (id : ℕ) (own : List Url) → id ≡ length starts → slice_get (T ++ ts ∷ []) id ≡ Some own → own ≡ ts
  new_targets id own e f = by (get_push T ts id own f)
    where
      by : (slice_get T id ≡ Some own) ⊎ ((id ≡ length T) × (own ≡ ts)) → own ≡ ts
      by (inl g) = let l = slice_get_within T id own g in absurd (omega (arith, l, e, h.as_many))
      by (inr g) = g.1

  pub known_begin : AreKnown us more_starts more_places (T ++ ts ∷ [])
  known_begin = record {
    as_many = omega (arith, h.as_many, length-append starts (length places ∷ []), length-append T (ts ∷ []));
    inside = λ id first own s a. inside_by id first own a (get_push starts (length places) id first s);
    apart = λ id later first behind own l s b a. apart_by id later first behind own l a (get_push starts (length places) id first s) (get_push starts (length places) later behind b);
    right = λ id i k u x y. right_by id i k u x y (get_push starts (length places) id x.first x.begins);
  }
    where
      inside_by : (id first : ℕ) (own : List Url) → slice_get (T ++ ts ∷ []) id ≡ Some own → (slice_get starts id ≡ Some first) ⊎ ((id ≡ length starts) × (first ≡ length places)) → first + length own ≤ length more_places
      inside_by id first own a (inl s) = let l = h.inside id first own s (old_targets id own (old_start id first s) a) in let n = long in omega (arith, l, n)
      inside_by id first own a (inr s) = let same : length own ≡ length ts = ap length (new_targets id own s.0 a) in let n = long in omega (arith, same, n, s.1)

      apart_by : (id later first behind : ℕ) (own : List Url) → id < later → slice_get (T ++ ts ∷ []) id ≡ Some own
          → (slice_get starts id ≡ Some first) ⊎ ((id ≡ length starts) × (first ≡ length places)) → (slice_get starts later ≡ Some behind) ⊎ ((later ≡ length starts) × (behind ≡ length places)) → first + length own ≤ behind
      apart_by id later first behind own l a (inl s) (inl b) = h.apart id later first behind own l s b (old_targets id own (old_start id first s) a)
      apart_by id later first behind own l a (inl s) (inr b) = let n = h.inside id first own s (old_targets id own (old_start id first s) a) in omega (arith, n, b.1)
      apart_by id later first behind own l a (inr s) (inl b) = let n = slice_get_within starts later behind b in absurd (omega (arith, n, l, s.0))
      apart_by id later first behind own l a (inr s) (inr b) = absurd (omega (arith, l, s.0, b.0))

      right_by : (id i k : ℕ) (u : Url) (x : IsKept more_starts more_places id i k) → IsTargetOf (T ++ ts ∷ []) id i u → (slice_get starts id ≡ Some x.first) ⊎ ((id ≡ length starts) × (x.first ≡ length places)) → place_in us u ≡ Some k
      right_by id i k u x y (inl s) =
          h.right id i k u (record { first = x.first; begins = s; at = was_known places (length ts) (x.first + i) k x.at x.known; known = x.known })
          (record { own = y.own; is = old_targets id y.own (old_start id x.first s) y.is; at = y.at })
      right_by id i k u x y (inr s) =
          let l = slice_get_within places (x.first + i) k (was_known places (length ts) (x.first + i) k x.at x.known) in
          absurd (omega (arith, l, s.1))

-- ---- records

pub target_at : (R : List RecordParts) (id i : ℕ) (r : RecordParts) (u : Url) → slice_get R id ≡ Some r → slice_get r.targets i ≡ Some u → IsTargetOf (all_targets R) id i u
target_at R id i r u at e = record { own = r.targets; is = get_map record_targets R id r at; at = e }

-- a record that has the same targets
pub set_targets : (R : List RecordParts) (id : ℕ) (r q : RecordParts) → slice_get R id ≡ Some r → q.targets ≡ r.targets → all_targets (slice_set R id q) ≡ all_targets R
set_targets R id r q at same = set_map record_targets R id q ∙ (ap (slice_set (all_targets R) id) same ∙ set_own (all_targets R) id r.targets (get_map record_targets R id r at))

pub fills_targets : (ss : List Slot) (many id : ℕ) (r : RecordParts) (R M : List RecordParts) → slice_get R id ≡ Some r → Fills ss many id r R M → all_targets M ≡ all_targets R
fills_targets ss many id r R M at f = ap all_targets f.is ∙ set_targets R id r (record r { loaded = f.loaded }) at refl

pub targets_stale : (first R : List RecordParts) → map before_linking R ≡ map before_linking first → all_targets R ≡ all_targets first
targets_stale first R e = sym (by R) ∙ (ap all_targets e ∙ by first)
  where
    by : (R : List RecordParts) → all_targets (map before_linking R) ≡ all_targets R
    by [] = refl
    by (r ∷ R) = ap (λ ts. r.targets ∷ ts) (by R)

pub known_same : (us : List Url) (starts places : List ℕ) (R S : List RecordParts) → all_targets S ≡ all_targets R → AreKnown us starts places (all_targets R) → AreKnown us starts places (all_targets S)
known_same us starts places R S e h = subst (AreKnown us starts places) (sym e) h

-- ---- a record more

module _ (us : List Url) (starts places : List ℕ) (R S : List RecordParts) (h : AreKnown us starts places (all_targets R)) where
  starts_many : length starts ≡ length R
  starts_many = h.as_many ∙ map_long record_targets R

  pub known_there : IsOneMore R S → length S ≤ length starts → AreKnown us starts places (all_targets S)
  known_there (inl e) l = known_same us starts places R S (ap all_targets e) h
  known_there (inr x) l = let many = starts_many in absurd (omega (arith, l, many, ap length x.1, length-append R (x.0 ∷ [])))

  pub known_come : (many : ℕ) → IsOneMore R S → length starts < length S → ((r : RecordParts) → slice_get S (length starts) ≡ Some r → many ≡ length r.targets)
      → AreKnown us (starts ++ length places ∷ []) (places ++ replicate many 4096) (all_targets S)
  known_come many (inl e) l told = let n = starts_many in absurd (omega (arith, l, n, ap length e))
  known_come many (inr x) l told =
      let here : slice_get S (length starts) ≡ Some x.0 = ap (slice_get S) starts_many ∙ (ap (λ rs. slice_get rs (length R)) x.1 ∙ get_last R x.0) in
      let targets : all_targets S ≡ all_targets R ++ x.0.targets ∷ [] = ap all_targets x.1 ∙ map-append record_targets R (x.0 ∷ []) in
      subst (λ n. AreKnown us (starts ++ length places ∷ []) (places ++ replicate n 4096) (all_targets S)) (sym (told x.0 here))
      (subst (AreKnown us (starts ++ length places ∷ []) (places ++ replicate (length x.0.targets) 4096)) (sym targets) (known_begin us starts places (all_targets R) x.0.targets h))

pub rest_is : (old new : UrlsView) (starts places : List ℕ) → new ≡ record old { starts = starts; places = places } → new ≡ record old { starts = new.starts; places = new.places }
rest_is old new starts places e = subst (λ (v : UrlsView). v ≡ record old { starts = v.starts; places = v.places }) (sym e) refl
