-- The first place of a name of a list, looked for one by one, and by an index.
use Rattle.std.proofs.Common.{◌≡◌, ℕ, zero, suc, ◌+◌, ◌<◌, Bool, true, false, List, [], ◌∷◌, length, map, refl, ap, ◌∙◌, arith, ◌⊎◌, inl, inr, get_or}
use Rattle.std.proofs.lemmas.List.{get_or_default}
use Rattle.std.proofs.lemmas.Bool.Decides.{eqb_tells}
use Rattle.std.proofs.Math.Dec.{eqb}
use Rattle.std.specs.Prelude.{Option, Some, None, option_map, if◌then◌else◌}
use Rattle.std.specs.Str.{bytes_eq}
use Rattle.esm_base.specs.TextMap.{TextMapView, at}
use Rattle.esm_env.specs.NamePlaces.{first_place, AreKept}

-- ---- one by one

abbrev pub NoneBefore : {A : Type 0} → (A → List ℕ) → List A → ℕ → List ℕ → Type 0
NoneBefore {A} name list at x = (i : ℕ) → i < at → (d : A) → bytes_eq (name (get_or list i d)) x ≡ false

earlier_or_here : (i at : ℕ) → i < at + 1 → (i < at) ⊎ (i ≡ at)
earlier_or_here i at h = by (eqb_tells i at)
  where
    by : ((eqb i at ≡ true) × (i ≡ at)) ⊎ ((eqb i at ≡ false) × (i ≡ at → ⊥)) → (i < at) ⊎ (i ≡ at)
    by (inl e) = inr e.1
    by (inr n) = inl (omega (arith, n.1, h))

pub none_more : {A : Type 0} (name : A → List ℕ) (list : List A) (at : ℕ) (x : List ℕ) (e : A) → at < length list → NoneBefore name list at x → bytes_eq (name (get_or list at e)) x ≡ false → NoneBefore name list (at + 1) x
none_more name list at x e less none here i lt d = by (earlier_or_here i at lt)
  where
    by : (i < at) ⊎ (i ≡ at) → bytes_eq (name (get_or list i d)) x ≡ false
    by (inl h) = none i h d
    by (inr h) = rw h (ap (λ y. bytes_eq (name y) x) (get_or_default list at d e less) ∙ here)

first_here : (b : Bool) (o : Option ℕ) → b ≡ true → Some 0 ≡ (if b then Some 0 else option_map suc o)
first_here b o e = rw e refl

first_later : (b : Bool) (o : Option ℕ) (at : ℕ) → b ≡ false → Some at ≡ o → Some (suc at) ≡ (if b then Some 0 else option_map suc o)
first_later b o at e h = rw (e, ← h) refl

pub place_first : {A : Type 0} (name : A → List ℕ) (list : List A) (at : ℕ) (x : List ℕ) (d : A) → at < length list → NoneBefore name list at x → bytes_eq (name (get_or list at d)) x ≡ true → Some at ≡ first_place (map name list) x
place_first name [] at x d less none here = absurd (omega (arith, less))
place_first name (y ∷ ys) zero x d less none here = first_here (bytes_eq (name y) x) (first_place (map name ys) x) here
place_first name (y ∷ ys) (suc at) x d less none here =
    first_later (bytes_eq (name y) x) (first_place (map name ys) x) at (none 0 (omega arith) d) (place_first name ys at x d (omega (arith, less)) (λ i lt d. none (suc i) (omega (arith, lt)) d) here)

first_none : (b : Bool) (o : Option ℕ) → b ≡ false → None ≡ o → None ≡ (if b then Some 0 else option_map suc o)
first_none b o e h = rw (e, ← h) refl

pub place_no : {A : Type 0} (name : A → List ℕ) (list : List A) (x : List ℕ) → NoneBefore name list (length list) x → None ≡ first_place (map name list) x
place_no name [] x none = refl
place_no name (y ∷ ys) x none =
    first_none (bytes_eq (name y) x) (first_place (map name ys) x) (none 0 (omega arith) y) (place_no name ys x (λ i lt d. none (suc i) (omega (arith, lt)) d))

-- ---- by an index

pub indexed_place : (kept : Option (TextMapView ℕ)) (places : TextMapView ℕ) (names : List (List ℕ)) (x : List ℕ) (found : Option ℕ) → AreKept kept names → kept ≡ Some places → found ≡ at x places → found ≡ first_place names x
indexed_place None places names x found right is e = absurd cc
indexed_place (Some there) places names x found right is e =
    let one : places ≡ there = cc in
    e ∙ ap (at x) one ∙ right x
