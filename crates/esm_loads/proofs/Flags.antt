-- The flags of the visited places.
use Rattle.std.proofs.Common.{◌≡◌, ℕ, suc, zero, ◌<◌, ◌≤◌, Bool, true, false, List, [], ◌∷◌, ◌++◌, length, Some, refl, ap, subst, sym, ◌∙◌, arith, inl, inr, take, replicate, length-append, ◌+◌, add-one}
use Rattle.std.specs.Prelude.{◌⊎◌, ◌||◌, slice_get, slice_set, All, nat_eq}
use Rattle.std.specs.List.{list_any}
use Rattle.std.proofs.lemmas.List.{length-set}
use Rattle.std.proofs.lemmas.List.Elements.{All-head, All-tail, All-push, All-weaker}
use Rattle.esm_realm.proofs.Urls.{both_false, or_true}
use Rattle.esm_loads.specs.Inner.Flags.{AreFlags, HaveFlags}
use Rattle.esm_loads.proofs.Places.{set_places, some_is}

own : (k : ℕ) → nat_eq k k ≡ true
own k = grind arith

other : (k j : ℕ) → (k ≡ j → ⊥) → nat_eq k j ≡ false
other k j n = grind arith

-- past all visited places nothing was visited
pub none_past : (k n : ℕ) (visited : List ℕ) → n ≤ k → All (λ (j : ℕ). j < n) visited → list_any (nat_eq k) visited ≡ false
none_past k n [] l h = refl
none_past k n (j ∷ js) l h =
    let here : j < n = All-head (λ (j : ℕ). j < n) j js h in
    both_false (nat_eq k j) (list_any (nat_eq k) js) (other k j (λ e. omega (arith, e))) (none_past k n js l (All-tail (λ (j : ℕ). j < n) j js h))

pub any_push : (k j : ℕ) (js : List ℕ) → list_any (nat_eq k) (js ++ j ∷ []) ≡ (list_any (nat_eq k) js || nat_eq k j)
any_push k j [] = by (nat_eq k j)
  where
    by : (b : Bool) → (b || false) ≡ b
    by true = refl
    by false = refl
any_push k j (i ∷ js) = by (nat_eq k i) (any_push k j js)
  where
    by : (b : Bool) → list_any (nat_eq k) (js ++ j ∷ []) ≡ (list_any (nat_eq k) js || nat_eq k j) → (b || list_any (nat_eq k) (js ++ j ∷ [])) ≡ ((b || list_any (nat_eq k) js) || nat_eq k j)
    by true e = refl
    by false e = e

abbrev none_at : List Bool
none_at = []

get_more : (flags : List Bool) (n k : ℕ) (b : Bool) → slice_get (flags ++ replicate n false) k ≡ Some b → (slice_get flags k ≡ Some b) ⊎ ((length flags ≤ k) × (b ≡ false))
get_more [] zero k b e = cc
get_more [] (suc n) zero b e = inr (omega arith, back e)
  where
    back : Some false ≡ Some b → b ≡ false
    back e = cc
get_more [] (suc n) (suc k) b e = by (get_more [] n k b e)
  where
    none : (k : ℕ) → slice_get none_at k ≡ Some b → ⊥
    none zero e = cc
    none (suc k) e = cc

    by : (slice_get none_at k ≡ Some b) ⊎ ((0 ≤ k) × (b ≡ false)) → (slice_get none_at (suc k) ≡ Some b) ⊎ ((0 ≤ suc k) × (b ≡ false))
    by (inl f) = absurd (none k f)
    by (inr f) = inr (omega arith, f.1)
get_more (f ∷ flags) n zero b e = inl e
get_more (f ∷ flags) n (suc k) b e = by (get_more flags n k b e)
  where
    by : (slice_get flags k ≡ Some b) ⊎ ((length flags ≤ k) × (b ≡ false)) → (slice_get (f ∷ flags) (suc k) ≡ Some b) ⊎ ((length (f ∷ flags) ≤ suc k) × (b ≡ false))
    by (inl g) = inl g
    by (inr g) = let l : length flags ≤ k = g.0 in inr (omega arith, g.1)

pub take_long : (flags : List Bool) (n : ℕ) → length flags ≤ n → take n flags ≡ flags
take_long [] n l = by n
  where
    by : (n : ℕ) → take n none_at ≡ []
    by zero = refl
    by (suc n) = refl
take_long (f ∷ flags) zero l = absurd (omega arith)
take_long (f ∷ flags) (suc n) l = ap (λ fs. f ∷ fs) (take_long flags n (omega arith))

pub flags_more : (flags : List Bool) (visited : List ℕ) (n : ℕ) → AreFlags flags visited → AreFlags (flags ++ replicate n false) visited
flags_more flags visited n h = record {
  each = λ k b e. by k b (get_more flags n k b e);
  within = All-weaker (λ (k : ℕ). k < length flags) (λ (k : ℕ). k < length (flags ++ replicate n false)) wider visited h.within;
}
  where
    wider : (k : ℕ) → k < length flags → k < length (flags ++ replicate n false)
    wider k l = omega (arith, l, length-append flags (replicate n false))

    by : (k : ℕ) (b : Bool) → (slice_get flags k ≡ Some b) ⊎ ((length flags ≤ k) × (b ≡ false)) → list_any (nat_eq k) visited ≡ b
    by k b (inl f) = h.each k b f
    by k b (inr f) = none_past k (length flags) visited f.0 h.within ∙ sym f.1

pub flags_visit : (flags : List Bool) (visited : List ℕ) (place : ℕ) → place < length flags → AreFlags flags visited → AreFlags (slice_set flags place true) (visited ++ place ∷ [])
flags_visit flags visited place l h = record {
  each = λ k b e. any_push k place visited ∙ by k b (set_places flags place k true b e);
  within = subst (λ n. All (λ (k : ℕ). k < n) (visited ++ place ∷ [])) (sym (length-set flags place true)) (All-push (λ (k : ℕ). k < length flags) visited place h.within l);
}
  where
    right : (a b : Bool) → b ≡ false → (a || b) ≡ a
    right true b e = refl
    right false b e = e

    by : (k : ℕ) (b : Bool) → ((k ≡ place) × (b ≡ true)) ⊎ ((k ≡ place → ⊥) × (slice_get flags k ≡ Some b)) → (list_any (nat_eq k) visited || nat_eq k place) ≡ b
    by k b (inl f) = or_true (list_any (nat_eq k) visited) (nat_eq k place) (subst (λ k. nat_eq k place ≡ true) (sym f.0) (own place)) ∙ sym f.1
    by k b (inr f) = right (list_any (nat_eq k) visited) (nat_eq k place) (other k place f.0) ∙ h.each k b f.1

-- the flags where those that there are are right
pub right_flags : (flags : List Bool) (visited : List ℕ) → AreFlags flags visited → HaveFlags flags visited
right_flags flags visited h = record { right = λ some. h }

take_one : (ks : List ℕ) (i k : ℕ) → slice_get ks i ≡ Some k → take (suc i) ks ≡ take i ks ++ k ∷ []
take_one [] i k e = cc
take_one (j ∷ ks) zero k e = ap (λ j. j ∷ []) (some_is e)
take_one (j ∷ ks) (suc i) k e = ap (λ ks. j ∷ ks) (take_one ks i k e)

pub take_next : (ks : List ℕ) (i k : ℕ) → slice_get ks i ≡ Some k → take (i + 1) ks ≡ take i ks ++ k ∷ []
take_next ks i k e = rw add-one (take_one ks i k e)
