-- Members of lists of URLs.
use mathlib.Core.Bool.{true≢false}
use Rattle.std.proofs.Common.{◌≡◌, ◌≤◌, suc, Bool, true, false, List, [], ◌∷◌, length, refl, ap, subst, sym, ◌∙◌, arith, inl, inr}
use Rattle.std.specs.Prelude.{◌⊎◌, filter}
use Rattle.esm_base.specs.Urls.{Url, has, same_url}
use Rattle.esm_realm.specs.Laws.{AreDistinct}
use Rattle.esm_realm.proofs.Urls.{cases, same_text, or_true, or_left, or_cases, has_own, not_both, not_true}

pub has_filter : (p : Url → Bool) (xs : List Url) (u : Url) → has (filter p xs) u ≡ true → (has xs u ≡ true) × (p u ≡ true)
has_filter p [] u h = cc
has_filter p (x ∷ xs) u h = by (cases (p x)) (has_filter p xs u)
  where
    later : (has xs u ≡ true) × (p u ≡ true) → (has (x ∷ xs) u ≡ true) × (p u ≡ true)
    later r = (or_true (same_url u x) _ r.0, r.1)

    same : p x ≡ true → (same_url u x ≡ true) ⊎ (same_url u x ≡ false) → (has (filter p xs) u ≡ true → (has xs u ≡ true) × (p u ≡ true)) → has (x ∷ filter p xs) u ≡ true → (has (x ∷ xs) u ≡ true) × (p u ≡ true)
    same t (inl e) rest h = (or_left (same_url u x) (has xs u) e, subst (λ v. p v ≡ true) (sym (same_text u x e)) t)
    same t (inr f) rest h = later (rest (rw f at h))

    by : (p x ≡ true) ⊎ (p x ≡ false) → (has (filter p xs) u ≡ true → (has xs u ≡ true) × (p u ≡ true)) → (has (x ∷ xs) u ≡ true) × (p u ≡ true)
    by (inl t) rest = same t (cases (same_url u x)) rest (rw t at h)
    by (inr f) rest = later (rest (rw f at h))

pub filter_in : (p : Url → Bool) (xs : List Url) (u : Url) → has xs u ≡ true → p u ≡ true → has (filter p xs) u ≡ true
filter_in p [] u h t = h
filter_in p (x ∷ xs) u h t = by (p x) refl (or_cases (same_url u x) (has xs u) h) (λ k. filter_in p xs u k t)
  where
    by : (b : Bool) → p x ≡ b → (same_url u x ≡ true) ⊎ (has xs u ≡ true) → (has xs u ≡ true → has (filter p xs) u ≡ true) → has (filter p (x ∷ xs)) u ≡ true
    by true e (inl s) rest = rw e (or_left (same_url u x) _ s)
    by true e (inr k) rest = rw e (or_true (same_url u x) _ (rest k))
    by false e (inl s) rest = let k : p x ≡ true = subst (λ v. p v ≡ true) (same_text u x s) t in absurd (true≢false (sym k ∙ e))
    by false e (inr k) rest = rw e (rest k)

-- the list without the first place of x
abbrev drop_by : Bool → Url → List Url → List Url → List Url
drop_by true y ys rest = ys
drop_by false y ys rest = y ∷ rest

abbrev drop_one : Url → List Url → List Url
drop_one x [] = []
drop_one x (y ∷ ys) = drop_by (same_url x y) y ys (drop_one x ys)

drop_length : (x : Url) (ys : List Url) → has ys x ≡ true → suc (length (drop_one x ys)) ≡ length ys
drop_length x [] h = absurd (true≢false (sym h))
drop_length x (y ∷ ys) h = by (same_url x y) refl (drop_length x ys)
  where
    by : (b : Bool) → same_url x y ≡ b → (has ys x ≡ true → suc (length (drop_one x ys)) ≡ length ys) → suc (length (drop_by b y ys (drop_one x ys))) ≡ suc (length ys)
    by true e later = refl
    by false e later = ap suc (later (rw e at h))

drop_keeps : (x v : Url) (ys : List Url) → same_url v x ≡ false → has ys v ≡ true → has (drop_one x ys) v ≡ true
drop_keeps x v [] other h = h
drop_keeps x v (y ∷ ys) other h = by (same_url x y) refl (or_cases (same_url v y) (has ys v) h) (drop_keeps x v ys other)
  where
    by : (b : Bool) → same_url x y ≡ b → (same_url v y ≡ true) ⊎ (has ys v ≡ true) → (has ys v ≡ true → has (drop_one x ys) v ≡ true) → has (drop_by b y ys (drop_one x ys)) v ≡ true
    by true e (inl s) later = absurd (not_both (same_url v x) (subst (λ u. same_url v u ≡ true) (sym (same_text x y e)) s) other)
    by true e (inr r) later = r
    by false e (inl s) later = or_left (same_url v y) _ s
    by false e (inr r) later = or_true (same_url v y) _ (later r)

apart : (x v : Url) (xs : List Url) → has xs x ≡ false → has xs v ≡ true → same_url v x ≡ false
apart x v xs none h = not_true (same_url v x) (λ s. not_both (has xs x) (subst (λ u. has xs u ≡ true) (same_text v x s) h) none)

-- different members of a list are at most as many as it has
pub within : (xs ys : List Url) → AreDistinct xs → ((v : Url) → has xs v ≡ true → has ys v ≡ true) → length xs ≤ length ys
within [] ys d h = omega arith
within (x ∷ xs) ys d h =
    let there : has ys x ≡ true = h x (has_own x xs) in
    let less : length xs ≤ length (drop_one x ys) = within xs (drop_one x ys) d.1 (λ v e. drop_keeps x v ys (apart x v xs d.0 e) (h v (or_true (same_url v x) _ e))) in
    omega (arith, drop_length x ys there)
