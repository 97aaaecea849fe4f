-- Pending requests as members of lists, and loads as places of a list.
use Rattle.std.proofs.Common.{◌≡◌, ℕ, zero, suc, true, false, List, [], ◌∷◌, ◌++◌, length, Some, Contains, refl, ap, subst, ◌∙◌, arith, inl, inr}
use Rattle.std.specs.Prelude.{◌⊎◌, ◌==◌, slice_get, slice_set}
use Rattle.std.specs.List.{list_any}
use Rattle.esm_base.specs.Urls.{Url, has, same_url}
use Rattle.esm_realm.proofs.Urls.{same_text, own_text, or_cases, or_left, or_true, or_false}
use Rattle.esm_loads.specs.Loading.{Loading, PendingRequest, load_of, is_of, has_pending}
use Rattle.esm_loads.specs.Whole.{IsPending, Awaits}

-- ---- members

pub contains_here : {A : Type 0} (x : A) (xs : List A) → Contains (x ∷ xs) x
contains_here x xs = (zero, omega arith, refl)

pub contains_there : {A : Type 0} (y : A) (xs : List A) (x : A) → Contains xs x → Contains (y ∷ xs) x
contains_there y xs x (k, below, is) = (suc k, omega (arith, below), is)

pub contains_cases : {A : Type 0} (y : A) (xs : List A) (x : A) → Contains (y ∷ xs) x → (y ≡ x) ⊎ Contains xs x
contains_cases y xs x (zero, below, is) = inl is
contains_cases y xs x (suc k, below, is) = inr (k, omega (arith, below), is)

pub contains_none : {A : Type 0} (x : A) → Contains [] x → ⊥
contains_none x (k, below, is) = omega (arith, below)

pub contains_more : {A : Type 0} (xs ys : List A) (x : A) → Contains xs x → Contains (xs ++ ys) x
contains_more [] ys x c = absurd (contains_none x c)
contains_more (y ∷ xs) ys x c = by (contains_cases y xs x c) (contains_more xs ys x)
  where
    by : (y ≡ x) ⊎ Contains xs x → (Contains xs x → Contains (xs ++ ys) x) → Contains (y ∷ (xs ++ ys)) x
    by (inl e) rest = subst (λ z. Contains (y ∷ (xs ++ ys)) z) e (contains_here y (xs ++ ys))
    by (inr k) rest = contains_there y (xs ++ ys) x (rest k)

pub contains_last : {A : Type 0} (xs : List A) (x : A) → Contains (xs ++ x ∷ []) x
contains_last [] x = contains_here x []
contains_last (y ∷ xs) x = contains_there y (xs ++ x ∷ []) x (contains_last xs x)

-- ---- the loads of requests

pub same_number : (m n : ℕ) → (m == n) ≡ true → m ≡ n
same_number m n h = grind (arith, h)

own_number : (m n : ℕ) → m ≡ n → (m == n) ≡ true
own_number m n h = grind (arith, h)

of_some : (s : ℕ) (rs : List PendingRequest) → list_any (is_of s) rs ≡ true → (a : PendingRequest) × (load_of a ≡ s) × Contains rs a
of_some s [] h = cc
of_some s (r ∷ rs) h = by (or_cases (load_of r == s) (list_any (is_of s) rs) h) (of_some s rs)
  where
    by : (load_of r == s) ≡ true ⊎ list_any (is_of s) rs ≡ true → (list_any (is_of s) rs ≡ true → (a : PendingRequest) × (load_of a ≡ s) × Contains rs a) → (a : PendingRequest) × (load_of a ≡ s) × Contains (r ∷ rs) a
    by (inl e) rest = (r, same_number (load_of r) s e, contains_here r rs)
    by (inr k) rest = let q = rest k in (q.0, q.1, contains_there r rs q.0 q.2)

of_none : (s : ℕ) (rs : List PendingRequest) (a : PendingRequest) → list_any (is_of s) rs ≡ false → load_of a ≡ s → Contains rs a → ⊥
of_none s [] a h e c = contains_none a c
of_none s (r ∷ rs) a h e c = by (contains_cases r rs a c) (λ k. of_none s rs a (or_false (load_of r == s) (list_any (is_of s) rs) h).1 e k)
  where
    by : (r ≡ a) ⊎ Contains rs a → (Contains rs a → ⊥) → ⊥
    by (inl same) rest =
        let is : load_of r ≡ s = ap load_of same ∙ e in
        let t : (load_of r == s) ≡ true = own_number (load_of r) s is in
        let f : (load_of r == s) ≡ false = (or_false (load_of r == s) (list_any (is_of s) rs) h).0 in
        cc
    by (inr k) rest = rest k

-- a load with a pending request awaits something
some_among : (P : Url → List PendingRequest) (us : List Url) (s : ℕ) → list_any (λ u. list_any (is_of s) (P u)) us ≡ true → (u : Url) × (a : PendingRequest) × (load_of a ≡ s) × (has us u ≡ true) × Contains (P u) a
some_among P [] s h = cc
some_among P (u ∷ us) s h = by (or_cases (list_any (is_of s) (P u)) (list_any (λ u. list_any (is_of s) (P u)) us) h) (some_among P us s)
  where
    Found : List Url → Type 0
    Found vs = (v : Url) × (a : PendingRequest) × (load_of a ≡ s) × (has vs v ≡ true) × Contains (P v) a

    by : list_any (is_of s) (P u) ≡ true ⊎ list_any (λ u. list_any (is_of s) (P u)) us ≡ true → (list_any (λ u. list_any (is_of s) (P u)) us ≡ true → Found us) → Found (u ∷ us)
    by (inl e) rest = let q = of_some s (P u) e in (u, q.0, q.1, or_left (same_url u u) (has us u) (own_text u), q.2)
    by (inr k) rest = let q = rest k in (q.0, q.1, q.2, or_true (same_url q.0 u) (has us q.0) q.3, q.4)

pub awaits_some : (l : Loading) (s : ℕ) → has_pending l s ≡ true → Awaits l s
awaits_some l s h = let q = some_among l.pending l.asked s h in record { url = q.0; pending_request = q.1; of_load = q.2; is = (q.3, q.4) }

none_among : (P : Url → List PendingRequest) (us : List Url) (s : ℕ) (u : Url) (a : PendingRequest) → list_any (λ u. list_any (is_of s) (P u)) us ≡ false → load_of a ≡ s → has us u ≡ true → Contains (P u) a → ⊥
none_among P [] s u a h e k c = cc
none_among P (v ∷ us) s u a h e k c = by (or_cases (same_url u v) (has us u) k) (λ k. none_among P us s u a (or_false (list_any (is_of s) (P v)) _ h).1 e k c)
  where
    by : (same_url u v ≡ true) ⊎ (has us u ≡ true) → (has us u ≡ true → ⊥) → ⊥
    by (inl same) rest = of_none s (P v) a (or_false (list_any (is_of s) (P v)) _ h).0 e (subst (λ w. Contains (P w) a) (same_text u v same) c)
    by (inr k) rest = rest k

pub awaits_none : (l : Loading) (s : ℕ) (u : Url) (a : PendingRequest) → has_pending l s ≡ false → load_of a ≡ s → IsPending l u a → ⊥
awaits_none l s u a h e p = none_among l.pending l.asked s u a h e p.0 p.1

-- ---- places of a list

pub set_other : {A : Type 0} (xs : List A) (k j : ℕ) (y : A) → (j ≡ k → ⊥) → slice_get (slice_set xs k y) j ≡ slice_get xs j
set_other [] k j y n = refl
set_other (x ∷ xs) zero zero y n = absurd (n refl)
set_other (x ∷ xs) zero (suc j) y n = refl
set_other (x ∷ xs) (suc k) zero y n = refl
set_other (x ∷ xs) (suc k) (suc j) y n = set_other xs k j y (λ e. n (ap suc e))

-- what stands at the place that was written is what was written
pub set_own : {A : Type 0} (xs : List A) (k : ℕ) (y z : A) → slice_get (slice_set xs k y) k ≡ Some z → z ≡ y
set_own [] k y z e = cc
set_own (x ∷ xs) zero y z e = cc
set_own (x ∷ xs) (suc k) y z e = set_own xs k y z e

-- behind a push an element is an old one or the new one
pub push_cases : {A : Type 0} (xs : List A) (y : A) (k : ℕ) (z : A) → slice_get (xs ++ y ∷ []) k ≡ Some z → ((k ≡ length xs) × (z ≡ y)) ⊎ (slice_get xs k ≡ Some z)
push_cases [] y zero z e = inl (refl, by e)
  where
    by : Some y ≡ Some z → z ≡ y
    by e = cc
push_cases [] y (suc k) z e = cc
push_cases (x ∷ xs) y zero z e = inr e
push_cases (x ∷ xs) y (suc k) z e = by (push_cases xs y k z e)
  where
    by : ((k ≡ length xs) × (z ≡ y)) ⊎ (slice_get xs k ≡ Some z) → ((suc k ≡ length (x ∷ xs)) × (z ≡ y)) ⊎ (slice_get xs k ≡ Some z)
    by (inl h) = inl (ap suc h.0, h.1)
    by (inr h) = inr h

pub equal_cases : (m n : ℕ) → (m ≡ n) ⊎ (m ≡ n → ⊥)
equal_cases zero zero = inl refl
equal_cases zero (suc n) = inr (λ e. omega (arith, e))
equal_cases (suc m) zero = inr (λ e. omega (arith, e))
equal_cases (suc m) (suc n) = by (equal_cases m n)
  where
    by : (m ≡ n) ⊎ (m ≡ n → ⊥) → (suc m ≡ suc n) ⊎ (suc m ≡ suc n → ⊥)
    by (inl e) = inl (ap suc e)
    by (inr n) = inr (λ e. n (omega (arith, e)))

pub length_set : {A : Type 0} (xs : List A) (k : ℕ) (y : A) → length (slice_set xs k y) ≡ length xs
length_set [] k y = refl
length_set (x ∷ xs) zero y = refl
length_set (x ∷ xs) (suc k) y = ap suc (length_set xs k y)
