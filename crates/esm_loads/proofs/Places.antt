-- Places in lists.
use Rattle.std.proofs.Common.{◌≡◌, ℕ, suc, zero, ◌<◌, true, false, Bool, cond, List, [], ◌∷◌, ◌++◌, length, map, Some, refl, ap, subst, sym, ◌∙◌, arith, inl, inr, get_or}
use Rattle.std.specs.Prelude.{◌⊎◌, ◌==◌, slice_get, slice_set, slice_index_or, All, Result, Ok, Err, OnOk, not}
use Rattle.std.proofs.lemmas.Option.{slice_get_within, get_or_from_slice_get}
use Rattle.std.proofs.lemmas.List.Elements.{All-head, All-tail, All-cons}
use Rattle.esm_realm.proofs.Urls.{not_true}

pub some_is : {A : Type 0} {x y : A} → Some x ≡ Some y → x ≡ y
some_is e = cc

pub index_get : {A : Type 0} (xs : List A) (k : ℕ) (x : A) → k < length xs → x ≡ get_or xs k x → slice_get xs k ≡ Some x
index_get [] k x l e = absurd (omega arith)
index_get (y ∷ xs) zero x l e = ap (λ z. Some z) (sym e)
index_get (y ∷ xs) (suc k) x l e = index_get xs k x (omega arith) e

pub get_within : {A : Type 0} (xs : List A) (k : ℕ) → k < length xs → (x : A) × (slice_get xs k ≡ Some x)
get_within [] k l = absurd (omega arith)
get_within (x ∷ xs) zero l = (x, refl)
get_within (x ∷ xs) (suc k) l = get_within xs k (omega arith)

pub set_get : {A : Type 0} (xs : List A) (k : ℕ) (x y : A) → slice_get xs k ≡ Some x → slice_get (slice_set xs k y) k ≡ Some y
set_get [] k x y e = cc
set_get (z ∷ xs) zero x y e = refl
set_get (z ∷ xs) (suc k) x y e = set_get xs k x y e

pub set_other : {A : Type 0} (xs : List A) (k j : ℕ) (y : A) → (j ≡ k → ⊥) → slice_get (slice_set xs k y) j ≡ slice_get xs j
set_other [] k j y n = refl
set_other (z ∷ xs) zero zero y n = absurd (n refl)
set_other (z ∷ xs) zero (suc j) y n = refl
set_other (z ∷ xs) (suc k) zero y n = refl
set_other (z ∷ xs) (suc k) (suc j) y n = set_other xs k j y (λ e. n (ap suc e))

-- what is found after a write: what was written, or what was there at another place
pub set_places : {A : Type 0} (xs : List A) (i k : ℕ) (y z : A) → slice_get (slice_set xs i y) k ≡ Some z → ((k ≡ i) × (z ≡ y)) ⊎ ((k ≡ i → ⊥) × (slice_get xs k ≡ Some z))
set_places [] i k y z e = cc
set_places (x ∷ xs) zero zero y z e = inl (refl, back e)
  where
    back : Some y ≡ Some z → z ≡ y
    back e = cc
set_places (x ∷ xs) zero (suc k) y z e = inr ((λ f. absurd (omega (arith, f))), e)
set_places (x ∷ xs) (suc i) zero y z e = inr ((λ f. absurd (omega (arith, f))), e)
set_places (x ∷ xs) (suc i) (suc k) y z e = by (set_places xs i k y z e)
  where
    by : ((k ≡ i) × (z ≡ y)) ⊎ ((k ≡ i → ⊥) × (slice_get xs k ≡ Some z)) → ((suc k ≡ suc i) × (z ≡ y)) ⊎ ((suc k ≡ suc i → ⊥) × (slice_get xs k ≡ Some z))
    by (inl f) = inl (ap suc f.0, f.1)
    by (inr f) = inr ((λ g. f.0 (omega (arith, g))), f.1)

pub get_push : {A : Type 0} (xs : List A) (x : A) (k : ℕ) (y : A) → slice_get (xs ++ x ∷ []) k ≡ Some y → (slice_get xs k ≡ Some y) ⊎ ((k ≡ length xs) × (y ≡ x))
get_push [] x zero y e = inr (refl, back e)
  where
    back : Some x ≡ Some y → y ≡ x
    back e = cc
get_push [] x (suc k) y e = cc
get_push (z ∷ xs) x zero y e = inl e
get_push (z ∷ xs) x (suc k) y e = by (get_push xs x k y e)
  where
    by : (slice_get xs k ≡ Some y) ⊎ ((k ≡ length xs) × (y ≡ x)) → (slice_get xs k ≡ Some y) ⊎ ((suc k ≡ length (z ∷ xs)) × (y ≡ x))
    by (inl f) = inl f
    by (inr f) = let g : k ≡ length xs = f.0 in inr (omega arith, f.1)

pub get_kept : {A : Type 0} (xs zs : List A) (k : ℕ) (y : A) → slice_get xs k ≡ Some y → slice_get (xs ++ zs) k ≡ Some y
get_kept [] zs k y e = cc
get_kept (x ∷ xs) zs zero y e = e
get_kept (x ∷ xs) zs (suc k) y e = get_kept xs zs k y e

pub kept_get : {A : Type 0} (xs ys : List A) (i : ℕ) → i < length xs → slice_get (xs ++ ys) i ≡ slice_get xs i
kept_get [] ys i l = absurd (omega arith)
kept_get (x ∷ xs) ys zero l = refl
kept_get (x ∷ xs) ys (suc i) l = kept_get xs ys i (omega arith)

pub get_last : {A : Type 0} (xs : List A) (x : A) → slice_get (xs ++ x ∷ []) (length xs) ≡ Some x
get_last [] x = refl
get_last (y ∷ xs) x = get_last xs x

pub set_last : {A : Type 0} (xs : List A) (x y : A) → slice_set (xs ++ x ∷ []) (length xs) y ≡ xs ++ y ∷ []
set_last [] x y = refl
set_last (z ∷ xs) x y = ap (λ xs. z ∷ xs) (set_last xs x y)

-- what an index gives
pub at_kept : {A : Type 0} (xs ys : List A) (k : ℕ) (d : A) → k < length xs → slice_index_or (xs ++ ys) k d ≡ slice_index_or xs k d
at_kept [] ys k d l = absurd (omega arith)
at_kept (x ∷ xs) ys zero d l = refl
at_kept (x ∷ xs) ys (suc k) d l = at_kept xs ys k d (omega arith)

pub at_last : {A : Type 0} (xs : List A) (x d : A) → slice_index_or (xs ++ x ∷ []) (length xs) d ≡ x
at_last [] x d = refl
at_last (y ∷ xs) x d = at_last xs x d

pub at_place : {A : Type 0} (xs : List A) (k : ℕ) (x d : A) → slice_get xs k ≡ Some x → slice_index_or xs k d ≡ x
at_place [] k x d e = cc
at_place (y ∷ xs) zero x d e = some_is e
at_place (y ∷ xs) (suc k) x d e = at_place xs k x d e

pub get_map : {A B : Type 0} (f : A → B) (xs : List A) (k : ℕ) (x : A) → slice_get xs k ≡ Some x → slice_get (map f xs) k ≡ Some (f x)
get_map f [] k x e = cc
get_map f (y ∷ xs) zero x e = ap (λ y. Some (f y)) (some_is e)
get_map f (y ∷ xs) (suc k) x e = get_map f xs k x e

pub set_map : {A B : Type 0} (f : A → B) (xs : List A) (k : ℕ) (y : A) → map f (slice_set xs k y) ≡ slice_set (map f xs) k (f y)
set_map f [] k y = refl
set_map f (x ∷ xs) zero y = refl
set_map f (x ∷ xs) (suc k) y = ap (λ ys. f x ∷ ys) (set_map f xs k y)

pub map_same : {A B : Type 0} (f g : A → B) (xs : List A) → All (λ x. f x ≡ g x) xs → map f xs ≡ map g xs
map_same f g [] h = refl
map_same f g (x ∷ xs) h =
    ap (λ y. y ∷ map f xs) (All-head (λ x. f x ≡ g x) x xs h) ∙ ap (λ ys. g x ∷ ys) (map_same f g xs (All-tail (λ x. f x ≡ g x) x xs h))

pub map_long : {A B : Type 0} (f : A → B) (xs : List A) → length (map f xs) ≡ length xs
map_long f [] = refl
map_long f (x ∷ xs) = let e = map_long f xs in omega (arith, e)

pub all_set : {A : Type 0} (P : A → Type 0) (xs : List A) (k : ℕ) (y : A) → All P xs → P y → All P (slice_set xs k y)
all_set P [] k y h p = h
all_set P (x ∷ xs) zero y h p = All-cons P y xs p (All-tail P x xs h)
all_set P (x ∷ xs) (suc k) y h p = All-cons P x (slice_set xs k y) (All-head P x xs h) (all_set P xs k y (All-tail P x xs h) p)

pub all_get : {A : Type 0} (P : A → Type 0) (xs : List A) (k : ℕ) (x : A) → All P xs → slice_get xs k ≡ Some x → P x
all_get P xs k x h e = subst P (get_or_from_slice_get xs k x x e) (h k x (slice_get_within xs k x e))

pub equal_places : (k j : ℕ) → (k == j) ≡ true → k ≡ j
equal_places k j e = grind arith

pub own_place : (k : ℕ) → (k == k) ≡ true
own_place k = grind arith

pub other_place : (k j : ℕ) → (k ≡ j → ⊥) → (k == j) ≡ false
other_place k j n = not_true (k == j) (λ e. n (equal_places k j e))

pub same_place : (j k : ℕ) → (j ≡ k) ⊎ (j ≡ k → ⊥)
same_place zero zero = inl refl
same_place zero (suc k) = inr (λ e. cc)
same_place (suc j) zero = inr (λ e. cc)
same_place (suc j) (suc k) = by (same_place j k)
  where
    back : suc j ≡ suc k → j ≡ k
    back e = cc

    by : (j ≡ k) ⊎ (j ≡ k → ⊥) → (suc j ≡ suc k) ⊎ (suc j ≡ suc k → ⊥)
    by (inl e) = inl (ap suc e)
    by (inr n) = inr (λ e. n (back e))

pub nothing : {A : Type 0} (xs : List A) → xs ++ [] ≡ xs
nothing [] = refl
nothing (x ∷ xs) = ap (λ ys. x ∷ ys) (nothing xs)

pub cond_ap : {A B : Type 0} (f : A → B) (b : Bool) (x y : A) → f (cond b x y) ≡ cond b (f x) (f y)
cond_ap f true x y = refl
cond_ap f false x y = refl

pub on_ok : {A B : Type 0} (r : Result A B) (P Q : Type 0) → OnOk r P → (P → Q) → OnOk r Q
on_ok (Ok v) P Q h f = f h
on_ok (Err e) P Q h f = tt

pub get_at : {A : Type 0} (xs : List A) (k : ℕ) (d : A) → k < length xs → slice_get xs k ≡ Some (slice_index_or xs k d)
get_at [] k d l = absurd (omega arith)
get_at (x ∷ xs) zero d l = refl
get_at (x ∷ xs) (suc k) d l = get_at xs k d (omega arith)

pub closed_by : (b : Bool) → true ≡ not b → b ≡ false
closed_by true e = cc
closed_by false e = refl

pub not_err : {A B C : Type 0} (a : A) (b : B) → Ok a ≡ Err b → C
not_err a b e = cc

abbrev pub IsErr : {A E : Type 0} → Result A E → E → Type 0
IsErr r y = r ≡ Err y

err_is : {A E : Type 0} (r : Result A E) (x y : E) → r ≡ Err x → r ≡ Err y → x ≡ y
err_is r x y e f = cc

-- the error of one result is that of another
pub same_err : {A B E : Type 0} (r : Result A E) (q : Result B E) (x y : E) → r ≡ Err x → q ≡ Err x → r ≡ Err y → q ≡ Err y
same_err r q x y e f g = f ∙ ap (λ z. Err z) (err_is r x y e g)
