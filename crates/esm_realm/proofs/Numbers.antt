-- Lists of numbers, and places in them.
use Rattle.std.proofs.Common.{◌≡◌, ℕ, suc, zero, ◌<◌, ◌≤◌, true, false, List, [], ◌∷◌, ◌++◌, length, drop, take, Some, refl, ap, subst, sym, arith, nat_eq, eq-eqb, eqb-true, inl, inr}
use Rattle.std.specs.Prelude.{◌⊎◌, ◌||◌, slice_get}
use Rattle.esm_base.specs.Lists.{is_in}
use Rattle.esm_realm.specs.Components.{opened_before, opened_from}
use Rattle.esm_realm.proofs.Urls.{not_both}
use Rattle.esm_realm.proofs.Lists as names

abbrev pub In : List ℕ → ℕ → Type 0
In xs y = is_in nat_eq xs y ≡ true

abbrev pub Out : List ℕ → ℕ → Type 0
Out xs y = is_in nat_eq xs y ≡ false

pub own : (x : ℕ) → nat_eq x x ≡ true
own x = eq-eqb x x refl

pub in_append : (a b : List ℕ) (y : ℕ) → is_in nat_eq (a ++ b) y ≡ (is_in nat_eq a y || is_in nat_eq b y)
in_append = names.in_append nat_eq own eqb-true

pub in_left : (a b : List ℕ) (y : ℕ) → In a y → In (a ++ b) y
in_left = names.in_left nat_eq own eqb-true

pub in_right : (a b : List ℕ) (y : ℕ) → In b y → In (a ++ b) y
in_right = names.in_right nat_eq own eqb-true

pub in_split : (a b : List ℕ) (y : ℕ) → In (a ++ b) y → In a y ⊎ In b y
in_split = names.in_split nat_eq own eqb-true

pub out_both : (a b : List ℕ) (y : ℕ) → Out a y → Out b y → Out (a ++ b) y
out_both = names.out_both nat_eq own eqb-true

pub in_first : (x : ℕ) (xs : List ℕ) → In (x ∷ xs) x
in_first = names.in_first nat_eq own eqb-true

pub in_later : (x : ℕ) (xs : List ℕ) (y : ℕ) → In xs y → In (x ∷ xs) y
in_later = names.in_later nat_eq own eqb-true

pub in_cons : (x : ℕ) (xs : List ℕ) (y : ℕ) → In (x ∷ xs) y → (y ≡ x) ⊎ In xs y
in_cons = names.in_cons nat_eq own eqb-true

pub clash : {C : Type 0} (xs : List ℕ) (y : ℕ) → In xs y → Out xs y → C
clash xs y h k = absurd (not_both (is_in nat_eq xs y) h k)

pub below_is : (old later : List ℕ) (x : ℕ) → Out old x → opened_before nat_eq (old ++ x ∷ later) x ≡ old
below_is = names.below_is nat_eq own eqb-true

pub from_is : (old later : List ℕ) (x : ℕ) → Out old x → opened_from nat_eq (old ++ x ∷ later) x ≡ x ∷ later
from_is = names.from_is nat_eq own eqb-true

pub has_at : (xs : List ℕ) (k t : ℕ) → slice_get xs k ≡ Some t → In xs t
has_at [] k t e = cc
has_at (u ∷ us) zero t e = let same : u ≡ t = cc in subst (λ z. In (u ∷ us) z) same (in_first u us)
has_at (u ∷ us) (suc k) t e = in_later u us t (has_at us k t e)

pub record Place (xs : List ℕ) (t : ℕ) : Type 0 where
  pub place : ℕ
  pub is : slice_get xs place ≡ Some t

pub place_of : (xs : List ℕ) (t : ℕ) → In xs t → Place xs t
place_of [] t h = cc
place_of (x ∷ xs) t h = by (in_cons x xs t h) (place_of xs t)
  where
    by : (t ≡ x) ⊎ In xs t → (In xs t → Place xs t) → Place (x ∷ xs) t
    by (inl e) rest = record { place = zero; is = ap Some (sym e) }
    by (inr k) rest = let p = rest k in record { place = suc p.place; is = p.is }

pub get_left : (xs ys : List ℕ) (k t : ℕ) → slice_get xs k ≡ Some t → slice_get (xs ++ ys) k ≡ Some t
get_left [] ys k t e = cc
get_left (x ∷ xs) ys zero t e = e
get_left (x ∷ xs) ys (suc k) t e = get_left xs ys k t e

pub get_back : (xs ys : List ℕ) (k t : ℕ) → k < length xs → slice_get (xs ++ ys) k ≡ Some t → slice_get xs k ≡ Some t
get_back [] ys k t lt e = absurd (omega arith)
get_back (x ∷ xs) ys zero t lt e = e
get_back (x ∷ xs) ys (suc k) t lt e = get_back xs ys k t (omega arith) e

pub record Behind (xs ys : List ℕ) (t : ℕ) : Type 0 where
  pub place : ℕ
  pub far : length xs ≤ place
  pub is : slice_get (xs ++ ys) place ≡ Some t

pub behind : (xs ys : List ℕ) (t : ℕ) → In ys t → Behind xs ys t
behind [] ys t h = let p = place_of ys t h in record { place = p.place; far = omega arith; is = p.is }
behind (x ∷ xs) ys t h = let b = behind xs ys t h in record { place = suc b.place; far = let le = b.far in omega (arith, le); is = b.is }

pub get_snoc : (xs : List ℕ) (x k y : ℕ) → slice_get (xs ++ x ∷ []) k ≡ Some y → (slice_get xs k ≡ Some y) ⊎ ((k ≡ length xs) × (y ≡ x))
get_snoc [] x zero y e = let same : y ≡ x = cc in inr (refl, same)
get_snoc [] x (suc k) y e = cc
get_snoc (u ∷ us) x zero y e = inl e
get_snoc (u ∷ us) x (suc k) y e = by (get_snoc us x k y e)
  where
    by : (slice_get us k ≡ Some y) ⊎ ((k ≡ length us) × (y ≡ x)) → (slice_get us k ≡ Some y) ⊎ ((suc k ≡ suc (length us)) × (y ≡ x))
    by (inl h) = inl h
    by (inr h) = inr (ap suc h.0, h.1)

pub long_left : (xs ys : List ℕ) → length xs ≤ length (xs ++ ys)
long_left [] ys = omega arith
long_left (x ∷ xs) ys = let le = long_left xs ys in omega arith

pub drop_none : (xs : List ℕ) → drop 0 xs ≡ xs
drop_none [] = refl
drop_none (x ∷ xs) = refl

pub drop_front : (xs ys : List ℕ) → drop (length xs) (xs ++ ys) ≡ ys
drop_front [] ys = drop_none ys
drop_front (x ∷ xs) ys = drop_front xs ys

pub take_front : (xs ys : List ℕ) → take (length xs) (xs ++ ys) ≡ xs
take_front [] [] = refl
take_front [] (y ∷ ys) = refl
take_front (x ∷ xs) ys = ap (λ zs. x ∷ zs) (take_front xs ys)
