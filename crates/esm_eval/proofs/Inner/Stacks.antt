-- Places of open modules.
use Rattle.std.proofs.Common.{◌≡◌, ℕ, zero, suc, ◌<◌, ◌≤◌, ◌-◌, false, List, [], ◌∷◌, ◌++◌, length, take, replicate, Some, None, refl, ap, subst, sym, ◌∙◌, inl, inr, arith, slice_get, nat_eq, add-one, ◌+◌}
use Rattle.std.specs.Prelude.{◌⊎◌, slice_set, slice_index_or}
use Rattle.std.proofs.lemmas.List.{take_all}
use Rattle.esm_base.specs.Lists.{is_in}
use Rattle.esm_realm.proofs.Urls.{not_true, not_both}
use Rattle.esm_realm.proofs.Lists.{either}
use Rattle.esm_realm.proofs.Numbers.{has_at, place_of, get_left, get_snoc}
use Rattle.esm_eval.specs.Inner.Stack.{HavePlaces, KeepsPlaces, StandOnce}
use Rattle.esm_eval.specs.Inner.Visit.{IsPlace}

some_is : {A : Type 0} {x y : A} → Some x ≡ Some y → x ≡ y
some_is e = cc

none_some : {A : Type 0} {x : A} → None ≡ Some x → ⊥
none_some e = cc

-- what a write leaves, at its place and at others
set_here : (ps : List ℕ) (x p : ℕ) → x < length ps → slice_get (slice_set ps x p) x ≡ Some p
set_here [] x p l = absurd (omega arith)
set_here (q ∷ ps) zero p l = refl
set_here (q ∷ ps) (suc x) p l = set_here ps x p (omega arith)

set_there : (ps : List ℕ) (x y p : ℕ) → (y ≡ x → ⊥) → slice_get (slice_set ps x p) y ≡ slice_get ps y
set_there [] x y p n = refl
set_there (q ∷ ps) zero zero p n = absurd (n refl)
set_there (q ∷ ps) zero (suc y) p n = refl
set_there (q ∷ ps) (suc x) zero p n = refl
set_there (q ∷ ps) (suc x) (suc y) p n = set_there ps x y p (λ e. n (ap suc e))

from_none : (xs ps : List ℕ) → xs ≡ [] → HavePlaces xs ps
from_none xs ps e k x at = absurd (none_some (subst (λ l. slice_get l k ≡ Some x) e at))

pub keeps_none : (xs ps : List ℕ) → xs ≡ [] → KeepsPlaces xs ps
keeps_none xs ps e = record {
  once = λ j k x at later. absurd (none_some (subst (λ l. slice_get l j ≡ Some x) e at));
  right = λ some. from_none xs ps e;
}

pub keeps_right : (xs ps : List ℕ) → StandOnce xs → HavePlaces xs ps → KeepsPlaces xs ps
keeps_right xs ps once h = record { once = once; right = λ some. h }

pub get_within : (xs : List ℕ) (k x : ℕ) → slice_get xs k ≡ Some x → k < length xs
get_within [] k x e = absurd (none_some e)
get_within (y ∷ ys) zero x e = omega arith
get_within (y ∷ ys) (suc k) x e = let l : k < length ys = get_within ys k x e in omega (arith, l)

-- what stands in front stands there, and before the end
taken : (p : ℕ) (xs : List ℕ) (k x : ℕ) → slice_get (take p xs) k ≡ Some x → slice_get xs k ≡ Some x
taken zero xs k x e = absurd (none_some e)
taken (suc p) [] k x e = absurd (none_some e)
taken (suc p) (y ∷ ys) zero x e = e
taken (suc p) (y ∷ ys) (suc k) x e = taken p ys k x e

taken_within : (p : ℕ) (xs : List ℕ) (k x : ℕ) → slice_get (take p xs) k ≡ Some x → k < p
taken_within zero xs k x e = absurd (none_some e)
taken_within (suc p) [] k x e = absurd (none_some e)
taken_within (suc p) (y ∷ ys) zero x e = omega arith
taken_within (suc p) (y ∷ ys) (suc k) x e = let l : k < p = taken_within p ys k x e in omega (arith, l)

take_one : (xs : List ℕ) (i x : ℕ) → slice_get xs i ≡ Some x → take (suc i) xs ≡ take i xs ++ x ∷ []
take_one [] i x e = absurd (none_some e)
take_one (y ∷ ys) zero x e = ap (λ z. z ∷ []) (some_is e)
take_one (y ∷ ys) (suc i) x e = ap (λ zs. y ∷ zs) (take_one ys i x e)

pub take_next : (xs : List ℕ) (i x : ℕ) → slice_get xs i ≡ Some x → take (i + 1) xs ≡ take i xs ++ x ∷ []
take_next xs i x e = rw add-one (take_one xs i x e)

pub take_count : (xs : List ℕ) (i : ℕ) → i < length xs → i ≡ length (take i xs)
take_count [] i l = absurd (omega (arith, l))
take_count (y ∷ ys) zero l = refl
take_count (y ∷ ys) (suc i) l = ap suc (take_count ys i (omega (arith, l)))

pub get_at : (xs : List ℕ) (k d : ℕ) → k < length xs → slice_get xs k ≡ Some (slice_index_or xs k d)
get_at [] k d l = absurd (omega (arith, l))
get_at (x ∷ xs) zero d l = refl
get_at (x ∷ xs) (suc k) d l = get_at xs k d (omega (arith, l))

less_or_not : (j i : ℕ) → (j < i) ⊎ (i ≤ j)
less_or_not j zero = inr (omega arith)
less_or_not zero (suc i) = inl (omega arith)
less_or_not (suc j) (suc i) = either (less_or_not j i) (λ l. inl (omega (arith, l))) (λ le. inr (omega (arith, le)))

module _ (xs : List ℕ) where
  -- what stands at a place doesn't stand before it
  pub first_is : StandOnce xs → (i x : ℕ) → slice_get xs i ≡ Some x → is_in nat_eq (take i xs) x ≡ false
  first_is once i x at = not_true (is_in nat_eq (take i xs) x) (λ here. let p = place_of (take i xs) x here in
      let before : p.place < i = taken_within i xs p.place x p.is in
      let same : p.place ≡ i = once p.place i x (taken i xs p.place x p.is) at in
      omega (arith, before, same))

  -- the first place at which x stands
  pub first_at : (x k : ℕ) → slice_get xs k ≡ Some x → ((j : ℕ) → j < k → slice_get xs j ≡ Some x → ⊥) → IsPlace xs x k
  first_at x k at none = inl (at, λ j later. either (less_or_not j k) (λ l. absurd (none j l later)) (λ le. le))

  -- nor does x stand at the next place
  pub none_before : (x y i : ℕ) → ((j : ℕ) → j < i → slice_get xs j ≡ Some x → ⊥) → slice_get xs i ≡ Some y → (y ≡ x → ⊥)
      → (j : ℕ) → j < i + 1 → slice_get xs j ≡ Some x → ⊥
  none_before x y i none at other j l here = either (less_or_not j i) (λ l. none j l here)
      (λ le. let same : j ≡ i = omega (arith, le, l) in other (some_is (sym at ∙ subst (λ k. slice_get xs k ≡ Some x) same here)))

  pub nowhere : (x n : ℕ) → length xs ≤ n → ((k : ℕ) → slice_get xs k ≡ Some x → ⊥) → IsPlace xs x n
  nowhere x n le never = inr (le, not_true (is_in nat_eq xs x) (λ i. let p = place_of xs x i in never p.place p.is))

module _ (xs ps : List ℕ) (h : HavePlaces xs ps) where
  -- there is more room
  pub wider : (n : ℕ) (new : List ℕ) → length ps ≤ n → new ≡ take n ps ++ replicate (n - length ps) 0 → HavePlaces xs new
  wider n new le e =
      let all : new ≡ ps ++ replicate (n - length ps) 0 = e ∙ ap (λ l. l ++ replicate (n - length ps) 0) (take_all n ps le) in
      λ k x at. ap (λ l. slice_get l x) all ∙ get_left ps (replicate (n - length ps) 0) x k (h k x at)

  -- the place that is kept is right
  pub found : (x k : ℕ) → slice_get ps x ≡ Some k → slice_get xs k ≡ Some x → IsPlace xs x k
  found x k g e = inl (e, λ j at. let same : k ≡ j = some_is (sym g ∙ h j x at) in omega (arith, same))

  -- x doesn't stand where it stood last
  pub astray : (x k : ℕ) → slice_get ps x ≡ Some k → (slice_get xs k ≡ Some x → ⊥) → (j : ℕ) → slice_get xs j ≡ Some x → ⊥
  astray x k g never j at = let same : k ≡ j = some_is (sym g ∙ h j x at) in never (subst (λ i. slice_get xs i ≡ Some x) (sym same) at)

  pub unknown : (x : ℕ) → slice_get ps x ≡ None → (j : ℕ) → slice_get xs j ≡ Some x → ⊥
  unknown x g j at = none_some (sym g ∙ h j x at)

  -- x is open, and wasn't
  pub pushed : (x p : ℕ) → x < length ps → is_in nat_eq xs x ≡ false → p ≡ length xs → HavePlaces (xs ++ x ∷ []) (slice_set ps x p)
  pushed x p room out len k y at = either (get_snoc xs x k y at)
      (λ e. set_there ps x y p (λ s. not_both (is_in nat_eq xs x) (has_at xs k x (subst (λ z. slice_get xs k ≡ Some z) s e)) out) ∙ h k y e)
      (λ e. ap (λ z. slice_get (slice_set ps x p) z) e.1 ∙ (set_here ps x p room ∙ ap Some (len ∙ sym e.0)))

  pub front : (p : ℕ) (ys : List ℕ) → ys ≡ take p xs → HavePlaces ys ps
  front p ys e k x at = h k x (taken p xs k x (subst (λ l. slice_get l k ≡ Some x) e at))

-- a module that wasn't open stands once too
push_once : (xs : List ℕ) (x : ℕ) → StandOnce xs → is_in nat_eq xs x ≡ false → StandOnce (xs ++ x ∷ [])
push_once xs x once out j k y at later = either (get_snoc xs x j y at)
    (λ e. either (get_snoc xs x k y later) (λ f. once j k y e f) (λ f. absurd (new j e f.1)))
    (λ e. either (get_snoc xs x k y later) (λ f. absurd (new k f e.1)) (λ f. e.0 ∙ sym f.0))
  where
    new : (i : ℕ) → slice_get xs i ≡ Some y → y ≡ x → ⊥
    new i e s = not_both (is_in nat_eq xs x) (has_at xs i x (subst (λ z. slice_get xs i ≡ Some z) s e)) out

-- x is open, and there is no table
pub push_few : (xs ps : List ℕ) (x : ℕ) → KeepsPlaces xs ps → is_in nat_eq xs x ≡ false → length ps ≡ 0 → KeepsPlaces (xs ++ x ∷ []) ps
push_few xs ps x h out none = record {
  once = push_once xs x h.once out;
  right = λ some. absurd (omega (arith, some, none));
}

pub push_right : (xs ps : List ℕ) (x : ℕ) → KeepsPlaces xs ps → is_in nat_eq xs x ≡ false → (new : List ℕ) → HavePlaces (xs ++ x ∷ []) new → KeepsPlaces (xs ++ x ∷ []) new
push_right xs ps x h out new right = keeps_right (xs ++ x ∷ []) new (push_once xs x h.once out) right

pub keeps_front : (xs ps : List ℕ) → KeepsPlaces xs ps → (p : ℕ) (ys : List ℕ) → ys ≡ take p xs → KeepsPlaces ys ps
keeps_front xs ps h p ys e = record {
  once = λ j k x at later. h.once j k x (taken p xs j x (subst (λ l. slice_get l j ≡ Some x) e at)) (taken p xs k x (subst (λ l. slice_get l k ≡ Some x) e later));
  right = λ some. front xs ps (h.right some) p ys e;
}
