-- Where a callee stands among operands, and the function that it is.
use Rattle.std.proofs.Common.{◌≡◌, ◌<◌, ◌≤◌, ℕ, zero, suc, ◌+◌, ◌-◌, List, [], ◌∷◌, ◌++◌, length, take, drop, get_or, Option, Some, None, refl, ap, sym, ◌∙◌, arith}
use Rattle.std.specs.Prelude.{slice_get, false}
use Rattle.esm_values.specs.Operators.{look_of, is_func}
use Rattle.esm_values.specs.Code.{CodeValue, value_of, values_of}
use Rattle.esm_values.specs.declared.value.FuncId.{FuncId}
use Rattle.esm_values.specs.declared.value.Value.{Value}
use Rattle.esm_values.specs.declared.value.Value.TheVariants as values
use Rattle.esm_row_machine.specs.Entering.{func_in, IsCallee}
use Rattle.esm_row_machine.proofs.Told.{joined, some_same}

-- ---- lists

pub index_get : {A : Type 0} (xs : List A) (k : ℕ) (x : A) → k < length xs → x ≡ get_or xs k x → slice_get xs k ≡ Some x
index_get [] k x l e = absurd (omega (arith, l))
index_get (y ∷ xs) zero x l e = ap (λ z. Some z) (sym e)
index_get (y ∷ xs) (suc k) x l e = index_get xs k x (omega (arith, l)) e

-- a list by an element of it
pub record Split {A : Type 0} (xs : List A) (p : ℕ) : Type 0 where
  pub under : List A
  pub element : A
  pub over : List A
  pub whole : xs ≡ under ++ element ∷ over
  pub front : take p xs ≡ under
  pub back : drop (suc p) xs ≡ over
  pub long : length under ≡ p

pub split_at : {A : Type 0} (xs : List A) (p : ℕ) → p < length xs → Split xs p
split_at [] p h = absurd (omega (arith, h))
split_at (x ∷ xs) zero h = record { under = []; element = x; over = xs; whole = refl; front = refl; back = refl; long = refl }
split_at (x ∷ xs) (suc p) h =
    let s = split_at xs p (omega (arith, h)) in
    record {
      under = x ∷ s.under;
      element = s.element;
      over = s.over;
      whole = ap (λ ys. x ∷ ys) s.whole;
      front = ap (λ ys. x ∷ ys) s.front;
      back = s.back;
      long = ap suc s.long;
    }

pub at_seam : {A : Type 0} (xs : List A) (y : A) (ys : List A) → slice_get (xs ++ y ∷ ys) (length xs) ≡ Some y
at_seam [] y ys = refl
at_seam (x ∷ xs) y ys = at_seam xs y ys

-- two ways to split a list, with as many elements behind
pub record SameSplit {A : Type 0} (xs ys : List A) (x y : A) (us vs : List A) : Type 0 where
  pub front : xs ≡ ys
  pub element : x ≡ y
  pub back : us ≡ vs

pub same_split : {A : Type 0} (xs ys : List A) (x y : A) (us vs : List A) → xs ++ x ∷ us ≡ ys ++ y ∷ vs → length us ≡ length vs → SameSplit xs ys x y us vs
same_split [] [] x y us vs e l = record { front = refl; element = cc; back = cc }
same_split [] (b ∷ ys) x y us vs e l =
    let f : us ≡ ys ++ y ∷ vs = cc in
    let many : length us ≡ length ys + suc (length vs) = ap length f ∙ joined ys (y ∷ vs) in
    absurd (omega (arith, many, l))
same_split (a ∷ xs) [] x y us vs e l =
    let f : xs ++ x ∷ us ≡ vs = cc in
    let many : length xs + suc (length us) ≡ length vs = sym (joined xs (x ∷ us)) ∙ ap length f in
    absurd (omega (arith, many, l))
same_split (a ∷ xs) (b ∷ ys) x y us vs e l =
    let f : xs ++ x ∷ us ≡ ys ++ y ∷ vs = cc in
    let g : a ≡ b = cc in
    let r = same_split xs ys x y us vs f l in
    record { front = λ i. g i ∷ r.front i; element = r.element; back = r.back }

-- values by the values of the definitions that they are
pub record Unmapped (xs : List Value) (a : CodeValue) (us : List CodeValue) : Type 0 where
  pub under : List Value
  pub element : Value
  pub over : List Value
  pub whole : xs ≡ under ++ element ∷ over
  pub is : value_of element ≡ a
  pub many : length over ≡ length us

pub values_long : (xs : List Value) → length (values_of xs) ≡ length xs
values_long [] = refl
values_long (x ∷ xs) = ap suc (values_long xs)

pub unmapped : (xs : List Value) (bs : List CodeValue) (a : CodeValue) (us : List CodeValue) → values_of xs ≡ bs ++ a ∷ us → Unmapped xs a us
unmapped [] [] a us e = absurd (cc)
unmapped [] (b ∷ bs) a us e = absurd (cc)
unmapped (x ∷ xs) [] a us e =
    let f : values_of xs ≡ us = cc in
    record { under = []; element = x; over = xs; whole = refl; is = cc; many = sym (values_long xs) ∙ ap length f }
unmapped (x ∷ xs) (b ∷ bs) a us e =
    let f : values_of xs ≡ bs ++ a ∷ us = cc in
    let r = unmapped xs bs a us f in
    record { under = x ∷ r.under; element = r.element; over = r.over; whole = ap (λ ys. x ∷ ys) r.whole; is = r.is; many = r.many }

-- ---- the callee

none_in : (v : Value) → func_in v ≡ None → is_func (look_of (value_of v)) ≡ false
none_in values.Undefined h = refl
none_in (values.Bool b) h = refl
none_in (values.Text t) h = refl
none_in (values.Func id) h = absurd (cc)
none_in (values.Error e) h = refl
none_in (values.Namespace m) h = refl
none_in (values.Promise p) h = refl

some_in : (v : Value) (id : FuncId) → func_in v ≡ Some id → v ≡ values.Func id
some_in values.Undefined id h = absurd (cc)
some_in (values.Bool b) id h = absurd (cc)
some_in (values.Text t) id h = absurd (cc)
some_in (values.Func f) id h = ap (λ (q : FuncId). values.Func q) (some_same f id h)
some_in (values.Error e) id h = absurd (cc)
some_in (values.Namespace m) id h = absurd (cc)
some_in (values.Promise p) id h = absurd (cc)

module _ (xs : List Value) (n p : ℕ) (few : n < length xs) (at : p ≡ length xs - n - 1) (x : Value) (there : slice_get xs p ≡ Some x) where
  abbrev place : Split xs p
  place = split_at xs p (omega (arith, few, at))

  many : length place.over ≡ n
  many =
      let whole : length xs ≡ length place.under + suc (length place.over) = ap length place.whole ∙ joined place.under (place.element ∷ place.over) in
      omega (arith, whole, place.long, few, at)

  is_there : place.element ≡ x
  is_there =
      some_same place.element x
      (sym (at_seam place.under place.element place.over) ∙ ap (λ k. slice_get (place.under ++ place.element ∷ place.over) k) place.long ∙ ap (λ ys. slice_get ys p) (sym place.whole) ∙ there)

  -- what stands so many values below the end is the same
  same_there : (below : List Value) (f : Value) (us : List Value) → xs ≡ below ++ f ∷ us → length us ≡ n → x ≡ f
  same_there below f us e l =
      let whole : length xs ≡ length below + suc (length us) = ap length e ∙ joined below (f ∷ us) in
      let long : length below ≡ p = omega (arith, whole, l, few, at) in
      some_same x f (sym there ∙ ap (λ ys. slice_get ys p) e ∙ ap (λ k. slice_get (below ++ f ∷ us) k) (sym long) ∙ at_seam below f us)

  pub callee_is : (result : Option FuncId) → result ≡ func_in x → IsCallee xs n result
  callee_is (Some id) e = (place.under, place.over, place.whole ∙ ap (λ v. place.under ++ v ∷ place.over) (is_there ∙ some_in x id (sym e)), many)
  callee_is None e = λ below f us split l. ap (λ v. is_func (look_of (value_of v))) (sym (same_there below f us split l)) ∙ none_in x (sym e)

pub callee_none : (xs : List Value) (n : ℕ) → length xs ≤ n → IsCallee xs n None
callee_none xs n h = λ below f us split l.
    let whole : length xs ≡ length below + suc (length us) = ap length split ∙ joined below (f ∷ us) in
    absurd (omega (arith, whole, l, h))
