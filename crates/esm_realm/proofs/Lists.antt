-- Lemmas on lists of modules.
use Rattle.std.proofs.Common.{◌≡◌, Bool, true, false, List, [], ◌∷◌, ◌++◌, refl, ap, subst, sym, ◌∙◌, inl, inr}
use Rattle.std.specs.Prelude.{◌⊎◌, ◌||◌}
use Rattle.std.specs.List.{list_any}
use Rattle.esm_base.specs.Lists.{is_in}
use Rattle.esm_realm.specs.Components.{opened_before, before_by, opened_from, onwards_by}
use Rattle.esm_realm.proofs.Urls.{cases, or_true, or_left, or_cases, or_false, both_false, not_both}

pub either : {A B C : Type 0} → A ⊎ B → (A → C) → (B → C) → C
either (inl a) f g = f a
either (inr b) f g = g b

-- where y stands in a list that is put together
pub split : {A : Type 0} (xs ys a b : List A) (y : A) → xs ++ ys ≡ a ++ y ∷ b → ((c : List A) × (xs ≡ a ++ y ∷ c)) ⊎ ((c : List A) × (a ≡ xs ++ c) × (ys ≡ c ++ y ∷ b))
split [] ys a b y e = inr (a, refl, e)
split (x ∷ xs) ys [] b y e = let same : x ≡ y = cc in inl (xs, ap (λ z. z ∷ xs) same)
split (x ∷ xs) ys (z ∷ a) b y e = by (split xs ys a b y cc)
  where
    same : x ≡ z
    same = cc

    by : ((c : List _) × (xs ≡ a ++ y ∷ c)) ⊎ ((c : List _) × (a ≡ xs ++ c) × (ys ≡ c ++ y ∷ b)) → ((c : List _) × (x ∷ xs ≡ (z ∷ a) ++ y ∷ c)) ⊎ ((c : List _) × (z ∷ a ≡ (x ∷ xs) ++ c) × (ys ≡ c ++ y ∷ b))
    by (inl r) = inl (r.0, λ i. same i ∷ r.1 i)
    by (inr r) = inr (r.0, λ i. sym same i ∷ r.1 i, r.2)

module _ {N : Type 0} (same : N → N → Bool) (own : (x : N) → same x x ≡ true) (equal : (x y : N) → same x y ≡ true → x ≡ y) where
  abbrev pub In : List N → N → Type 0
  In xs y = is_in same xs y ≡ true

  abbrev pub Out : List N → N → Type 0
  Out xs y = is_in same xs y ≡ false

  pub in_append : (a b : List N) (y : N) → is_in same (a ++ b) y ≡ (is_in same a y || is_in same b y)
  in_append [] b y = refl
  in_append (x ∷ a) b y = by (same y x) (in_append a b y)
    where
      by : (s : Bool) → is_in same (a ++ b) y ≡ (is_in same a y || is_in same b y) → (s || is_in same (a ++ b) y) ≡ ((s || is_in same a y) || is_in same b y)
      by true e = refl
      by false e = e

  pub in_left : (a b : List N) (y : N) → In a y → In (a ++ b) y
  in_left a b y h = in_append a b y ∙ or_left (is_in same a y) _ h

  pub in_right : (a b : List N) (y : N) → In b y → In (a ++ b) y
  in_right a b y h = in_append a b y ∙ or_true (is_in same a y) _ h

  pub in_split : (a b : List N) (y : N) → In (a ++ b) y → In a y ⊎ In b y
  in_split a b y h = or_cases (is_in same a y) (is_in same b y) (sym (in_append a b y) ∙ h)

  pub out_both : (a b : List N) (y : N) → Out a y → Out b y → Out (a ++ b) y
  out_both a b y h k = in_append a b y ∙ both_false (is_in same a y) (is_in same b y) h k

  pub out_parts : (a b : List N) (y : N) → Out (a ++ b) y → Out a y × Out b y
  out_parts a b y h = or_false (is_in same a y) (is_in same b y) (sym (in_append a b y) ∙ h)

  pub in_first : (x : N) (xs : List N) → In (x ∷ xs) x
  in_first x xs = or_left (same x x) _ (own x)

  pub in_later : (x : N) (xs : List N) (y : N) → In xs y → In (x ∷ xs) y
  in_later x xs y h = or_true (same y x) _ h

  pub in_cons : (x : N) (xs : List N) (y : N) → In (x ∷ xs) y → (y ≡ x) ⊎ In xs y
  in_cons x xs y h = by (or_cases (same y x) (is_in same xs y) h)
    where
      by : (same y x ≡ true) ⊎ In xs y → (y ≡ x) ⊎ In xs y
      by (inl e) = inl (equal y x e)
      by (inr k) = inr k

  pub clash : {C : Type 0} (xs : List N) (y : N) → In xs y → Out xs y → C
  clash xs y h k = absurd (not_both (is_in same xs y) h k)

  -- a member with the property
  pub any_found : (p : N → Bool) (xs : List N) → list_any p xs ≡ true → (x : N) × In xs x × (p x ≡ true)
  any_found p [] h = cc
  any_found p (x ∷ xs) h = by (or_cases (p x) (list_any p xs) h) (any_found p xs)
    where
      by : (p x ≡ true) ⊎ (list_any p xs ≡ true) → (list_any p xs ≡ true → (y : N) × In xs y × (p y ≡ true)) → (y : N) × In (x ∷ xs) y × (p y ≡ true)
      by (inl e) rest = (x, in_first x xs, e)
      by (inr k) rest = let r = rest k in (r.0, in_later x xs r.0 r.1, r.2)

  pub none_found : (p : N → Bool) (xs : List N) → list_any p xs ≡ false → (y : N) → In xs y → p y ≡ false
  none_found p [] h y k = cc
  none_found p (x ∷ xs) h y k = by (or_false (p x) (list_any p xs) h) (in_cons x xs y k) (none_found p xs)
    where
      by : (p x ≡ false) × (list_any p xs ≡ false) → (y ≡ x) ⊎ In xs y → (list_any p xs ≡ false → (z : N) → In xs z → p z ≡ false) → p y ≡ false
      by h (inl e) rest = ap p e ∙ h.0
      by h (inr k) rest = rest h.1 y k

  pub below_is : (old later : List N) (x : N) → Out old x → opened_before same (old ++ x ∷ later) x ≡ old
  below_is [] later x h = ap (λ b. before_by same b x (opened_before same later x)) (own x)
  below_is (y ∷ old) later x h = ap (λ b. before_by same b y (opened_before same (old ++ x ∷ later) x)) (other (cases (same y x))) ∙ ap (λ ys. y ∷ ys) (below_is old later x (or_false (same x y) _ h).1)
    where
      other : (same y x ≡ true) ⊎ (same y x ≡ false) → same y x ≡ false
      other (inl e) = absurd (not_both (same x y) (subst (λ z. same x z ≡ true) (sym (equal y x e)) (own x)) (or_false (same x y) _ h).0)
      other (inr e) = e

  pub from_is : (old later : List N) (x : N) → Out old x → opened_from same (old ++ x ∷ later) x ≡ x ∷ later
  from_is [] later x h = ap (λ b. onwards_by same b (x ∷ later) (opened_from same later x)) (own x)
  from_is (y ∷ old) later x h = ap (λ b. onwards_by same b (y ∷ (old ++ x ∷ later)) (opened_from same (old ++ x ∷ later) x)) (other (cases (same y x))) ∙ from_is old later x (or_false (same x y) _ h).1
    where
      other : (same y x ≡ true) ⊎ (same y x ≡ false) → same y x ≡ false
      other (inl e) = absurd (not_both (same x y) (subst (λ z. same x z ≡ true) (sym (equal y x e)) (own x)) (or_false (same x y) _ h).0)
      other (inr e) = e

  pub split_is : (opened : List N) (x : N) → opened_before same opened x ++ opened_from same opened x ≡ opened
  split_is [] x = refl
  split_is (y ∷ ys) x = by (same y x) (split_is ys x)
    where
      by : (b : Bool) → opened_before same ys x ++ opened_from same ys x ≡ ys → before_by same b y (opened_before same ys x) ++ onwards_by same b (y ∷ ys) (opened_from same ys x) ≡ y ∷ ys
      by true e = refl
      by false e = ap (λ zs. y ∷ zs) e
