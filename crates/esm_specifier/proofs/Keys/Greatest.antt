-- The greatest of the keys that reach a text is the longest.
use Rattle.std.proofs.Common.{◌≡◌, ◌≤◌, ◌⊎◌, inl, inr, ℕ, List, [], ◌∷◌, length, filter, nat_cmp, Bool, true, false, true≢false, cond, Option, None, Some, is_some, MatchOption, Ordering, Less, Equal, Greater, is_eq, refl, sym, ap, subst, ◌∙◌}
use Rattle.std.proofs.lemmas.Cmp.{tied_itself, nat_list_cmp_total}
use Rattle.std.proofs.lemmas.Map.Text.{is_eq-slice_cmp}
use Rattle.std.proofs.lemmas.Slice.Eq.{bytes_eq-Decides}
use Rattle.std.specs.Cmp.Lexicographic.{slice_cmp}
use Rattle.std.specs.List.{AllByRecursion}
use Rattle.std.specs.Map.{keys_of}
use Rattle.std.specs.Ordering.{is_lt, ordering_reverse}
use Rattle.std.specs.Bool.{⊤}
use Rattle.esm_base.specs.CodeUnits.{code_unit_order}
use Rattle.std.specs.Str.{IsUtf8}
use Rattle.esm_base.proofs.CodeUnits.{code_unit_order_total, code_unit_order_same}
use Rattle.esm_base.specs.TextMap.{TextMapView, at}
use Rattle.esm_specifier.specs.Resolution.{greater, greatest}
use Rattle.esm_specifier.proofs.Keys.Prefixes.{IsFront, front_order}

-- ---- the keys of a map

-- a text stands in a list
abbrev pub IsIn : List ℕ → List (List ℕ) → Type 0
IsIn text [] = ⊥
IsIn text (other ∷ texts) = (text ≡ other) ⊎ IsIn text texts

in_by : {A : Type 0} (k : List ℕ) (e : List ℕ × A) (es : TextMapView A) (b : Bool) → is_eq (slice_cmp nat_cmp k e.0) ≡ b → is_some (cond b (Some e.1) (at k es)) ≡ true → (is_some (at k es) ≡ true → IsIn k (keys_of es)) → IsIn k (keys_of (e ∷ es))
in_by k e es true is h more = inl ((bytes_eq-Decides k e.0).0 (sym (is_eq-slice_cmp k e.0) ∙ is))
in_by k e es false is h more = inr (more h)

-- what a look-up finds stands among the keys
pub in_keys : {A : Type 0} (k : List ℕ) (es : TextMapView A) → is_some (at k es) ≡ true → IsIn k (keys_of es)
in_keys k [] h = let P : Bool → Type 0 = λ b. cond b ⊥ ⊤ in subst P h tt
in_keys k (e ∷ es) h = in_by k e es (is_eq (slice_cmp nat_cmp k e.0)) refl h (in_keys k es)

found_later : {A : Type 0} (b : Bool) (v : A) (o : Option A) → is_some o ≡ true → is_some (cond b (Some v) o) ≡ true
found_later true v o h = refl
found_later false v o h = h

found_first : {A : Type 0} (e : List ℕ × A) (es : TextMapView A) → is_some (at e.0 (e ∷ es)) ≡ true
found_first e es = rw (tied_itself nat_list_cmp_total e.0) refl

-- what holds of each text that a look-up finds holds of each key
pub all_keys : {A : Type 0} (P : List ℕ → Type 0) (es : TextMapView A) → ((k : List ℕ) → is_some (at k es) ≡ true → P k) → AllByRecursion P (keys_of es)
all_keys P [] h = tt
all_keys P (e ∷ es) h = (h e.0 (found_first e es), all_keys P es (λ k f. h k (found_later (is_eq (slice_cmp nat_cmp k e.0)) e.1 (at k es) f)))

-- ---- the greatest

module _ (text : List ℕ) (q : List ℕ → Bool) (fronts : (k : List ℕ) → q k ≡ true → IsFront text k) where
  -- a text that passes and is no longer
  abbrev AtMost : List ℕ → Option (List ℕ) → Type 0
  AtMost p o = MatchOption o ⊤ (λ r. (q r ≡ true) × (length r ≤ length p))

  chosen : (p k r : List ℕ) (b : Bool) → q k ≡ true → length k ≤ length p → (q r ≡ true) × (length r ≤ length p) → AtMost p (Some (cond b r k))
  chosen p k r true e h m = m
  chosen p k r false e h m = (e, h)

  either_at_most : (p k : List ℕ) (o : Option (List ℕ)) → q k ≡ true → length k ≤ length p → AtMost p o → AtMost p (Some (greater k o))
  either_at_most p k None e h m = (e, h)
  either_at_most p k (Some r) e h m = chosen p k r (is_lt (code_unit_order k r)) e h m

  at_most_by : (p k : List ℕ) (ks : List (List ℕ)) (b : Bool) → q k ≡ b → (q k ≡ true → length k ≤ length p) → AtMost p (greatest (filter q ks)) → AtMost p (greatest (cond b (k ∷ filter q ks) (filter q ks)))
  at_most_by p k ks true e h m = either_at_most p k (greatest (filter q ks)) e (h e) m
  at_most_by p k ks false e h m = m

  at_most : (p : List ℕ) (ks : List (List ℕ)) → AllByRecursion (λ k. q k ≡ true → length k ≤ length p) ks → AtMost p (greatest (filter q ks))
  at_most p [] h = tt
  at_most p (k ∷ ks) h = at_most_by p k ks (q k) refl h.0 (at_most p ks h.1)

  same_either : (b : Bool) (p r : List ℕ) → r ≡ p → cond b r p ≡ p
  same_either true p r e = e
  same_either false p r e = refl

  beats_by : (p r : List ℕ) → (code_unit_order r p ≡ Less) ⊎ (r ≡ p) → cond (is_lt (code_unit_order p r)) r p ≡ p
  beats_by p r (inl less) =
      let more : code_unit_order p r ≡ Greater = code_unit_order_total.antisymm p r ∙ ap ordering_reverse less in
      ap (λ o. cond (is_lt o) r p) more
  beats_by p r (inr same) = same_either (is_lt (code_unit_order p r)) p r same

  -- the longest is greater than each other
  beats : (p : List ℕ) (o : Option (List ℕ)) → q p ≡ true → AtMost p o → greater p o ≡ p
  beats p None e m = refl
  beats p (Some r) e m = beats_by p r (front_order text r p (fronts r m.0) (fronts p e) m.1)

  other_same : (b : Bool) (p k : List ℕ) → k ≡ p → cond b p k ≡ p
  other_same true p k e = refl
  other_same false p k e = e

  loses_by : (p k : List ℕ) → (code_unit_order k p ≡ Less) ⊎ (k ≡ p) → cond (is_lt (code_unit_order k p)) p k ≡ p
  loses_by p k (inl less) = ap (λ o. cond (is_lt o) p k) less
  loses_by p k (inr same) = other_same (is_lt (code_unit_order k p)) p k same

  -- one that is no longer is no greater
  loses : (p k : List ℕ) → q p ≡ true → q k ≡ true → length k ≤ length p → greater k (Some p) ≡ p
  loses p k e f h = loses_by p k (front_order text k p (fronts k f) (fronts p e) h)

  first_by : (p k : List ℕ) (ks : List (List ℕ)) → q p ≡ true → q k ≡ true → p ≡ k → AtMost p (greatest (filter q ks)) → greatest (filter q (k ∷ ks)) ≡ Some p
  first_by p k ks e f same m = rw f (ap Some (ap (λ t. greater t (greatest (filter q ks))) (sym same) ∙ beats p (greatest (filter q ks)) e m))

  later_by : (p k : List ℕ) (ks : List (List ℕ)) (b : Bool) → q k ≡ b → q p ≡ true → (q k ≡ true → length k ≤ length p) → greatest (filter q ks) ≡ Some p → greatest (cond b (k ∷ filter q ks) (filter q ks)) ≡ Some p
  later_by p k ks true f e h g = ap Some (ap (greater k) g ∙ loses p k e f (h f))
  later_by p k ks false f e h g = g

  -- the one of the keys that pass than which none is longer is the greatest
  pub greatest_longest : (p : List ℕ) (ks : List (List ℕ)) → q p ≡ true → AllByRecursion (λ k. q k ≡ true → length k ≤ length p) ks → IsIn p ks → greatest (filter q ks) ≡ Some p
  greatest_longest p [] e h i = absurd i
  greatest_longest p (k ∷ ks) e h (inl same) = first_by p k ks e (subst (λ t. q t ≡ true) same e) same (at_most p ks h.1)
  greatest_longest p (k ∷ ks) e h (inr more) = later_by p k ks (q k) refl e h.0 (greatest_longest p ks e h.1 more)

none_by : (q : List ℕ → Bool) (k : List ℕ) (ks : List (List ℕ)) (b : Bool) → q k ≡ b → (q k ≡ true → ⊥) → greatest (filter q ks) ≡ None → greatest (cond b (k ∷ filter q ks) (filter q ks)) ≡ None
none_by q k ks true e h g = absurd (h e)
none_by q k ks false e h g = g

-- where no key passes there is no greatest
pub greatest_none : (q : List ℕ → Bool) (ks : List (List ℕ)) → AllByRecursion (λ k. q k ≡ true → ⊥) ks → greatest (filter q ks) ≡ None
greatest_none q [] h = refl
greatest_none q (k ∷ ks) h = none_by q k ks (q k) refl h.0 (greatest_none q ks h.1)

-- ---- the greatest is a greatest member

not_less_by : (x m u : List ℕ) (o p : Ordering) → code_unit_order x m ≡ o → code_unit_order x u ≡ p → is_lt o ≡ false → is_lt (code_unit_order m u) ≡ false → is_lt p ≡ false
not_less_by x m u Less p a b e f = absurd (true≢false e)
not_less_by x m u Equal Less a b e f = ap is_lt (sym b) ∙ ap is_lt (code_unit_order_total.congr x m u a) ∙ f
not_less_by x m u Greater Less a b e f =
    let less : code_unit_order m x ≡ Less = code_unit_order_total.antisymm m x ∙ ap ordering_reverse a in
    ap is_lt (sym (code_unit_order_total.trans m x u less b)) ∙ f
not_less_by x m u Equal Equal a b e f = refl
not_less_by x m u Equal Greater a b e f = refl
not_less_by x m u Greater Equal a b e f = refl
not_less_by x m u Greater Greater a b e f = refl

-- a member than which none is greater
pub record IsGreatestIn (texts : List (List ℕ)) (text : List ℕ) : Type 0 where
  pub member : IsIn text texts
  pub none_greater : (other : List ℕ) → IsIn other texts → is_lt (code_unit_order text other) ≡ false

itself : (x : List ℕ) → is_lt (code_unit_order x x) ≡ false
itself x = ap is_lt (tied_itself code_unit_order_total x)

alone : (x other : List ℕ) → (other ≡ x) ⊎ ⊥ → is_lt (code_unit_order x other) ≡ false
alone x other (inl same) = ap (λ t. is_lt (code_unit_order x t)) same ∙ itself x
alone x other (inr none) = absurd none

keeps_later : (x m : List ℕ) (xs : List (List ℕ)) → code_unit_order x m ≡ Less → IsGreatestIn xs m → (other : List ℕ) → (other ≡ x) ⊎ IsIn other xs → is_lt (code_unit_order m other) ≡ false
keeps_later x m xs less g other (inl same) = ap (λ t. is_lt (code_unit_order m t)) same ∙ ap is_lt (code_unit_order_total.antisymm m x ∙ ap ordering_reverse less)
keeps_later x m xs less g other (inr more) = g.none_greater other more

keeps_first : (x m : List ℕ) (xs : List (List ℕ)) → is_lt (code_unit_order x m) ≡ false → IsGreatestIn xs m → (other : List ℕ) → (other ≡ x) ⊎ IsIn other xs → is_lt (code_unit_order x other) ≡ false
keeps_first x m xs e g other (inl same) = alone x other (inl same)
keeps_first x m xs e g other (inr more) = not_less_by x m other (code_unit_order x m) (code_unit_order x other) refl refl e (g.none_greater other more)

is_less : (o : Ordering) → is_lt o ≡ true → o ≡ Less
is_less Less e = refl
is_less Equal e = absurd (true≢false (sym e))
is_less Greater e = absurd (true≢false (sym e))

greatest_by : (x m : List ℕ) (xs : List (List ℕ)) (b : Bool) → is_lt (code_unit_order x m) ≡ b → IsGreatestIn xs m → IsGreatestIn (x ∷ xs) (cond b m x)
greatest_by x m xs true e g = record { member = inr g.member; none_greater = keeps_later x m xs (is_less (code_unit_order x m) e) g }
greatest_by x m xs false e g = record { member = inl refl; none_greater = keeps_first x m xs e g }

-- what `greatest` finds is a member than which none is greater
pub greatest_is : (text : List ℕ) (texts : List (List ℕ)) → IsGreatestIn (text ∷ texts) (greater text (greatest texts))
greatest_is text [] = record { member = inl refl; none_greater = alone text }
greatest_is text (other ∷ texts) = greatest_by text (greater other (greatest texts)) (other ∷ texts) (is_lt (code_unit_order text (greater other (greatest texts)))) refl (greatest_is other texts)

-- and of two such members of which each is text, one is the other
pub greatest_only : (texts : List (List ℕ)) (a b : List ℕ) → IsUtf8 a → IsUtf8 b → IsGreatestIn texts a → IsGreatestIn texts b → a ≡ b
greatest_only texts a b u v f g = same_by a b u v (code_unit_order a b) refl (f.none_greater b g.member) (g.none_greater a f.member) where
  same_by : (a b : List ℕ) → IsUtf8 a → IsUtf8 b → (o : Ordering) → code_unit_order a b ≡ o → is_lt (code_unit_order a b) ≡ false → is_lt (code_unit_order b a) ≡ false → a ≡ b
  same_by a b u v Less is e f = absurd (true≢false (sym (ap is_lt is) ∙ e))
  same_by a b u v Equal is e f = code_unit_order_same a b u v is
  same_by a b u v Greater is e f = absurd (true≢false (sym (ap is_lt (code_unit_order_total.antisymm b a ∙ ap ordering_reverse is)) ∙ f))
