-- A namespace has one list of keys.
use Rattle.std.proofs.Common.{◌≡◌, ℕ, suc, ◌+◌, ◌<◌, Bool, true, false, cond, List, [], ◌∷◌, ◌⊎◌, inl, inr, All, refl, sym, ap, subst, ◌∙◌, arith, is_lt}
use Rattle.std.specs.Prelude.{slice_index_or}
use Rattle.std.specs.List.{sum_by, All}
use Rattle.std.specs.List.Sorted.{IsSorted}
use Rattle.std.specs.Str.{bytes_eq, IsUtf8}
use Rattle.std.specs.Cmp.{IsStrictWeakOrder}
use Rattle.std.specs.declared.cmp.Ordering.{Ordering}
use Rattle.std.specs.declared.cmp.Ordering.TheVariants.{Less, Equal, Greater}
use Rattle.std.specs.Ordering.{ordering_reverse}
use Rattle.std.proofs.lemmas.Bool.{cases_Bool}
use Rattle.std.proofs.lemmas.Slice.Eq.{bytes_eq-Decides}
use Rattle.std.proofs.lemmas.List.MinMax.{ranks_by}
use Rattle.std.proofs.lemmas.List.Sums.{sum_by-cons}
use Rattle.std.proofs.lemmas.List.Sorted.{sum_by-IsPermutation}
use Rattle.std.proofs.lemmas.List.Elements.{All-head, All-tail}
use Rattle.esm_base.specs.CodeUnits.{code_unit_order}
use Rattle.esm_base.proofs.CodeUnits.{code_unit_order_total, code_unit_order_same}
use Rattle.esm_resolve.specs.Graph.{Graph}
use Rattle.esm_env.proofs.OneRead.{resolution_one}
use Rattle.esm_resolve.specs.Names.{StarWalk, StarWalks, first_of_each, names_along}
use Rattle.esm_resolve.specs.Names.StarWalk.{known, fresh}
use Rattle.esm_resolve.specs.Names.StarWalks.{all, next}
use Rattle.esm_resolve.specs.Keys.{KeepsResolved, AreNamespaceKeysOf}
use Rattle.esm_resolve.specs.Keys.KeepsResolved.{none, kept, dropped}

module _ (g : Graph) where
  stars_from : {r s order : List ℕ} {xs : List ℕ} → r ≡ s → StarWalks g s xs order → StarWalks g r xs order
  stars_from {order = order} {xs = xs} e q = subst (λ s. StarWalks g s xs order) (sym e) q

  mutual
    star_one : {reached a b : List ℕ} {x : ℕ} → StarWalk g reached x a → StarWalk g reached x b → a ≡ b
    star_one (known h) (known k) = refl
    star_one (known h) (fresh n q) = cc
    star_one (fresh n p) (known k) = cc
    star_one (fresh n p) (fresh m q) = stars_one p q

    stars_one : {reached a b : List ℕ} {xs : List ℕ} → StarWalks g reached xs a → StarWalks g reached xs b → a ≡ b
    stars_one all all = refl
    stars_one (next v p) (next w q) = stars_one p (stars_from (star_one v w) q)

  keeps_one : (m : ℕ) {names a b : List (List ℕ)} → KeepsResolved g m names a → KeepsResolved g m names b → a ≡ b
  keeps_one m none none = refl
  keeps_one m (kept {name = name} r h o p) (kept s k u q) = ap (λ ks. name ∷ ks) (keeps_one m p q)
  keeps_one m (kept r h o p) (dropped s k u q) = let e = resolution_one g _ r s h k in cc
  keeps_one m (dropped r h o p) (kept s k u q) = let e = resolution_one g _ r s h k in cc
  keeps_one m (dropped r h o p) (dropped s k u q) = keeps_one m p q

-- ---- lists in order with the same elements

abbrev pub lt : List ℕ → List ℕ → Bool
lt x y = is_lt (code_unit_order x y)

pub weak : IsStrictWeakOrder lt
weak = ranks_by code_unit_order_total (λ (x : List ℕ). x)

-- none of them is below x
abbrev pub NotBelow : List ℕ → List (List ℕ) → Type 0
NotBelow x [] = Unit {0}
NotBelow x (y ∷ ys) = (lt y x ≡ false) × NotBelow x ys

abbrev pub Ascends : List (List ℕ) → Type 0
Ascends [] = Unit {0}
Ascends (x ∷ xs) = NotBelow x xs × Ascends xs

pub higher : (x y : List ℕ) (zs : List (List ℕ)) → lt y x ≡ false → NotBelow y zs → NotBelow x zs
higher x y [] h n = tt
higher x y (z ∷ zs) h n = (weak.chain z y x n.0 h, higher x y zs h n.1)

second : (x y : List ℕ) (ys : List (List ℕ)) → IsSorted code_unit_order (x ∷ y ∷ ys) → lt y x ≡ false
second x y ys up = up 0 x (omega arith) (omega arith)

later : (x y : List ℕ) (ys : List (List ℕ)) → IsSorted code_unit_order (x ∷ y ∷ ys) → IsSorted code_unit_order (y ∷ ys)
later x y ys up k d low high =
    let e : suc k + 1 ≡ suc (k + 1) = omega arith in
    subst (λ i. lt (slice_index_or (x ∷ y ∷ ys) i d) (slice_index_or (y ∷ ys) k d) ≡ false) e (up (suc k) d (omega arith) (omega arith))

ascends : (xs : List (List ℕ)) → IsSorted code_unit_order xs → Ascends xs
ascends [] up = tt
ascends (x ∷ []) up = (tt, tt)
ascends (x ∷ y ∷ ys) up = let h = ascends (y ∷ ys) (later x y ys up) in let s = second x y ys up in ((s, higher x y ys s h.0), h)

abbrev one_at : List ℕ → List ℕ → ℕ
one_at x z = cond (bytes_eq x z) 1 0

own_one : (x : List ℕ) → one_at x x ≡ 1
own_one x = ap (λ b. cond b 1 0) ((bytes_eq-Decides x x).1 refl)

not_below_own : (x : List ℕ) → lt x x ≡ false
not_below_own x = by (cases_Bool (lt x x))
  where
    by : (lt x x ≡ true) ⊎ (lt x x ≡ false) → lt x x ≡ false
    by (inl h) = weak.one_way x x h
    by (inr h) = h

-- what stands among them isn't below
member_not_below : (x y : List ℕ) (zs : List (List ℕ)) → NotBelow y zs → 0 < sum_by (one_at x) zs → lt x y ≡ false
member_not_below x y [] n h = absurd (omega arith)
member_not_below x y (z ∷ zs) n h = by (cases_Bool (bytes_eq x z)) (member_not_below x y zs n.1)
  where
    by : (bytes_eq x z ≡ true) ⊎ (bytes_eq x z ≡ false) → (0 < sum_by (one_at x) zs → lt x y ≡ false) → lt x y ≡ false
    by (inl e) rest = let same : x ≡ z = (bytes_eq-Decides x z).0 e in subst (λ z. lt z y ≡ false) (sym same) n.0
    by (inr e) rest = rest (let none : one_at x z ≡ 0 = ap (λ b. cond b 1 0) e in omega (arith, sum_by-cons (one_at x) z zs))

tie : (r s : Ordering) → is_lt r ≡ false → is_lt s ≡ false → r ≡ ordering_reverse s → r ≡ Equal
tie Less s h k e = cc
tie Equal s h k e = refl
tie Greater Less h k e = cc
tie Greater Equal h k e = e
tie Greater Greater h k e = cc

same_sorted : (xs ys : List (List ℕ)) → Ascends xs → Ascends ys → All IsUtf8 xs → All IsUtf8 ys → ((f : List ℕ → ℕ) → sum_by f xs ≡ sum_by f ys) → xs ≡ ys
same_sorted [] [] a b u v h = refl
same_sorted [] (y ∷ ys) a b u v h = absurd (let e = h (λ z. 1) in omega (arith, e, sum_by-cons (λ (z : List ℕ). 1) y ys))
same_sorted (x ∷ xs) [] a b u v h = absurd (let e = h (λ z. 1) in omega (arith, e, sum_by-cons (λ (z : List ℕ). 1) x xs))
same_sorted (x ∷ xs) (y ∷ ys) a b u v h =
    let own_x = own_one x in
    let own_y = own_one y in
    let in_ys : 0 < sum_by (one_at x) (y ∷ ys) = let e = h (one_at x) in omega (arith, e, own_x, sum_by-cons (one_at x) x xs) in
    let in_xs : 0 < sum_by (one_at y) (x ∷ xs) = let e = h (one_at y) in omega (arith, e, own_y, sum_by-cons (one_at y) y ys) in
    let xy = member_not_below x y (y ∷ ys) (not_below_own y, b.0) in_ys in
    let yx = member_not_below y x (x ∷ xs) (not_below_own x, a.0) in_xs in
    let e : x ≡ y = code_unit_order_same x y (All-head IsUtf8 x xs u) (All-head IsUtf8 y ys v) (tie _ _ xy yx (code_unit_order_total.antisymm x y)) in
    let rest : (f : List ℕ → ℕ) → sum_by f xs ≡ sum_by f ys = λ f. let k = h f in let same : f x ≡ f y = ap f e in omega (arith, k, same, sum_by-cons f x xs, sum_by-cons f y ys) in
    λ i. e i ∷ same_sorted xs ys a.1 b.1 (All-tail IsUtf8 x xs u) (All-tail IsUtf8 y ys v) rest i

pub keys_one : (g : Graph) (m : ℕ) (a b : List (List ℕ)) → AreNamespaceKeysOf g m a → AreNamespaceKeysOf g m b → All IsUtf8 a → All IsUtf8 b → a ≡ b
keys_one g m a b h k u v =
    let order : h.exported.0 ≡ k.exported.0 = star_one g h.exported.1 k.exported.1 in
    let names : h.names ≡ k.names = h.exported.2 ∙ ap (λ o. first_of_each (names_along g m o)) order ∙ sym k.exported.2 in
    let resolved : h.resolved ≡ k.resolved = keeps_one g m h.kept (subst (λ ns. KeepsResolved g m ns k.resolved) (sym names) k.kept) in
    same_sorted a b (ascends a h.in_order) (ascends b k.in_order) u v (λ f. sum_by-IsPermutation f _ a h.same ∙ ap (sum_by f) resolved ∙ sym (sum_by-IsPermutation f _ b k.same))
