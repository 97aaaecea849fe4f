-- A list of texts can be put in order.
use Rattle.std.proofs.Common.{◌≡◌, ℕ, zero, suc, ◌+◌, ◌<◌, Bool, true, false, List, [], ◌∷◌, refl, subst, arith, length}
use Rattle.std.specs.Prelude.{slice_index_or}
use Rattle.std.specs.List.Sorted.{IsSorted, IsPermutation}
use Rattle.std.proofs.lemmas.List.Sorted.{IsPermutation-refl, IsPermutation-sym, IsPermutation-trans, IsPermutation-cons, IsPermutation-middle}
use Rattle.esm_base.specs.CodeUnits.{code_unit_order}
use Rattle.esm_rewriting.proofs.OneKeys.{lt, weak, NotBelow, Ascends, higher}

abbrev Ordered : List (List ℕ) → Type 0
Ordered xs = (ys : List (List ℕ)) × (IsPermutation xs ys × Ascends ys)

abbrev Inserted : List ℕ → List (List ℕ) → Type 0
Inserted x xs = (ys : List (List ℕ)) × (IsPermutation (x ∷ xs) ys × (Ascends ys × ((z : List ℕ) → lt x z ≡ false → NotBelow z xs → NotBelow z ys)))

one_way : (x y : List ℕ) → lt y x ≡ true → lt x y ≡ false
one_way x y h = weak.one_way y x h

insert_by : (x y : List ℕ) (ys : List (List ℕ)) → Ascends (y ∷ ys) → (b : Bool) → lt y x ≡ b → Inserted x ys → Inserted x (y ∷ ys)
insert_by x y ys a false e later = (x ∷ y ∷ ys, (IsPermutation-refl (x ∷ y ∷ ys), (((e, higher x y ys e a.0), a), λ z h n. (h, n))))
insert_by x y ys a true e (zs, (p, (q, put))) = (
  y ∷ zs,
  (
    IsPermutation-trans (x ∷ y ∷ ys) (y ∷ x ∷ ys) (y ∷ zs) (IsPermutation-sym (y ∷ x ∷ ys) (x ∷ y ∷ ys) (IsPermutation-middle (y ∷ []) x ys)) (IsPermutation-cons y (x ∷ ys) zs p),
    ((put y (one_way x y e) a.0, q), λ z h n. (n.0, put z h n.1)),
  ),
)

inserts : (x : List ℕ) (xs : List (List ℕ)) → Ascends xs → Inserted x xs
inserts x [] a = (x ∷ [], (IsPermutation-refl (x ∷ []), ((tt, tt), λ z h n. (h, tt))))
inserts x (y ∷ ys) a = insert_by x y ys a (lt y x) refl (inserts x ys a.1)

ordered : (xs : List (List ℕ)) → Ordered xs
ordered [] = ([], (IsPermutation-refl [], tt))
ordered (x ∷ xs) =
    let r = ordered xs in
    let i = inserts x r.0 r.1.1 in
    (i.0, (IsPermutation-trans (x ∷ xs) (x ∷ r.0) i.0 (IsPermutation-cons x xs r.0 r.1.0) i.1.0, i.1.1.0))

sorted_at : (xs : List (List ℕ)) → Ascends xs → (k : ℕ) (d : List ℕ) → suc k < length xs → lt (slice_index_or xs (suc k) d) (slice_index_or xs k d) ≡ false
sorted_at [] a k d high = absurd (omega (arith, high))
sorted_at (x ∷ []) a k d high = absurd (omega (arith, high))
sorted_at (x ∷ y ∷ ys) a zero d high = a.0.0
sorted_at (x ∷ y ∷ ys) a (suc k) d high = sorted_at (y ∷ ys) a.1 k d (omega (arith, high))

pub in_order : (xs : List (List ℕ)) → (ys : List (List ℕ)) × (IsPermutation xs ys × IsSorted code_unit_order ys)
in_order xs =
    let r = ordered xs in (
      r.0,
      (
        r.1.0,
        λ k d low high.
            let e : suc k ≡ k + 1 = omega arith in
            subst (λ i. lt (slice_index_or r.0 i d) (slice_index_or r.0 k d) ≡ false) e (sorted_at r.0 r.1.1 k d (omega (arith, high))),
      ),
    )
