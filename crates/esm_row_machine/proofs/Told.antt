-- The operation that is next is told as the first of those that are left.
use Rattle.std.proofs.Common.{◌≡◌, ℕ, zero, suc, ◌+◌, ◌<◌, List, [], ◌∷◌, ◌++◌, length, Option, Some, refl, ap, sym, subst, ◌∙◌, arith}
use Rattle.std.specs.Prelude.{slice_get}
use Rattle.esm_rows.specs.Rows.{Row, Operation}
use Rattle.esm_rows.specs.Making.{IsTold, AreTold, nothing_left, one_more}
use Rattle.esm_rows.specs.declared.op.Op.{Op}

pub longer : {A : Type 0} (xs : List A) (y : A) → length (xs ++ y ∷ []) ≡ suc (length xs)
longer [] y = refl
longer (x ∷ xs) y = ap suc (longer xs y)

pub joined : {A : Type 0} (xs ys : List A) → length (xs ++ ys) ≡ length xs + length ys
joined [] ys = omega arith
joined (x ∷ xs) ys = let e = joined xs ys in omega (arith, e)

pub behind : {A : Type 0} (xs : List A) (y : A) → slice_get (xs ++ y ∷ []) (length xs) ≡ Some y
behind [] y = refl
behind (x ∷ xs) y = behind xs y

pub within : {A : Type 0} (xs ys : List A) (n : ℕ) → n < length xs → slice_get (xs ++ ys) n ≡ slice_get xs n
within [] ys n h = absurd (omega (arith, h))
within (x ∷ xs) ys zero h = refl
within (x ∷ xs) ys (suc n) h = within xs ys n (omega (arith, h))

pub some_same : {A : Type 0} (a b : A) → ◌≡◌ {A = Option A} (Some a) (Some b) → a ≡ b
some_same a b e = cc

not_empty : (before c : Row) (p : Operation) → before ++ p ∷ c ≡ [] → ⊥
not_empty [] c p e = cc
not_empty (b ∷ bs) c p e = cc

head : (p q : Operation) (c d : Row) → p ∷ c ≡ q ∷ d → p ≡ q
head p q c d e = cc

tail : (p q : Operation) (c d : Row) → p ∷ c ≡ q ∷ d → c ≡ d
tail p q c d e = cc

module _ (owns texts : List (List ℕ)) where
  pub same_length : (ops : List Op) (r : Row) → AreTold owns texts ops r → length ops ≡ length r
  same_length _ _ nothing_left = refl
  same_length _ _ (one_more ops {c = c} q {p = p} h is) = longer ops q ∙ ap suc (same_length ops c h)

  last_told : (ops : List Op) (q op : Op) (o p : Operation) (c d : Row) → AreTold owns texts ops d → IsTold owns texts q o → p ≡ o → c ≡ d → slice_get (ops ++ q ∷ []) (length c) ≡ Some op → IsTold owns texts op p
  last_told ops q op o p c d h is e f at =
      let len : length c ≡ length ops = ap length f ∙ sym (same_length ops d h) in
      let same : q ≡ op = some_same q op (sym (behind ops q) ∙ ap (λ n. slice_get (ops ++ q ∷ []) n) (sym len) ∙ at) in
      subst (λ r. IsTold owns texts r p) same (subst (λ r. IsTold owns texts q r) (sym e) is)

  pub told_at : (ops : List Op) (r : Row) → AreTold owns texts ops r → (before c : Row) (p : Operation) (op : Op) → before ++ p ∷ c ≡ r → slice_get ops (length c) ≡ Some op → IsTold owns texts op p
  told_at _ _ nothing_left before c p op e at = absurd (not_empty before c p e)
  told_at _ _ (one_more ops {c = d} q {p = o} h is) [] c p op e at = last_told ops q op o p c d h is (head p o c d e) (tail p o c d e) at
  told_at _ _ (one_more ops {c = d} q {p = o} h is) (b ∷ bs) c p op e at =
      let f : bs ++ p ∷ c ≡ d = tail b o (bs ++ p ∷ c) d e in
      let len : length d ≡ length bs + suc (length c) = ap length (sym f) ∙ joined bs (p ∷ c) in
      let below : length c < length ops = omega (arith, len, same_length ops d h) in
      told_at ops d h bs c p op f (sym (within ops (q ∷ []) (length c) below) ∙ at)
