-- Texts with a sign between them, as a loop writes them.
use Rattle.std.proofs.Common.{◌≡◌, ℕ, ◌+◌, ◌<◌, ◌≤◌, Bool, true, false, List, [], ◌∷◌, ◌++◌, length, drop, refl, ap, sym, ◌∙◌, subst, get_or}
use Rattle.std.proofs.lemmas.List.{drop_more, append-nil, append_assoc}
use Rattle.std.proofs.Math.ListN.{drop_of_length-le}
use Rattle.esm_values.specs.Display.{joined_by, sign_before}

-- what is still to be written: `first` is whether nothing was written yet
abbrev pub left : List ℕ → Bool → List (List ℕ) → List ℕ
left sign first [] = []
left sign first (t ∷ ts) = sign_before first sign ++ t ++ left sign false ts

pub joined_left : (sign : List ℕ) (ts : List (List ℕ)) → left sign true ts ≡ joined_by sign ts
joined_left sign [] = refl
joined_left sign (t ∷ []) = append-nil t
joined_left sign (t ∷ u ∷ ts) =
    let r = left sign false ts in
    ap (λ x. t ++ x) (append_assoc sign u r) ∙ sym (append_assoc t sign (u ++ r)) ∙ ap (λ x. t ++ sign ++ x) (joined_left sign (u ∷ ts))

pub left_end : (sign written : List ℕ) (first : Bool) (ts : List (List ℕ)) (i : ℕ) (all : List ℕ) → length ts ≤ i → written ++ left sign first (drop i ts) ≡ all → written ≡ all
left_end sign written first ts i all h e =
    let f : written ++ left sign first [] ≡ all = subst (λ us. written ++ left sign first us ≡ all) (drop_of_length-le ts h) e in
    sym (append-nil written) ∙ f

pub goes : (sign written : List ℕ) (first : Bool) (ts : List (List ℕ)) (i : ℕ) (d all : List ℕ) → i < length ts → written ++ left sign first (drop i ts) ≡ all → written ++ sign_before first sign ++ get_or ts i d ++ left sign false (drop (i + 1) ts) ≡ all
goes sign written first ts i d all h e =
    let t = get_or ts i d in
    let r = left sign false (drop (i + 1) ts) in
    let f : written ++ left sign first (t ∷ drop (i + 1) ts) ≡ all = subst (λ us. written ++ left sign first us ≡ all) (drop_more ts i d h) e in
    append_assoc (written ++ sign_before first sign) t r ∙ append_assoc written (sign_before first sign) (t ++ r) ∙ ap (λ x. written ++ x) (sym (append_assoc (sign_before first sign) t r)) ∙ f
