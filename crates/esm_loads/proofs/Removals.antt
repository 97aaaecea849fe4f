-- Lists as an element is taken out of them.
use Rattle.std.proofs.Common.{◌≡◌, ℕ, suc, zero, ◌+◌, ◌-◌, ◌<◌, List, [], ◌∷◌, ◌++◌, length, take, drop, refl, ap, sym, ◌∙◌, arith, length-append}
use Rattle.std.specs.List.{remove}
use Rattle.std.proofs.Math.Seq.{drop-append-add}
use Rattle.std.proofs.lemmas.List.{length-take-le, length-drop, drop-append-le, drop-take, drop-drop, drop_at, drop_all, take_at, take_rest}
use Rattle.esm_loads.proofs.Places.{nothing}

-- what stands behind the first ones loses an element
pub removed : {X : Type 0} (xs : List X) (first at : ℕ) → first + at < length xs → drop first (remove xs (first + at)) ≡ remove (drop first xs) at
removed xs first at l =
    let long : length (take (first + at) xs) ≡ first + at = length-take-le (first + at) xs (omega arith) in
    let next : suc (first + at) ≡ first + suc at = omega arith in
    drop-append-le first (take (first + at) xs) (drop (suc (first + at)) xs) (omega (arith, long))
    ∙ (ap (λ ys. ys ++ drop (suc (first + at)) xs) (drop-take first at xs)
    ∙ ap (λ ys. take at (drop first xs) ++ ys) (ap (λ n. drop n xs) next ∙ sym (drop-drop (suc at) first xs)))

-- the last of those up to a place
last_of : {X : Type 0} (xs : List X) (at : ℕ) → at < length xs → (x : X) × (take (suc at) xs ≡ take at xs ++ x ∷ [])
last_of [] at l = absurd (omega arith)
last_of (y ∷ ys) zero l = (y, refl)
last_of (y ∷ ys) (suc at) l = let found = last_of ys at (omega arith) in (found.0, ap (λ zs. y ∷ zs) found.1)

-- the last of those up to a place comes before them
turned : {X : Type 0} (xs : List X) (at : ℕ) → at < length xs → drop 1 ((drop at (take (suc at) xs) ++ take at (take (suc at) xs)) ++ drop (suc at) xs) ≡ remove xs at
turned xs at l =
    let found = last_of xs at l in
    let long = length-take-le at xs (omega arith) in
    ap (λ zs. drop 1 ((drop at zs ++ take at zs) ++ drop (suc at) xs)) found.1
    ∙ (ap (λ zs. drop 1 ((zs ++ take at (take at xs ++ found.0 ∷ [])) ++ drop (suc at) xs)) (drop_at (take at xs) (found.0 ∷ []) at long)
    ∙ ap (λ zs. drop 1 ((found.0 ∷ [] ++ zs) ++ drop (suc at) xs)) (take_at (take at xs) (found.0 ∷ []) at long))

pub brought : {X : Type 0} (xs row : List X) (at : ℕ) → at < length xs → row ≡ drop (length (take (at + 1) xs) - 1) (take (at + 1) xs) ++ take (length (take (at + 1) xs) - 1) (take (at + 1) xs)
    → drop 1 (row ++ drop (at + 1) xs) ≡ remove xs at
brought xs row at l e =
    let long = length-take-le (at + 1) xs (omega arith) in
    let many : length (take (at + 1) xs) - 1 ≡ at = omega (arith, long) in
    let next : at + 1 ≡ suc at = omega arith in
    ap (λ zs. drop 1 (zs ++ drop (at + 1) xs)) (e ∙ ap (λ n. drop n (take (at + 1) xs) ++ take n (take (at + 1) xs)) many)
    ∙ (ap (λ n. drop 1 ((drop at (take n xs) ++ take at (take n xs)) ++ drop n xs)) next ∙ turned xs at l)

-- what stands behind the first ones is written back, with the element that is taken out in front of the others
pub written : {X : Type 0} (xs seen row : List X) (first at n : ℕ) → seen ≡ xs → length seen ≡ n → first + at < length xs
    → length row ≡ length (take (length seen - first) (drop first seen)) → drop 1 row ≡ remove (take (length seen - first) (drop first seen)) at
    → drop (first + 1) (take n ((take first seen ++ (row ++ drop (length seen - first) (drop first seen))) ++ drop (length (take first seen ++ (row ++ drop (length seen - first) (drop first seen)))) xs)) ≡ remove (drop first xs) at
written xs seen row first at n is many l long kept =
    let same : length seen ≡ length xs = ap length is in
    let behind : length (drop first seen) ≡ length seen - first = length-drop first seen in
    let none : drop (length seen - first) (drop first seen) ≡ [] = drop_all (length seen - first) (drop first seen) (omega (arith, behind)) in
    let front : length (take first seen) ≡ first = length-take-le first seen (omega (arith, same)) in
    let row_long : length row ≡ length seen - first = long ∙ (ap length (take_rest seen first) ∙ behind) in
    let all : length (take first seen ++ row) ≡ n = length-append (take first seen) row ∙ omega (arith, front, row_long, many, same) in
    ap (λ zs. drop (first + 1) (take n ((take first seen ++ (row ++ zs)) ++ drop (length (take first seen ++ (row ++ zs))) xs))) none
    ∙ (ap (λ zs. drop (first + 1) (take n ((take first seen ++ zs) ++ drop (length (take first seen ++ zs)) xs))) (nothing row)
    ∙ (ap (λ zs. drop (first + 1) zs) (take_at (take first seen ++ row) (drop (length (take first seen ++ row)) xs) n all)
    ∙ (ap (λ k. drop (k + 1) (take first seen ++ row)) (sym front)
    ∙ (drop-append-add (take first seen) row 1
    ∙ (kept ∙ (ap (λ zs. remove zs at) (take_rest seen first) ∙ ap (λ zs. remove (drop first zs) at) is))))))
