-- Texts as numerals, so that each number is of one text: the binary digits of the number, the lowest first, are so many zeros and
-- a one for each number of the text.
use Rattle.std.proofs.Common.{◌≡◌, ℕ, zero, suc, ◌+◌, ◌*◌, ◌<◌, List, [], ◌∷◌, refl, ap, sym, ◌∙◌, arith}

-- n, with so many zeros in front of its digits
abbrev pub behind_zeros : ℕ → ℕ → ℕ
behind_zeros zero n = n
behind_zeros (suc a) n = 2 * behind_zeros a n

-- the number of a text
abbrev pub numeral : List ℕ → ℕ
numeral [] = 0
numeral (a ∷ l) = behind_zeros a (2 * numeral l + 1)

-- the text of the next number, with so many zeros in front of its digits
abbrev pub next_by : ℕ → List ℕ → List ℕ
next_by before [] = before ∷ []
next_by before (zero ∷ l) = next_by (suc before) l
next_by before (suc a ∷ l) = before ∷ a ∷ l

-- the text of a number: [], [0], [1], [0, 0], [2], [0, 1], ..
abbrev pub text_at : ℕ → List ℕ
text_at zero = []
text_at (suc n) = next_by 0 (text_at n)

-- ---- each number has one text, and each text one number

zeros_in : (a n : ℕ) → behind_zeros a (2 * n) ≡ 2 * behind_zeros a n
zeros_in zero n = refl
zeros_in (suc a) n = ap (λ m. 2 * m) (zeros_in a n)

next_is : (before : ℕ) (l : List ℕ) → numeral (next_by before l) ≡ behind_zeros before (numeral l + 1)
next_is before [] = refl
next_is before (zero ∷ l) =
    let e : 2 * (numeral l + 1) ≡ 2 * numeral l + 1 + 1 = omega arith in
    next_is (suc before) l ∙ (sym (zeros_in before (numeral l + 1)) ∙ ap (behind_zeros before) e)
next_is before (suc a ∷ l) = refl

pub number_is : (n : ℕ) → numeral (text_at n) ≡ n
number_is zero = refl
number_is (suc n) =
    let h = number_is n in
    let e : numeral (text_at n) + 1 ≡ suc n = omega (arith, h) in
    next_is 0 (text_at n) ∙ e

positive : (a n : ℕ) → 0 < behind_zeros a (2 * n + 1)
positive zero n = omega arith
positive (suc a) n = let h = positive a n in omega (arith, h)

same_digits : (a b m n : ℕ) → behind_zeros a (2 * m + 1) ≡ behind_zeros b (2 * n + 1) → (a ≡ b) × (m ≡ n)
same_digits zero zero m n e = (refl, omega (arith, e))
same_digits zero (suc b) m n e = absurd (omega (arith, e))
same_digits (suc a) zero m n e = absurd (omega (arith, e))
same_digits (suc a) (suc b) m n e = let h = same_digits a b m n (omega (arith, e)) in (ap suc h.0, h.1)

same_text : (l m : List ℕ) → numeral l ≡ numeral m → l ≡ m
same_text [] [] e = refl
same_text [] (b ∷ m) e = let h = positive b (numeral m) in absurd (omega (arith, e, h))
same_text (a ∷ l) [] e = let h = positive a (numeral l) in absurd (omega (arith, e, h))
same_text (a ∷ l) (b ∷ m) e =
    let h = same_digits a b (numeral l) (numeral m) e in
    let rest = same_text l m h.1 in
    λ i. h.0 i ∷ rest i

pub text_is : (l : List ℕ) → text_at (numeral l) ≡ l
text_is l = same_text (text_at (numeral l)) l (number_is (numeral l))
