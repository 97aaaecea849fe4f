-- A piece of a string literal leaves fewer characters, so that a literal's body is there or isn't.
use Rattle.std.proofs.Common.{◌≡◌, ℕ, zero, suc, ◌+◌, ◌*◌, ◌<◌, ◌≤◌, ◌⊎◌, inl, inr, Bool, true, false, ◌==◌, List, [], ◌∷◌, ◌++◌, length, get_or, Some, None, refl, sym, subst, ap, ◌∙◌, arith}
use Rattle.std.proofs.lemmas.Bool.Decides.{nat_tests}
use Rattle.std.specs.Char.{digit_value}
use Rattle.esm_grammar.specs.Characters.{is_quote}
use Rattle.esm_grammar.specs.Reading.{pick}
use Rattle.esm_grammar.specs.Strings.{Piece, Code, hex_two, hex_four, braced, second_half, four_digits, unicode, skip_line_feed, one, escape, piece, Body, closed, more}
use Rattle.esm_grammar.proofs.Basics.{bind_ok, chosen, guard_ok, from_some}
use Rattle.esm_grammar.proofs.Tokens.{quote_no_piece, none_some, value}

-- fewer characters than this are left
abbrev Less : ℕ → List ℕ × List ℕ → Type 0
Less n p = length p.1 < n

never : {A : Type 0} {y : A} → None ≡ Some y → ⊥
never e = cc

two_less : (cs : List ℕ) (y : ℕ × List ℕ) → hex_two cs ≡ Some y → length y.1 + 2 ≤ length cs
unfolding hex_two
two_less [] y e = absurd (never e)
two_less (a ∷ []) y e = absurd (never e)
two_less (a ∷ b ∷ cs) y e =
    let g = guard_ok _ _ _ e in
    let h = guard_ok _ _ _ g.1 in
    from_some (λ (p : ℕ × List ℕ). length p.1 + 2 ≤ length (a ∷ b ∷ cs)) h.1 (omega arith)

four_less : (cs : List ℕ) (y : ℕ × List ℕ) → hex_four cs ≡ Some y → length y.1 + 4 ≤ length cs
unfolding hex_four
four_less cs y e =
    let a = bind_ok _ _ _ e in
    let b = bind_ok _ _ _ a.2 in
    let m = two_less cs a.0 a.1 in
    let n = two_less a.0.1 b.0 b.1 in
    from_some (λ (p : ℕ × List ℕ). length p.1 + 4 ≤ length cs) b.2 (omega (arith, m, n))

braced_less : (x : ℕ) (some : Bool) (cs : List ℕ) (y : ℕ × List ℕ) → braced x some cs ≡ Some y → length y.1 < length cs
unfolding braced
braced_less x some [] y e = absurd (never e)
braced_less x some (c ∷ cs) y e = elim (chosen _ _ _ _ e) [
  | inl p ↦
      let g = guard_ok _ _ _ p.1 in
      let h = braced_less (16 * x + digit_value c) true cs y g.1 in
      omega (arith, h)
  | inr p ↦
      let g = guard_ok _ _ _ p.1 in
      from_some (λ (p : ℕ × List ℕ). length p.1 < length (c ∷ cs)) g.1 (omega arith)
]

half_less : (high : ℕ) (cs : List ℕ) (y : ℕ × List ℕ) → second_half high cs ≡ Some y → length y.1 < length cs
unfolding second_half
half_less high [] y e = absurd (never e)
half_less high (b ∷ []) y e = absurd (never e)
half_less high (b ∷ u ∷ cs) y e =
    let g = guard_ok _ _ _ e in
    let a = bind_ok _ _ _ g.1 in
    let m = four_less cs a.0 a.1 in
    let h = guard_ok _ _ _ a.2 in
    from_some (λ (p : ℕ × List ℕ). length p.1 < length (b ∷ u ∷ cs)) h.1 (omega (arith, m))

digits_less : (cs : List ℕ) (y : ℕ × List ℕ) → four_digits cs ≡ Some y → length y.1 < length cs
unfolding four_digits
digits_less cs y e =
    let a = bind_ok _ _ _ e in
    let m = four_less cs a.0 a.1 in
    elim (chosen _ _ _ _ a.2) [
      | inl p ↦ let n = half_less a.0.0 a.0.1 y p.1 in omega (arith, m, n)
      | inr p ↦ elim (chosen _ _ _ _ p.1) [
        | inl q ↦ absurd (never q.1)
        | inr q ↦ from_some (λ (p : ℕ × List ℕ). length p.1 < length cs) q.1 (omega (arith, m))
      ]
    ]

unicode_less : (cs : List ℕ) (y : ℕ × List ℕ) → unicode cs ≡ Some y → length y.1 < length cs
unfolding unicode
unicode_less [] y e = absurd (never e)
unicode_less (c ∷ cs) y e = elim (chosen _ _ _ _ e) [
  | inl p ↦ let n = braced_less 0 false cs y p.1 in omega (arith, n)
  | inr p ↦ digits_less (c ∷ cs) y p.1
]

line_feed_less : (cs : List ℕ) → length (skip_line_feed cs) ≤ length cs
unfolding skip_line_feed
line_feed_less [] = omega arith
line_feed_less (c ∷ cs) = elim (chosen (c == 10) cs (c ∷ cs) _ refl) [
  | inl p ↦ let l = ap length p.1 in omega (arith, l)
  | inr p ↦ let l = ap length p.1 in omega (arith, l)
]

one_less : (n : ℕ) (code : Code) (y : List ℕ × List ℕ) → ((x : ℕ × List ℕ) → code ≡ Some x → length x.1 ≤ n) → one code ≡ Some y → length y.1 ≤ n
unfolding one
one_less n code y h e =
    let a = bind_ok _ _ _ e in
    from_some (λ (p : List ℕ × List ℕ). length p.1 ≤ n) a.2 (h a.0 a.1)

after_line : (c : ℕ) (cs : List ℕ) → length (pick (c == 13) (skip_line_feed cs) cs) ≤ length cs
after_line c cs = elim (chosen (c == 13) (skip_line_feed cs) cs _ refl) [
  | inl p ↦ let l = ap length p.1 in omega (arith, l, line_feed_less cs)
  | inr p ↦ let l = ap length p.1 in omega (arith, l)
]

escape_less : (cs : List ℕ) (y : List ℕ × List ℕ) → escape cs ≡ Some y → length y.1 < length cs
unfolding escape
escape_less [] y e = absurd (never e)
escape_less (c ∷ cs) y e = elim (chosen _ _ _ _ e) [
  | inl p ↦ let g = guard_ok _ _ _ p.1 in from_some (Less (length (c ∷ cs))) g.1 (omega arith)
  | inr p ↦ elim (chosen _ _ _ _ p.1) [
    | inl q ↦ let n = one_less (length cs) (hex_two cs) y (λ x f. let m = two_less cs x f in omega (arith, m)) q.1 in omega (arith, n)
    | inr q ↦ elim (chosen _ _ _ _ q.1) [
      | inl r ↦ let n = one_less (length cs) (unicode cs) y (λ x f. let m = unicode_less cs x f in omega (arith, m)) r.1 in omega (arith, n)
      | inr r ↦ elim (chosen _ _ _ _ r.1) [
        | inl s ↦ from_some (Less (length (c ∷ cs))) s.1 (omega (arith, after_line c cs))
        | inr s ↦ from_some (Less (length (c ∷ cs))) s.1 (omega arith)
      ]
    ]
  ]
]

pub piece_less : (q : ℕ) (cs : List ℕ) (y : List ℕ × List ℕ) → piece q cs ≡ Some y → length y.1 < length cs
unfolding piece
piece_less q [] y e = absurd (never e)
piece_less q (c ∷ cs) y e = elim (chosen _ _ _ _ e) [
  | inl p ↦ let n = escape_less cs y p.1 in omega (arith, n)
  | inr p ↦
      let g = guard_ok _ _ _ p.1 in
      from_some (λ (p : List ℕ × List ℕ). length p.1 < length (c ∷ cs)) g.1 (omega arith)
]

-- ---- bodies

-- a body is there, and takes a character at least
pub record HasBody (q : ℕ) (cs : List ℕ) : Type 0 where
  pub value : List ℕ
  pub after : List ℕ
  pub body : Body q cs value after
  pub less : length after < length cs

pub record NoBody (q : ℕ) (cs : List ℕ) : Type 0 where
  pub none : (v after : List ℕ) → Body q cs v after → ⊥

is_number : (c q : ℕ) → (c == q) ≡ true → c ≡ q
is_number c q h = grind (arith, nat_tests)

no_number : (c q : ℕ) → (c == q) ≡ false → c ≡ q → ⊥
no_number c q h e = grind (arith, nat_tests)

nil_body : {q : ℕ} {cs v after : List ℕ} → cs ≡ [] → piece q cs ≡ None → Body q cs v after → ⊥
nil_body e n (closed f) = (let k : _ ∷ _ ≡ [] = e in cc)
nil_body e n (more p d) = none_some _ (sym n ∙ p)

stuck_body : {q : ℕ} {cs v after : List ℕ} (c : ℕ) (rest : List ℕ) → cs ≡ c ∷ rest → (c ≡ q → ⊥) → piece q cs ≡ None → Body q cs v after → ⊥
stuck_body c rest e other n (closed {c = d} f) = other (sym (ap (λ l. get_or l 0 0) e) ∙ f)
stuck_body c rest e other n (more p d) = none_some _ (sym n ∙ p)

-- behind a piece the body goes on
behind_piece : {q : ℕ} {cs v after : List ℕ} (y : List ℕ × List ℕ) → is_quote q ≡ true → piece q cs ≡ Some y → Body q cs v after → (w : List ℕ) × Body q y.1 w after
behind_piece {q} y h p (closed {c} {cs} e) = absurd (none_some _ (sym (quote_no_piece q c cs h e) ∙ p))
behind_piece {q} {after = after} y h p (more {w = w} p' d) =
    let same = ap (λ (x : List ℕ × List ℕ). x.1) (value (sym p' ∙ p)) in
    (w, subst (λ r. Body q r w after) same d)

piece_nil : (q : ℕ) → piece q [] ≡ None
unfolding piece
piece_nil q = refl

module _ (q : ℕ) (quote : is_quote q ≡ true) where
  goes_on : (cs : List ℕ) (y : List ℕ × List ℕ) → piece q cs ≡ Some y → HasBody q y.1 ⊎ NoBody q y.1 → HasBody q cs ⊎ NoBody q cs
  goes_on cs y p (inl h) =
      let l = piece_less q cs y p in
      let k = h.less in
      inl (record { value = y.0 ++ h.value; after = h.after; body = more p h.body; less = omega (arith, l, k) })
  goes_on cs y p (inr h) = inr (record { none = λ v after d. let b = behind_piece y quote p d in h.none b.0 after b.1 })

  -- of fewer characters it is known
  abbrev Known : ℕ → Type 0
  Known n = (cs : List ℕ) → length cs ≤ n → HasBody q cs ⊎ NoBody q cs

  one_more : (n c : ℕ) (cs : List ℕ) → length (c ∷ cs) ≤ suc n → Known n → HasBody q (c ∷ cs) ⊎ NoBody q (c ∷ cs)
  one_more n c cs le known = by_quote (c == q) refl
    where
      by_piece : (p : Piece) → piece q (c ∷ cs) ≡ p → (c == q) ≡ false → HasBody q (c ∷ cs) ⊎ NoBody q (c ∷ cs)
      by_piece None p e = inr (record { none = λ v after d. stuck_body c cs refl (no_number c q e) p d })
      by_piece (Some y) p e = goes_on (c ∷ cs) y p (known y.1 (let l = piece_less q (c ∷ cs) y p in omega (arith, l, le)))

      by_quote : (b : Bool) → (c == q) ≡ b → HasBody q (c ∷ cs) ⊎ NoBody q (c ∷ cs)
      by_quote true e = inl (record { value = []; after = cs; body = closed (is_number c q e); less = omega arith })
      by_quote false e = by_piece (piece q (c ∷ cs)) refl e

  -- the number bounds the characters
  pub body_or_none : (n : ℕ) → Known n
  body_or_none n [] le = inr (record { none = λ v after d. nil_body refl (piece_nil q) d })
  body_or_none zero (c ∷ cs) le = absurd (omega arith)
  body_or_none (suc n) (c ∷ cs) le = one_more n c cs le (body_or_none n)
