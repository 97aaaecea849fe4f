-- What stands behind a token is shorter than what begins with it.
use Rattle.std.proofs.Common.{◌≡◌, ℕ, suc, ◌+◌, ◌*◌, ◌<◌, ◌≤◌, Bool, true, false, List, [], ◌∷◌, length, Option, Some, None, subst, arith, refl}
use Rattle.std.specs.Prelude.{◌==◌}
use Rattle.std.specs.Char.{digit_value}
use Rattle.esm_tree.specs.declared.token.TokenKind.{TokenKind}
use Rattle.esm_tree.specs.declared.lexeme.Terminal.{Terminal}
use Rattle.esm_grammar.specs.Reading.{◌>>=◌, pick}
use Rattle.esm_grammar.specs.Strings.{hex_two, hex_four, braced, second_half, four_digits, unicode, skip_line_feed, one, escape, piece, Body}
use Rattle.esm_grammar.specs.Strings.Body.{closed, more}
use Rattle.esm_grammar.specs.Lexes.{IsToken}
use Rattle.esm_grammar.specs.Lexes.IsToken.{a_word, a_literal, a_sign}
use Rattle.esm_grammar.proofs.Tokens.{lengths, true_false}

-- what is left, where something is read, is at most so long
record AtMost {A : Type 0} (n : ℕ) (r : Option (A × List ℕ)) : Type 0 where
  pub at : (p : A × List ℕ) → r ≡ Some p → length p.1 ≤ n

reads : {A : Type 0} (n : ℕ) (x : A) (cs : List ℕ) → length cs ≤ n → AtMost n (Some (x, cs))
reads {A} n x cs le = record { at = λ p e. let f : (x, cs) ≡ p = cc in subst (λ (q : A × List ℕ). length q.1 ≤ n) f le }

refuses : {A : Type 0} (n : ℕ) → AtMost {A = A} n None
refuses n = record { at = λ p e. absurd (cc) }

longer : {A : Type 0} (m n : ℕ) (r : Option (A × List ℕ)) → AtMost m r → m ≤ n → AtMost n r
longer m n r h le = record { at = λ p e. let k = h.at p e in omega (arith, k, le) }

chooses : {A : Type 0} (n : ℕ) (b : Bool) (x y : Option (A × List ℕ)) → AtMost n x → AtMost n y → AtMost n (pick b x y)
unfolding pick
chooses n true x y h k = h
chooses n false x y h k = k

goes_on : {A B : Type 0} (n : ℕ) (r : Option (A × List ℕ)) (f : A × List ℕ → Option (B × List ℕ)) → AtMost n r → ((p : A × List ℕ) → length p.1 ≤ n → AtMost n (f p)) → AtMost n (r >>= f)
unfolding ◌>>=◌
goes_on n None f h k = refuses n
goes_on n (Some p) f h k = k p (h.at p refl)

hex_two_less : (cs : List ℕ) → AtMost (length cs) (hex_two cs)
unfolding hex_two
hex_two_less [] = refuses 0
hex_two_less (a ∷ []) = refuses 1
hex_two_less (a ∷ b ∷ cs) = let n = suc (suc (length cs)) in chooses n _ _ _ (chooses n _ _ _ (reads n _ cs (omega arith)) (refuses n)) (refuses n)

hex_four_less : (cs : List ℕ) → AtMost (length cs) (hex_four cs)
unfolding hex_four
hex_four_less cs =
    let n = length cs in
    goes_on n _ _ (hex_two_less cs) (λ a h. goes_on n _ _ (longer (length a.1) n _ (hex_two_less a.1) h) (λ b k. reads n _ b.1 k))

braced_less : (x : ℕ) (some : Bool) (cs : List ℕ) → AtMost (length cs) (braced x some cs)
unfolding braced
braced_less x some [] = refuses 0
braced_less x some (c ∷ cs) =
    let n = suc (length cs) in
    let y = 16 * x + digit_value c in
    chooses n _ _ _ (chooses n _ _ _ (longer (length cs) n _ (braced_less y true cs) (omega arith)) (refuses n)) (chooses n _ _ _ (reads n _ cs (omega arith)) (refuses n))

second_half_less : (high : ℕ) (cs : List ℕ) → AtMost (length cs) (second_half high cs)
unfolding second_half
second_half_less high [] = refuses 0
second_half_less high (b ∷ []) = refuses 1
second_half_less high (b ∷ u ∷ cs) =
    let n = suc (suc (length cs)) in
    chooses n _ _ _ (goes_on n _ _ (longer (length cs) n _ (hex_four_less cs) (omega arith)) (λ y k. chooses n _ _ _ (reads n _ y.1 k) (refuses n))) (refuses n)

four_digits_less : (cs : List ℕ) → AtMost (length cs) (four_digits cs)
unfolding four_digits
four_digits_less cs =
    let n = length cs in
    goes_on n _ _ (hex_four_less cs) (λ x k. chooses n _ _ _ (longer (length x.1) n _ (second_half_less x.0 x.1) k) (chooses n _ _ _ (refuses n) (record { at = λ p e. let f : x ≡ p = cc in subst (λ (q : ℕ × List ℕ). length q.1 ≤ n) f k })))

unicode_less : (cs : List ℕ) → AtMost (length cs) (unicode cs)
unfolding unicode
unicode_less [] = refuses 0
unicode_less (c ∷ cs) = let n = suc (length cs) in chooses n _ _ _ (longer (length cs) n _ (braced_less 0 false cs) (omega arith)) (four_digits_less (c ∷ cs))

skipped_less : (cs : List ℕ) → length (skip_line_feed cs) ≤ length cs
unfolding skip_line_feed pick
skipped_less [] = omega arith
skipped_less (c ∷ cs) = by (c == 10)
  where
    by : (b : Bool) → length (pick b cs (c ∷ cs)) ≤ suc (length cs)
    by true = omega arith
    by false = omega arith

continued_less : (b : Bool) (cs : List ℕ) → length (pick b (skip_line_feed cs) cs) ≤ length cs
unfolding pick
continued_less true cs = skipped_less cs
continued_less false cs = omega arith

one_less : (n : ℕ) (r : Option (ℕ × List ℕ)) → AtMost n r → AtMost n (one r)
unfolding one
one_less n r h = goes_on n r _ h (λ x k. reads n _ x.1 k)

escape_less : (cs : List ℕ) → AtMost (length cs) (escape cs)
unfolding escape
escape_less [] = refuses 0
escape_less (c ∷ cs) =
    let n = suc (length cs) in
    let here : AtMost {A = List ℕ} n _ = reads n (0 ∷ []) cs (omega arith) in
    chooses n _ _ _ (chooses n _ _ _ here (refuses n))
    (chooses n _ _ _ (longer (length cs) n _ (one_less (length cs) _ (hex_two_less cs)) (omega arith))
    (chooses n _ _ _ (longer (length cs) n _ (one_less (length cs) _ (unicode_less cs)) (omega arith))
    (chooses n _ _ _ (let k = continued_less (c == 13) cs in reads n _ _ (omega (arith, k))) (reads n _ cs (omega arith)))))

piece_less : (q : ℕ) (cs : List ℕ) → AtMost (length cs) (piece q cs)
unfolding piece
piece_less q [] = refuses 0
piece_less q (c ∷ cs) = let n = suc (length cs) in chooses n _ _ _ (longer (length cs) n _ (escape_less cs) (omega arith)) (chooses n _ _ _ (reads n _ cs (omega arith)) (refuses n))

body_less : {q : ℕ} {cs v after : List ℕ} → Body q cs v after → length after ≤ length cs
body_less (closed e) = omega arith
body_less {q} {cs} (more p d) = let k = (piece_less q cs).at _ p in let rest = body_less d in omega (arith, k, rest)

pub token_shorter : {k : TokenKind} {text s after : List ℕ} {x : Terminal} → IsToken k text x s after → length after < length text
token_shorter (a_word [] e w) = absurd (true_false w refl)
token_shorter (a_word {text} {after} (c ∷ s) e w) = let l = lengths text (c ∷ s) after e in omega (arith, l)
token_shorter (a_literal h d) = let l = body_less d in omega (arith, l)
token_shorter (a_sign [] e p) = absurd (let f : None ≡ Some _ = p in cc)
token_shorter (a_sign {text} {after} (c ∷ s) e p) = let l = lengths text (c ∷ s) after e in omega (arith, l)
