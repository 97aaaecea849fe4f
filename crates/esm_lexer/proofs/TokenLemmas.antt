-- Which token is the longest at the front of a text.
use Rattle.std.proofs.Common.{◌≡◌, ℕ, zero, suc, ◌+◌, ◌<◌, ◌≤◌, inl, inr, Bool, true, false, ◌&&◌, List, [], ◌∷◌, ◌++◌, length, get_or, take, drop, Some, None, encode_utf8, encode_utf8_all, refl, sym, ap, ◌∙◌, arith, length-drop, append_assoc}
use Rattle.std.proofs.lemmas.Bool.{cases_lt}
use Rattle.std.proofs.lemmas.List.{take-append-drop}
use Rattle.std.specs.List.{list_all}
use Rattle.esm_grammar.proofs.Tokens.{start_no_sign, start_no_quote, quote_no_sign, slice_is, lengths, true_false, sign_part, word_part, one_body}
use Rattle.esm_tree.specs.declared.token.TokenKind.{TokenKind}
use Rattle.esm_tree.specs.declared.token.TokenKind.TheVariants as kind
use Rattle.esm_tree.specs.declared.lexeme.Terminal.{Terminal}
use Rattle.esm_tree.specs.declared.lexeme.Terminal.TheVariants as t
use Rattle.esm_grammar.specs.Characters.{starts, continues, is_quote}
use Rattle.esm_grammar.specs.Strings.{Body}
use Rattle.esm_grammar.specs.Terminals.{word_terminal, sign_terminal}
use Rattle.esm_grammar.specs.Lexes.{is_word_text, IsToken, a_word, a_literal, a_sign, NoToken}
use Rattle.esm_lexer.specs.Inner.Pieces.{IsLiteral}
use Rattle.esm_lexer.specs.Tokens.{IsFound}

pub encode_append : (xs ys : List ℕ) → encode_utf8_all (xs ++ ys) ≡ encode_utf8_all xs ++ encode_utf8_all ys
encode_append [] ys = refl
encode_append (c ∷ xs) ys = ap (λ r. encode_utf8 c ++ r) (encode_append xs ys) ∙ sym (append_assoc (encode_utf8 c) (encode_utf8_all xs) (encode_utf8_all ys))

-- ---- words

all_front : (cs : List ℕ) (n : ℕ) → n ≤ length cs → ((k : ℕ) → k < n → continues (get_or cs k 0) ≡ true) → list_all continues (take n cs) ≡ true
all_front [] zero le h = refl
all_front [] (suc n) le h = absurd (omega arith)
all_front (c ∷ cs) zero le h = refl
all_front (c ∷ cs) (suc n) le h = rw (h 0 (omega arith), all_front cs n (omega arith) (λ k lt. h (suc k) (omega arith))) refl

and_false : (b : Bool) → (b && false) ≡ false
and_false true = refl
and_false false = refl

no_longer : (cs : List ℕ) (n m : ℕ) → n < m → m ≤ length cs → continues (get_or cs n 0) ≡ false → list_all continues (take m cs) ≡ false
no_longer [] n m lt le h = absurd (omega arith)
no_longer (c ∷ cs) n zero lt le h = absurd (omega arith)
no_longer (c ∷ cs) zero (suc m) lt le h = rw h refl
no_longer (c ∷ cs) (suc n) (suc m) lt le h = rw (no_longer cs n m (omega arith) (omega arith) h) (and_false (continues c))

no_word_longer : (c : ℕ) (cs : List ℕ) (n : ℕ) (s behind : List ℕ) → starts c ≡ true → (n < length cs → continues (get_or cs n 0) ≡ false) → c ∷ cs ≡ s ++ behind → is_word_text s ≡ true → length s ≤ suc n
no_word_longer c cs n [] behind h stop e w = omega arith
no_word_longer c cs n (d ∷ s) behind h stop e w = elim (cases_lt n (length s)) [
  | inl lt ↦
      let tail : cs ≡ s ++ behind = ap (drop 1) e in
      let len = lengths cs s behind tail in
      let word : (starts d && list_all continues s) ≡ true = w in
      let rest : list_all continues s ≡ true = and_second (starts d) _ word in
      let none = no_longer cs n (length s) lt (omega arith) (stop (omega arith)) in
      absurd (true_false (sym (ap (list_all continues) (slice_is cs s behind tail)) ∙ rest) none)
  | inr ge ↦ omega arith
]
  where
    and_second : (a b : Bool) → (a && b) ≡ true → b ≡ true
    and_second true b p = p
    and_second false b p = absurd (cc)

-- a token at a text that begins with a start character is a word
no_literal_at : (c : ℕ) (cs : List ℕ) → is_quote c ≡ false → {x : Terminal} {s behind : List ℕ} → IsToken kind.Literal (c ∷ cs) x s behind → ⊥
no_literal_at c cs h (a_literal q d) = true_false q h

pub word_found : (text : List ℕ) (n : ℕ) → 0 < length text → starts (get_or text 0 0) ≡ true → n ≤ length (drop 1 text) → ((k : ℕ) → k < n → continues (get_or (drop 1 text) k 0) ≡ true)
    → (n < length (drop 1 text) → continues (get_or (drop 1 text) n 0) ≡ false) → IsFound text kind.Word (word_terminal (encode_utf8_all (take (n + 1) text))) (encode_utf8_all (take (n + 1) text)) (n + 1)
word_found [] n some h le before stop = absurd (omega arith)
word_found (c ∷ cs) n some h le before stop =
    let sum : n + 1 ≡ suc n = omega arith in
    rw sum (record {
      longest = record {
        token = a_word (c ∷ take n cs) (ap (λ r. c ∷ r) (sym (take-append-drop n cs))) (rw (h, all_front cs n le before) refl);
        longest = longer;
      };
      within = omega arith;
      some = omega arith;
    })
  where
    longer : (other : TokenKind) (x : Terminal) (s behind : List ℕ) → IsToken other (c ∷ cs) x s behind → length (drop n cs) ≤ length behind
    longer kind.Word x s behind (a_word s' e w) =
        let short = no_word_longer c cs n s' behind h stop e w in
        omega (arith, short, lengths (c ∷ cs) s' behind e, length-drop n cs)
    longer kind.Sign x s behind (a_sign s' e p) = absurd (sign_part c cs s' behind x (start_no_sign c h) e p)
    longer kind.Literal x s behind (a_literal q d) = absurd (true_false q (start_no_quote c h))

module _ (c : ℕ) (cs : List ℕ) (no_word : starts c ≡ false) (quote : is_quote c ≡ true) where
  pub literal_found_at : (v : List ℕ) (n : ℕ) → Body c cs v (drop n (c ∷ cs)) → n ≤ length (c ∷ cs) → 0 < n → IsFound (c ∷ cs) kind.Literal t.Literal (encode_utf8_all v) n
  literal_found_at v n d le some = record {
    longest = record { token = a_literal quote d; longest = longer };
    within = le;
    some = some;
  }
    where
      longer : (other : TokenKind) (x : Terminal) (s behind : List ℕ) → IsToken other (c ∷ cs) x s behind → length (drop n (c ∷ cs)) ≤ length behind
      longer kind.Word x s behind (a_word s' e w) = absurd (word_part c cs s' behind no_word e w)
      longer kind.Sign x s behind (a_sign s' e p) = absurd (sign_part c cs s' behind x (quote_no_sign c quote) e p)
      longer kind.Literal x s behind (a_literal q f) = let r = (one_body quote d f).1 in let e = ap length r in omega (arith, e)

  pub no_literal_found : ((v after : List ℕ) → Body c cs v after → ⊥) → NoToken (c ∷ cs)
  no_literal_found never = record { none = at }
    where
      at : (other : TokenKind) (x : Terminal) (s behind : List ℕ) → IsToken other (c ∷ cs) x s behind → ⊥
      at kind.Word x s behind (a_word s' e w) = word_part c cs s' behind no_word e w
      at kind.Sign x s behind (a_sign s' e p) = sign_part c cs s' behind x (quote_no_sign c quote) e p
      at kind.Literal x s behind (a_literal q f) = never _ behind f

pub literal_found : (text : List ℕ) (spelled : List ℕ) (n : ℕ) → 0 < length text → starts (get_or text 0 0) ≡ false → is_quote (get_or text 0 0) ≡ true → IsLiteral text (get_or text 0 0) spelled n → IsFound text kind.Literal t.Literal spelled n
literal_found [] spelled n some no_word quote l = absurd (omega arith)
literal_found (c ∷ cs) spelled n some no_word quote l = rw l.spelled_is (literal_found_at c cs no_word quote l.value n l.body l.within l.some)

pub literal_missing : (text : List ℕ) → 0 < length text → starts (get_or text 0 0) ≡ false → is_quote (get_or text 0 0) ≡ true → ((v after : List ℕ) → Body (get_or text 0 0) (drop 1 text) v after → ⊥) → NoToken text
literal_missing [] some no_word quote never = absurd (omega arith)
literal_missing (c ∷ cs) some no_word quote never = no_literal_found c cs no_word quote never

module _ (c : ℕ) (cs : List ℕ) (no_word : starts c ≡ false) (no_quote : is_quote c ≡ false) where
  sign_found_at : (x : Terminal) (n : ℕ) → n ≤ length (c ∷ cs) → 0 < n → sign_terminal (take n (c ∷ cs)) ≡ Some x → ((m : ℕ) → n < m → m ≤ length (c ∷ cs) → sign_terminal (take m (c ∷ cs)) ≡ None) → IsFound (c ∷ cs) kind.Sign x [] n
  sign_found_at x n le some is longest' = record {
    longest = record { token = a_sign (take n (c ∷ cs)) (sym (take-append-drop n (c ∷ cs))) is; longest = longer };
    within = le;
    some = some;
  }
    where
      longer : (other : TokenKind) (y : Terminal) (s behind : List ℕ) → IsToken other (c ∷ cs) y s behind → length (drop n (c ∷ cs)) ≤ length behind
      longer kind.Word y s behind (a_word s' e w) = absurd (word_part c cs s' behind no_word e w)
      longer kind.Literal y s behind (a_literal q d) = absurd (true_false q no_quote)
      longer kind.Sign y s behind (a_sign s' e p) = elim (cases_lt n (length s')) [
        | inl lt ↦
            let none = longest' (length s') lt (omega (arith, lengths (c ∷ cs) s' behind e)) in
            absurd (let r : None ≡ Some y = sym none ∙ ap sign_terminal (sym (slice_is (c ∷ cs) s' behind e)) ∙ p in cc)
        | inr ge ↦ omega (arith, lengths (c ∷ cs) s' behind e, length-drop n (c ∷ cs))
      ]

  no_sign_found : ((m : ℕ) → m ≤ length (c ∷ cs) → sign_terminal (take m (c ∷ cs)) ≡ None) → NoToken (c ∷ cs)
  no_sign_found never = record { none = at }
    where
      at : (other : TokenKind) (y : Terminal) (s behind : List ℕ) → IsToken other (c ∷ cs) y s behind → ⊥
      at kind.Word y s behind (a_word s' e w) = word_part c cs s' behind no_word e w
      at kind.Literal y s behind (a_literal q d) = true_false q no_quote
      at kind.Sign y s behind (a_sign s' e p) =
          let none = never (length s') (omega (arith, lengths (c ∷ cs) s' behind e)) in
          (let r : None ≡ Some y = sym none ∙ ap sign_terminal (sym (slice_is (c ∷ cs) s' behind e)) ∙ p in cc)

pub sign_found : (text : List ℕ) (x : Terminal) (n : ℕ) → 0 < length text → starts (get_or text 0 0) ≡ false → is_quote (get_or text 0 0) ≡ false → n ≤ length text → 0 < n → sign_terminal (take n text) ≡ Some x
    → ((m : ℕ) → n < m → m ≤ length text → sign_terminal (take m text) ≡ None) → IsFound text kind.Sign x [] n
sign_found [] x n some no_word no_quote le more' is longest' = absurd (omega arith)
sign_found (c ∷ cs) x n some no_word no_quote le more' is longest' = sign_found_at c cs no_word no_quote x n le more' is longest'

pub sign_missing : (text : List ℕ) → 0 < length text → starts (get_or text 0 0) ≡ false → is_quote (get_or text 0 0) ≡ false → ((m : ℕ) → m ≤ length text → sign_terminal (take m text) ≡ None) → NoToken text
sign_missing [] some no_word no_quote never = absurd (omega arith)
sign_missing (c ∷ cs) some no_word no_quote never = no_sign_found c cs no_word no_quote never
