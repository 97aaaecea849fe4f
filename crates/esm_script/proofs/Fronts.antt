-- At the front of a text stands a longest token, or none.
use Rattle.std.proofs.Common.{◌≡◌, ℕ, zero, suc, ◌<◌, ◌≤◌, ◌⊎◌, inl, inr, Bool, true, false, List, [], ◌∷◌, length, get_or, take, drop, Option, Some, None, encode_utf8_all, refl, ap, ◌∙◌, arith, length-drop}
use Rattle.std.proofs.lemmas.Bool.{cases_lt}
use Rattle.esm_tree.specs.declared.token.TokenKind.{TokenKind}
use Rattle.esm_tree.specs.declared.token.TokenKind.TheVariants as kind
use Rattle.esm_tree.specs.declared.lexeme.Terminal.{Terminal}
use Rattle.esm_tree.specs.declared.lexeme.Terminal.TheVariants as t
use Rattle.esm_grammar.specs.Characters.{starts, continues, is_quote}
use Rattle.esm_grammar.specs.Terminals.{sign_terminal}
use Rattle.esm_grammar.specs.Lexes.{IsToken, a_word, a_literal, a_sign, Longest, NoToken}
use Rattle.esm_grammar.proofs.Tokens.{quote_no_sign, sign_part, word_part, one_body}
use Rattle.esm_lexer.specs.Tokens.{IsFound}
use Rattle.esm_lexer.proofs.TokenLemmas.{word_found, sign_found, sign_missing, no_literal_found}
use Rattle.esm_script.proofs.Literals.{HasBody, body_or_none}

-- a longest token, which takes a character at least
pub record HasToken (text : List ℕ) : Type 0 where
  pub kind : TokenKind
  pub terminal : Terminal
  pub spelled : List ℕ
  pub after : List ℕ
  pub longest : Longest text kind terminal spelled after
  pub less : length after < length text

found : {text : List ℕ} {k : TokenKind} {x : Terminal} {s : List ℕ} {n : ℕ} → IsFound text k x s n → HasToken text
found {text} {k} {x} {s} {n} f =
    let w = f.within in
    let o = f.some in
    record { kind = k; terminal = x; spelled = s; after = drop n text; longest = f.longest; less = omega (arith, w, o, length-drop n text) }

-- ---- words

-- how many characters at the front continue a word
record Run (cs : List ℕ) : Type 0 where
  pub n : ℕ
  pub within : n ≤ length cs
  pub before : (k : ℕ) → k < n → continues (get_or cs k 0) ≡ true
  pub stop : n < length cs → continues (get_or cs n 0) ≡ false

longer_run : (c : ℕ) (cs : List ℕ) → continues c ≡ true → Run cs → Run (c ∷ cs)
longer_run c cs h r =
    let w = r.within in
    record { n = suc r.n; within = omega (arith, w); before = before; stop = λ lt. r.stop (omega arith) }
  where
    before : (k : ℕ) → k < suc r.n → continues (get_or (c ∷ cs) k 0) ≡ true
    before zero lt = h
    before (suc k) lt = r.before k (omega arith)

run : (cs : List ℕ) → Run cs
run [] = record { n = 0; within = omega arith; before = λ k lt. absurd (omega arith); stop = λ lt. absurd (omega arith) }
run (c ∷ cs) = by (continues c) refl (run cs)
  where
    by : (b : Bool) → continues c ≡ b → Run cs → Run (c ∷ cs)
    by true h r = longer_run c cs h r
    by false h r = record { n = 0; within = omega arith; before = λ k lt. absurd (omega arith); stop = λ lt. h }

word : (c : ℕ) (cs : List ℕ) → starts c ≡ true → HasToken (c ∷ cs)
word c cs h = let r = run cs in found (word_found (c ∷ cs) r.n (omega arith) h r.within r.before r.stop)

-- ---- signs

long_none : (text : List ℕ) (m : ℕ) → 3 < m → m ≤ length text → sign_terminal (take m text) ≡ None
long_none [] m lt le = absurd (omega arith)
long_none (a ∷ []) m lt le = absurd (omega arith)
long_none (a ∷ b ∷ []) m lt le = absurd (omega arith)
long_none (a ∷ b ∷ c ∷ []) m lt le = absurd (omega arith)
long_none (a ∷ b ∷ c ∷ d ∷ cs) zero lt le = absurd (omega arith)
long_none (a ∷ b ∷ c ∷ d ∷ cs) (suc zero) lt le = absurd (omega arith)
long_none (a ∷ b ∷ c ∷ d ∷ cs) (suc (suc zero)) lt le = absurd (omega arith)
long_none (a ∷ b ∷ c ∷ d ∷ cs) (suc (suc (suc zero))) lt le = absurd (omega arith)
long_none (a ∷ b ∷ c ∷ d ∷ cs) (suc (suc (suc (suc m)))) lt le = refl

module _ (c : ℕ) (cs : List ℕ) (no_word : starts c ≡ false) (no_quote : is_quote c ≡ false) where
  abbrev text : List ℕ
  text = c ∷ cs

  abbrev NoneFrom : ℕ → Type 0
  NoneFrom n = (m : ℕ) → n < m → m ≤ length text → sign_terminal (take m text) ≡ None

  none_at_all : NoneFrom 0 → NoToken text
  none_at_all h = sign_missing text (omega arith) no_word no_quote at
    where
      at : (m : ℕ) → m ≤ length text → sign_terminal (take m text) ≡ None
      at zero le = refl
      at (suc m) le = h (suc m) (omega arith) le

  one_fewer : (n : ℕ) → sign_terminal (take (suc n) text) ≡ None → NoneFrom (suc n) → NoneFrom n
  one_fewer n e h m lt le = elim (cases_lt (suc n) m) [
    | inl more ↦ h m more le
    | inr same ↦ let k : m ≡ suc n = omega arith in ap (λ i. sign_terminal (take i text)) k ∙ e
  ]

  -- whether this many characters are a sign
  sign_of : (n : ℕ) → suc n ≤ length text → NoneFrom (suc n) → (NoneFrom n → HasToken text ⊎ NoToken text) → HasToken text ⊎ NoToken text
  sign_of n within h fewer = by (sign_terminal (take (suc n) text)) refl
    where
      by : (x : Option Terminal) → sign_terminal (take (suc n) text) ≡ x → HasToken text ⊎ NoToken text
      by None e = fewer (one_fewer n e h)
      by (Some x) e = inl (found (sign_found text x (suc n) (omega arith) no_word no_quote within (omega arith) e h))

  -- no sign has more characters than this
  sign_from : (n : ℕ) → NoneFrom n → HasToken text ⊎ NoToken text
  sign_from zero h = inr (none_at_all h)
  sign_from (suc n) h = elim (cases_lt (length text) (suc n)) [
    | inl short ↦ sign_from n (λ m lt le. absurd (omega arith))
    | inr within ↦ sign_of n within h (sign_from n)
  ]

  sign : HasToken text ⊎ NoToken text
  sign = sign_from 3 (long_none text)

-- ---- string literals

module _ (c : ℕ) (cs : List ℕ) (no_word : starts c ≡ false) (quote : is_quote c ≡ true) where
  literal_is : HasBody c cs → HasToken (c ∷ cs)
  literal_is b =
      let l = b.less in
      record {
        kind = kind.Literal;
        terminal = t.Literal;
        spelled = encode_utf8_all b.value;
        after = b.after;
        longest = record { token = a_literal quote b.body; longest = longer };
        less = omega (arith, l);
      }
    where
      longer : (other : TokenKind) (x : Terminal) (s behind : List ℕ) → IsToken other (c ∷ cs) x s behind → length b.after ≤ length behind
      longer kind.Word x s behind (a_word s' e w) = absurd (word_part c cs s' behind no_word e w)
      longer kind.Sign x s behind (a_sign s' e p) = absurd (sign_part c cs s' behind x (quote_no_sign c quote) e p)
      longer kind.Literal x s behind (a_literal q f) = let e = ap length (one_body quote b.body f).1 in omega (arith, e)

  literal : HasToken (c ∷ cs) ⊎ NoToken (c ∷ cs)
  literal = elim (body_or_none c quote (length cs) cs (omega arith)) [
    | inl b ↦ inl (literal_is b)
    | inr b ↦ inr (no_literal_found c cs no_word quote b.none)
  ]

pub token_or_none : (c : ℕ) (cs : List ℕ) → HasToken (c ∷ cs) ⊎ NoToken (c ∷ cs)
token_or_none c cs = by (starts c) (is_quote c) refl refl
  where
    by : (b d : Bool) → starts c ≡ b → is_quote c ≡ d → HasToken (c ∷ cs) ⊎ NoToken (c ∷ cs)
    by true d h q = inl (word c cs h)
    by false true h q = literal c cs h q
    by false false h q = sign c cs h q
