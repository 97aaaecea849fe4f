-- What tells the kinds of tokens apart, and that a text begins with at most one longest token.
use Rattle.std.proofs.Common.{◌≡◌, ℕ, ◌+◌, ◌-◌, ◌<◌, ◌≤◌, inl, inr, Bool, true, false, ◌||◌, ◌&&◌, ◌==◌, List, [], ◌∷◌, ◌++◌, length, get_or, take, drop, Option, Some, None, encode_utf8_all, refl, sym, subst, ap, ◌∙◌, arith, length-append}
use Rattle.std.proofs.lemmas.Bool.Decides.{nat_tests}
use Rattle.std.proofs.lemmas.Bool.{cases_lt}
use Rattle.std.proofs.Math.Seq.{take-append_seam, drop-append_seam}
use Rattle.std.specs.List.{list_all}
use Rattle.std.specs.Char.{is_ascii_alphabetic}
use Rattle.unicode_ident.proofs.IdentLemmas.{is_xid_start-ascii}
use Rattle.esm_tree.specs.declared.token.TokenKind.{TokenKind}
use Rattle.esm_tree.specs.declared.lexeme.Terminal.{Terminal}
use Rattle.esm_tree.specs.declared.lexeme.Terminal.TheVariants as t
use Rattle.esm_tree.specs.Lexeme.{Lexeme, lexeme}
use Rattle.esm_grammar.specs.Characters.{starts, continues, is_quote}
use Rattle.esm_grammar.specs.Reading.{pick}
use Rattle.esm_grammar.specs.Strings.{Body, closed, more, piece, is_plain}
use Rattle.esm_grammar.specs.Terminals.{word_terminal, single_sign, double_sign, triple_sign, sign_terminal}
use Rattle.esm_grammar.specs.Lexes.{is_word_text, IsToken, a_word, a_literal, a_sign, Longest, gap, Gap, widths, Lexes, all_read, stuck, blank, token}

-- ---- what tells the kinds apart

pick_same : {A : Type 0} (b : Bool) (x : A) → pick b x x ≡ x
unfolding pick
pick_same true x = refl
pick_same false x = refl

unfoldable pub sign_char : ℕ → Bool
sign_char c =
    (c == 123) || (c == 125) || (c == 40) || (c == 41) || (c == 59) || (c == 44) || (c == 46) || (c == 42) || (c == 43) || (c == 61) || (c == 33) || (c == 38) || (c == 124)

module _ (c : ℕ) (h : sign_char c ≡ false) where
  no_single : single_sign c ≡ None
  unfolding sign_char single_sign pick
  no_single =
      let a1 : (c == 123) ≡ false = grind (arith, nat_tests, h) in
      let a2 : (c == 125) ≡ false = grind (arith, nat_tests, h) in
      let a3 : (c == 40) ≡ false = grind (arith, nat_tests, h) in
      let a4 : (c == 41) ≡ false = grind (arith, nat_tests, h) in
      let a5 : (c == 59) ≡ false = grind (arith, nat_tests, h) in
      let a6 : (c == 44) ≡ false = grind (arith, nat_tests, h) in
      let a7 : (c == 46) ≡ false = grind (arith, nat_tests, h) in
      let a8 : (c == 42) ≡ false = grind (arith, nat_tests, h) in
      let a9 : (c == 43) ≡ false = grind (arith, nat_tests, h) in
      let a10 : (c == 61) ≡ false = grind (arith, nat_tests, h) in
      let a11 : (c == 33) ≡ false = grind (arith, nat_tests, h) in
      rw (a1, a2, a3, a4, a5, a6, a7, a8, a9, a10, a11) refl

  no_double : (d : ℕ) → double_sign c d ≡ None
  unfolding sign_char double_sign pick
  no_double d =
      let a1 : (c == 38) ≡ false = grind (arith, nat_tests, h) in
      let a2 : (c == 124) ≡ false = grind (arith, nat_tests, h) in
      by (c == d) a1 a2
    where
      by : (b : Bool) → (c == 38) ≡ false → (c == 124) ≡ false → pick b (pick (c == 38) (Some t.AndAnd) (pick (c == 124) (Some t.OrOr) None)) None ≡ None
      by b a1 a2 = rw (a1, a2) (pick_same b None)

  no_triple : (d e : ℕ) → triple_sign c d e ≡ None
  unfolding sign_char triple_sign pick
  no_triple d e =
      let a1 : (c == 61) ≡ false = grind (arith, nat_tests, h) in
      let a2 : (c == 33) ≡ false = grind (arith, nat_tests, h) in
      by ((d == 61) && (e == 61)) a1 a2
    where
      by : (b : Bool) → (c == 61) ≡ false → (c == 33) ≡ false → pick b (pick (c == 61) (Some t.Same) (pick (c == 33) (Some t.Differs) None)) None ≡ None
      by b a1 a2 = rw (a1, a2) (pick_same b None)

  no_sign_with : (rest : List ℕ) → sign_terminal (c ∷ rest) ≡ None
  no_sign_with [] = no_single
  no_sign_with (d ∷ []) = no_double d
  no_sign_with (d ∷ e ∷ []) = no_triple d e
  no_sign_with (d ∷ e ∷ f ∷ r) = refl

ascii_start : (c : ℕ) → c < 128 → starts c ≡ (is_ascii_alphabetic c || (c == 36) || (c == 95))
unfolding starts
ascii_start c lt = rw (is_xid_start-ascii c lt) refl

low_sign : (c : ℕ) → (is_ascii_alphabetic c || (c == 36) || (c == 95)) ≡ true → sign_char c ≡ false
unfolding sign_char
low_sign c a = grind (arith, nat_tests)

high_sign : (c : ℕ) → 128 ≤ c → sign_char c ≡ false
unfolding sign_char
high_sign c ge = grind (arith, nat_tests)

pub start_no_sign : (c : ℕ) → starts c ≡ true → sign_char c ≡ false
start_no_sign c h = elim (cases_lt c 128) [ inl lt ↦ low_sign c (sym (ascii_start c lt) ∙ h) | inr ge ↦ high_sign c ge ]

low_quote : (c : ℕ) → (is_ascii_alphabetic c || (c == 36) || (c == 95)) ≡ true → is_quote c ≡ false
unfolding is_quote
low_quote c a = grind (arith, nat_tests)

high_quote : (c : ℕ) → 128 ≤ c → is_quote c ≡ false
unfolding is_quote
high_quote c ge = grind (arith, nat_tests)

pub start_no_quote : (c : ℕ) → starts c ≡ true → is_quote c ≡ false
start_no_quote c h = elim (cases_lt c 128) [ inl lt ↦ low_quote c (sym (ascii_start c lt) ∙ h) | inr ge ↦ high_quote c ge ]

pub quote_no_sign : (c : ℕ) → is_quote c ≡ true → sign_char c ≡ false
unfolding is_quote sign_char
quote_no_sign c h = grind (arith, nat_tests)

quote_no_backslash : (c : ℕ) → is_quote c ≡ true → (c == 92) ≡ false
unfolding is_quote
quote_no_backslash c h = grind (arith, nat_tests)

same_number : (c : ℕ) → (c == c) ≡ true
same_number c = grind (arith, nat_tests)

-- ---- the body of a string literal ends at one place

pub quote_no_piece : (q c : ℕ) (cs : List ℕ) → is_quote q ≡ true → c ≡ q → piece q (c ∷ cs) ≡ None
unfolding piece is_plain pick
quote_no_piece q c cs h e = rw e (rw (quote_no_backslash q h, same_number q) refl)

pub value : {X : Type 0} {x y : X} → Some x ≡ Some y → x ≡ y
value e = cc

first_of : {v w a b : List ℕ} → ◌≡◌ {A = Option (List ℕ × List ℕ)} (Some (v, a)) (Some (w, b)) → v ≡ w
first_of e = ap (λ (p : List ℕ × List ℕ). p.0) (value e)

second_of : {v w a b : List ℕ} → ◌≡◌ {A = Option (List ℕ × List ℕ)} (Some (v, a)) (Some (w, b)) → a ≡ b
second_of e = ap (λ (p : List ℕ × List ℕ). p.1) (value e)

pub none_some : (x : List ℕ × List ℕ) → ◌≡◌ {A = Option (List ℕ × List ℕ)} None (Some x) → ⊥
none_some x e = cc

pub one_body : {q : ℕ} {cs v w rest other : List ℕ} → is_quote q ≡ true → Body q cs v rest → Body q cs w other → (v ≡ w) × (rest ≡ other)
one_body h (closed e) (closed f) = (refl, refl)
one_body {q} h (closed {c} {cs} e) (more p d) = absurd (none_some _ (sym (quote_no_piece q c cs h e) ∙ p))
one_body {q} h (more p d) (closed {c} {cs} e) = absurd (none_some _ (sym (quote_no_piece q c cs h e) ∙ p))
one_body {q} h (more {v = v} {w = w} p d) (more {rest = rest'} {v = v'} {w = w'} p' d') =
    let e = sym p ∙ p' in
    let again : Body q _ w' rest' = subst (λ a. Body q a w' rest') (sym (second_of e)) d' in
    let r = one_body h d again in
    (λ i. first_of e i ++ r.0 i, r.1)

-- a slice at the front is so many characters
pub slice_is : (text s after : List ℕ) → text ≡ s ++ after → s ≡ take (length s) text
slice_is text s after e = rw e (sym (take-append_seam s after))

pub lengths : (text s after : List ℕ) → text ≡ s ++ after → length text ≡ length s + length after
lengths text s after e = ap length e ∙ length-append s after

pub true_false : {b : Bool} → b ≡ true → b ≡ false → ⊥
true_false p q = let e : true ≡ false = sym p ∙ q in cc

pub sign_part : (c : ℕ) (cs s behind : List ℕ) (x : Terminal) → sign_char c ≡ false → c ∷ cs ≡ s ++ behind → sign_terminal s ≡ Some x → ⊥
sign_part c cs [] behind x h e p = absurd (let n : None ≡ Some x = p in cc)
sign_part c cs (d ∷ s) behind x h e p =
    let same : c ≡ d = ap (λ l. get_or l 0 0) e in
    let none : sign_terminal (d ∷ s) ≡ None = no_sign_with d (subst (λ y. sign_char y ≡ false) same h) s in
    absurd (let n : None ≡ Some x = sym none ∙ p in cc)

pub word_part : (c : ℕ) (cs s behind : List ℕ) → starts c ≡ false → c ∷ cs ≡ s ++ behind → is_word_text s ≡ true → ⊥
word_part c cs [] behind h e p = true_false p refl
word_part c cs (d ∷ s) behind h e p =
    let same : c ≡ d = ap (λ l. get_or l 0 0) e in
    true_false (and_first (starts d) _ p) (subst (λ y. starts y ≡ false) same h)
  where
    and_first : (a b : Bool) → (a && b) ≡ true → a ≡ true
    and_first true b q = refl
    and_first false b q = q

-- ---- one longest token
same_first : {x y : List ℕ} (text a b : List ℕ) → text ≡ x ++ a → text ≡ y ++ b → length a ≡ length b → x ≡ y
same_first {x} {y} text a b e f l =
    let lx = lengths text x a e in
    let ly = lengths text y b f in
    let n : length x ≡ length y = omega arith in
    slice_is text x a e ∙ ap (λ k. take k text) n ∙ sym (slice_is text y b f)

rest_is : (text x a : List ℕ) → text ≡ x ++ a → a ≡ drop (length x) text
rest_is text x a e = rw e (sym (drop-append_seam x a))

same_rest : (text x y a b : List ℕ) → text ≡ x ++ a → text ≡ y ++ b → length a ≡ length b → a ≡ b
same_rest text x y a b e f l =
    let lx = lengths text x a e in
    let ly = lengths text y b f in
    let n : length x ≡ length y = omega arith in
    rest_is text x a e ∙ ap (λ k. drop k text) n ∙ sym (rest_is text y b f)

pub record SameToken (k k' : TokenKind) (x x' : Terminal) (s s' after after' : List ℕ) : Type 0 where
  pub kinds : k ≡ k'
  pub terminals : x ≡ x'
  pub texts : s ≡ s'
  pub rests : after ≡ after'

and_first : (a b : Bool) → (a && b) ≡ true → a ≡ true
and_first true b q = refl
and_first false b q = q

-- a word and a sign don't begin alike
word_or_sign : {x : Terminal} (text s r a b : List ℕ) → text ≡ s ++ a → is_word_text s ≡ true → text ≡ r ++ b → sign_terminal r ≡ Some x → ⊥
word_or_sign text [] r a b e w f p = true_false w refl
word_or_sign {x} text (c ∷ s) r a b e w f p = sign_part c (s ++ a) r b x (start_no_sign c (and_first (starts c) (list_all continues s) w)) (sym e ∙ f) p

word_or_quote : (q : ℕ) (cs s a : List ℕ) → is_quote q ≡ true → q ∷ cs ≡ s ++ a → is_word_text s ≡ true → ⊥
word_or_quote q cs [] a h e w = true_false w refl
word_or_quote q cs (c ∷ s) a h e w =
    let same : q ≡ c = ap (λ l. get_or l 0 0) e in
    true_false h (start_no_quote q (rw (sym same) at (and_first (starts c) (list_all continues s) w)))

some_same : {x y : Terminal} → Some x ≡ Some y → x ≡ y
some_same e = cc

one_token_by : {k k' : TokenKind} {text s s' after after' : List ℕ} {x x' : Terminal} → IsToken k text x s after → IsToken k' text x' s' after' → length after ≡ length after' → SameToken k k' x x' s s' after after'
one_token_by (a_word {text} {after} s e w) (a_word {after = after'} r f v) l =
    let same = same_first text after after' e f l in
    record { kinds = refl; terminals = ap (λ y. word_terminal (encode_utf8_all y)) same; texts = ap encode_utf8_all same; rests = same_rest text s r after after' e f l }
one_token_by (a_word {text} {after} s e w) (a_sign {after = after'} r f p) l = absurd (word_or_sign text s r after after' e w f p)
one_token_by (a_word {after = after} s e w) (a_literal {q} {cs} h d) l = absurd (word_or_quote q cs s after h e w)
one_token_by (a_sign {text} {after} s e p) (a_word {after = after'} r f w) l = absurd (word_or_sign text r s after' after f w e p)
one_token_by (a_sign {text} {after} s e p) (a_sign {after = after'} r f u) l =
    let same = same_first text after after' e f l in
    record { kinds = refl; terminals = some_same (sym p ∙ ap sign_terminal same ∙ u); texts = refl; rests = same_rest text s r after after' e f l }
one_token_by (a_sign {after = after} {x = x} s e p) (a_literal {q} {cs} h d) l = absurd (sign_part q cs s after x (quote_no_sign q h) e p)
one_token_by (a_literal {q} {cs} h d) (a_word {after = after} s e w) l = absurd (word_or_quote q cs s after h e w)
one_token_by (a_literal {q} {cs} h d) (a_sign {after = after} {x = x} s e p) l = absurd (sign_part q cs s after x (quote_no_sign q h) e p)
one_token_by (a_literal h d) (a_literal g f) l = let r = one_body h d f in record { kinds = refl; terminals = refl; texts = ap encode_utf8_all r.0; rests = r.1 }

pub one_token : {k k' : TokenKind} {text s s' after after' : List ℕ} {x x' : Terminal} → Longest text k x s after → Longest text k' x' s' after' → SameToken k k' x x' s s' after after'
one_token {k} {k'} {text} {s} {s'} {after} {after'} {x} {x'} l m =
    let a = l.longest k' x' s' after' m.token in
    let b = m.longest k x s after l.token in
    let same : length after ≡ length after' = omega arith in
    one_token_by l.token m.token same

-- ---- one list of tokens
pub nothing_begins : {k : TokenKind} {text s after : List ℕ} {x : Terminal} → IsToken k text x s after → text ≡ [] → ⊥
nothing_begins (a_word {text} [] e w) h = true_false w refl
nothing_begins (a_word {text} (c ∷ s) e w) h = (let f : c ∷ _ ≡ [] = sym e ∙ h in cc)
nothing_begins (a_sign [] e p) h = (let f : None ≡ Some _ = p in cc)
nothing_begins (a_sign (c ∷ s) e p) h = (let f : c ∷ _ ≡ [] = sym e ∙ h in cc)
nothing_begins (a_literal q d) h = (let f : _ ∷ _ ≡ [] = h in cc)

no_gap : (g : Gap) (p : ℕ × Bool) → g ≡ None → g ≡ Some p → ⊥
no_gap g p e f = (let h : None ≡ Some p = sym e ∙ f in cc)

gap_nil : (cs : List ℕ) → cs ≡ [] → gap cs ≡ None
unfolding gap
gap_nil cs e = rw e refl

gap_value : {p q : ℕ × Bool} → Some p ≡ Some q → p ≡ q
gap_value e = cc

-- derivations of the tokens of what stands at a place, over equal rests
pub one_lexes : {total : ℕ} {line line' whole whole' : Bool} {cs cs' : List ℕ} {ts ts' : List Lexeme} → Lexes total line cs ts whole → Lexes total line' cs' ts' whole' → line ≡ line' → cs ≡ cs' → (ts ≡ ts') × (whole ≡ whole')
one_lexes all_read all_read l e = (refl, refl)
one_lexes all_read (stuck g none) l e = absurd (let f : [] ≡ _ ∷ _ = e in cc)
one_lexes all_read (blank {cs = cs'} g d) l e = absurd (no_gap _ _ (gap_nil cs' (sym e)) g)
one_lexes all_read (token g m d) l e = absurd (nothing_begins m.token (sym e))
one_lexes (stuck g none) all_read l e = absurd (let f : _ ∷ _ ≡ [] = e in cc)
one_lexes (stuck g none) (stuck g' none') l e = (refl, refl)
one_lexes (stuck g none) (blank g' d) l e = absurd (no_gap _ _ (rw e at g) g')
one_lexes (stuck g none) (token {cs = cs'} g' m d) l e = absurd (none.none _ _ _ _ (rw (sym e) at m.token))
one_lexes (blank {cs = cs} g d) all_read l e = absurd (no_gap _ _ (gap_nil cs e) g)
one_lexes (blank g d) (stuck g' none) l e = absurd (no_gap _ _ (rw (sym e) at g') g)
one_lexes (blank {n} {line} {newline} {cs = cs} g d) (blank {n = n'} {line = line'} {newline = newline'} {cs = cs'} g' d') l e =
    let p : (n, newline) ≡ (n', newline') = gap_value (sym g ∙ ap gap e ∙ g') in
    one_lexes d d' (λ i. l i || (p i).1) (λ i. drop (p i).0 (e i))
one_lexes (blank g d) (token g' m d') l e = absurd (no_gap _ _ (rw (sym e) at g') g)
one_lexes (token g m d) all_read l e = absurd (nothing_begins m.token e)
one_lexes (token g m d) (stuck g' none) l e = absurd (none.none _ _ _ _ (rw e at m.token))
one_lexes (token g m d) (blank g' d') l e = absurd (no_gap _ _ (rw e at g) g')
one_lexes {total} (token {line} {cs = cs} {after = after} {text = s} {ts = ts} {kind = k} {terminal = x} g m d) (token {line = line'} {cs = cs'} {after = after'} {text = s'} {ts = ts'} {kind = k'} {terminal = x'} g' m' d') l e =
    let again : Longest cs k' x' s' after' = subst (λ r. Longest r k' x' s' after') (sym e) m' in
    let same = one_token m again in
    let others = one_lexes d d' refl same.rests in
    (λ i. lexeme (same.kinds i) (total - widths (e i)) (total - widths (same.rests i)) (l i) (same.terminals i) (same.texts i) ∷ others.0 i, others.1)
