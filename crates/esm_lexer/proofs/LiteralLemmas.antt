-- String literals, piece by piece.
use Rattle.std.proofs.Common.{◌≡◌, ℕ, zero, suc, ◌+◌, ◌<◌, ◌≤◌, true, false, ◌==◌, List, [], ◌∷◌, ◌++◌, length, get_or, take, drop, Some, None, encode_utf8_all, refl, sym, subst, ap, ◌∙◌, arith, append_assoc, append-nil, length-drop}
use Rattle.std.proofs.lemmas.Bool.Decides.{nat_tests}
use Rattle.esm_grammar.specs.Characters.{is_quote}
use Rattle.esm_grammar.specs.Reading.{pick}
use Rattle.esm_grammar.specs.Strings.{Body, closed, more, piece, is_plain}
use Rattle.esm_grammar.proofs.Tokens.{quote_no_piece, none_some, value}
use Rattle.esm_lexer.proofs.TokenLemmas.{encode_append}
use Rattle.esm_lexer.specs.Inner.Pieces.{IsLiteral}
use Rattle.esm_lexer.proofs.Fronts.{skip_one}

-- a literal that is read up to a place: what it stands for so far, and that what is left leads to the whole, and back
pub record Midway (q : ℕ) (text : List ℕ) (at : ℕ) (spelled : List ℕ) : Type 0 where
  pub within : at ≤ length text
  pub some : 0 < at
  pub done : List ℕ
  pub spelled_is : spelled ≡ encode_utf8_all done
  pub leads : (w after : List ℕ) → Body q (drop at text) w after → Body q (drop 1 text) (done ++ w) after
  pub back : (w after : List ℕ) → Body q (drop 1 text) w after → (v : List ℕ) × Body q (drop at text) v after

pub midway_begins : (q : ℕ) (text : List ℕ) (spelled : List ℕ) → 0 < length text → spelled ≡ [] → Midway q text 1 spelled
midway_begins q text spelled lt e = record {
  within = lt;
  some = omega arith;
  done = [];
  spelled_is = e;
  leads = λ w after d. d;
  back = λ w after d. (w, d);
}

-- one piece of what is left
inner : {q : ℕ} {cs w after v behind : List ℕ} → is_quote q ≡ true → piece q cs ≡ Some (v, behind) → Body q cs w after → (u : List ℕ) × Body q behind u after
inner {q} h p (closed {c} {cs} e) = absurd (none_some _ (sym (quote_no_piece q c cs h e) ∙ p))
inner {q} {after = after} h p (more {after = behind'} {w = w'} p' d) =
    let same = ap (λ (x : List ℕ × List ℕ). x.1) (value (sym p' ∙ p)) in
    (w', subst (λ r. Body q r w' after) same d)

pub midway_more : (q : ℕ) (text : List ℕ) (at n : ℕ) (old new v : List ℕ) → is_quote q ≡ true → Midway q text at old → piece q (drop at text) ≡ Some (v, drop (at + n) text) → at + n ≤ length text
    → new ≡ old ++ encode_utf8_all v → Midway q text (at + n) new
midway_more q text at n old new v h m p le e = record {
  within = le;
  some = omega (arith, m.some);
  done = m.done ++ v;
  spelled_is = e ∙ ap (λ s. s ++ encode_utf8_all v) m.spelled_is ∙ sym (encode_append m.done v);
  leads = λ w after d. rw append_assoc (m.leads (v ++ w) after (more p d));
  back = λ w after d. let b = m.back w after d in inner h p b.1;
}

no_body : {q : ℕ} {cs w after : List ℕ} → (c : ℕ) (rest : List ℕ) → cs ≡ c ∷ rest → (c ≡ q → ⊥) → piece q cs ≡ None → Body q cs w after → ⊥
no_body c rest e other p (closed {c = d} f) = other (sym (ap (λ l. get_or l 0 0) e) ∙ f)
no_body c rest e other p (more p' d) = none_some _ (sym p ∙ p')

nothing_left : {q : ℕ} {cs w after : List ℕ} → cs ≡ [] → piece q [] ≡ None → Body q cs w after → ⊥
nothing_left e n (closed f) = (let k : _ ∷ _ ≡ [] = e in cc)
nothing_left {q} e n (more p d) = none_some _ (sym n ∙ ap (piece q) (sym e) ∙ p)

piece_nil : (q : ℕ) → piece q [] ≡ None
unfolding piece
piece_nil q = refl

pub midway_stuck : (q : ℕ) (text : List ℕ) (at : ℕ) (old : List ℕ) (c : ℕ) → Midway q text at old → drop at text ≡ c ∷ drop (at + 1) text → (c ≡ q → ⊥) → piece q (drop at text) ≡ None → (v after : List ℕ) → Body q (drop 1 text) v after → ⊥
midway_stuck q text at old c m e other p v after d = let b = m.back v after d in no_body c (drop (at + 1) text) e other p b.1

pub midway_over : (q : ℕ) (text : List ℕ) (at : ℕ) (old : List ℕ) → Midway q text at old → drop at text ≡ [] → (v after : List ℕ) → Body q (drop 1 text) v after → ⊥
midway_over q text at old m e v after d = let b = m.back v after d in nothing_left e (piece_nil q) b.1

pub midway_closes : (q : ℕ) (text : List ℕ) (at : ℕ) (old : List ℕ) (c : ℕ) (m : Midway q text at old) → drop at text ≡ c ∷ drop (at + 1) text → c ≡ q → Body q (drop 1 text) m.done (drop (at + 1) text)
midway_closes q text at old c m e same = rw append-nil at (m.leads [] (drop (at + 1) text) (rw e (closed same)))

-- ---- without escapes

not_backslash : (q c : ℕ) → is_plain q c ≡ true → (c == 92) ≡ false
unfolding is_plain
not_backslash q c h = grind (arith, nat_tests)

plain_piece : (q c : ℕ) (cs : List ℕ) → is_plain q c ≡ true → piece q (c ∷ cs) ≡ Some (c ∷ [], cs)
unfolding piece pick
plain_piece q c cs h = let other : (c == 92) ≡ false = not_backslash q c h in rw (other, h) refl

-- characters that stand for themselves, and a closing quote
pub plain_body : (q : ℕ) (cs : List ℕ) (n c : ℕ) → n < length cs → ((k : ℕ) → k < n → is_plain q (get_or cs k 0) ≡ true) → c ≡ get_or cs n c → c ≡ q → Body q cs (take n cs) (drop (n + 1) cs)
plain_body q [] n c lt plain at e = absurd (omega arith)
plain_body q (d ∷ cs) zero c lt plain at e = closed (sym at ∙ e)
plain_body q (d ∷ cs) (suc n) c lt plain at e =
    let next : suc n + 1 ≡ suc (n + 1) = omega arith in
    rw next (more (plain_piece q d cs (plain 0 (omega arith))) (plain_body q cs n c (omega arith) (λ k h. plain (suc k) (omega arith)) at e))

behind_first : (text : List ℕ) (n d : ℕ) → get_or text (n + 1) d ≡ get_or (drop 1 text) n d
behind_first [] n d = refl
behind_first (c ∷ cs) n d = let next : n + 1 ≡ suc n = omega arith in rw next refl

pub plain_literal : (text spelled : List ℕ) (q n c : ℕ) → n + 1 < length text → ((k : ℕ) → k < n → is_plain q (get_or (drop 1 text) k 0) ≡ true) → c ≡ get_or text (n + 1) c → c ≡ q
    → spelled ≡ encode_utf8_all (take n (drop 1 text)) → IsLiteral text q spelled (n + 2)
plain_literal text spelled q n c lt plain at e is = record {
  value = take n (drop 1 text);
  body =
      let shorter : n < length (drop 1 text) = omega (arith, length-drop 1 text) in
      let sum : 1 + (n + 1) ≡ n + 2 = omega arith in
      let behind : drop (n + 1) (drop 1 text) ≡ drop (n + 2) text = skip_one text (n + 1) ∙ ap (λ k. drop k text) sum in
      subst (λ r. Body q (drop 1 text) (take n (drop 1 text)) r) behind (plain_body q (drop 1 text) n c shorter plain (at ∙ behind_first text n c) e);
  spelled_is = is;
  within = omega arith;
  some = omega arith;
}
