-- Tokens one after another, with what is left.
use Rattle.std.proofs.Common.{◌≡◌, ℕ, ◌+◌, ◌-◌, ◌≤◌, Bool, true, false, ◌||◌, List, [], ◌∷◌, ◌++◌, length, drop, Some, None, encode_utf8_all, sym, subst, ap, ◌∙◌, arith, append_assoc, append-nil}
use Rattle.std.proofs.lemmas.List.{drop-drop}
use Rattle.esm_tree.specs.declared.token.TokenKind.{TokenKind}
use Rattle.esm_tree.specs.declared.lexeme.Terminal.{Terminal}
use Rattle.esm_tree.specs.Lexeme.{Lexeme, lexeme}
use Rattle.esm_grammar.specs.Lexes.{gap, widths, Lexes, all_read, stuck, blank, token, NoToken}
use Rattle.esm_lexer.specs.Tokens.{IsFound}
use Rattle.esm_lexer.proofs.FrontLemmas.{widths_are}

-- ---- the tokens of what is left
pub record Scanning (total : ℕ) (text : List ℕ) (at : ℕ) (left : List ℕ) (newline : Bool) (found : List Lexeme) : Type 0 where
  pub within : at ≤ length text
  pub left_is : left ≡ encode_utf8_all (drop at text)
  pub leads : (ts : List Lexeme) (whole : Bool) → Lexes total newline (drop at text) ts whole → Lexes total false text (found ++ ts) whole

pub scan_begins : (total : ℕ) (text left : List ℕ) (found : List Lexeme) → left ≡ encode_utf8_all text → found ≡ [] → Scanning total text 0 left false found
scan_begins total text left found e f = record {
  within = omega arith;
  left_is = e;
  leads = λ ts whole d. rw f d;
}

behind_is : (text : List ℕ) (at n : ℕ) → drop n (drop at text) ≡ drop (at + n) text
behind_is text at n = drop-drop n at text

left_behind : (text : List ℕ) (at n : ℕ) (next : List ℕ) → next ≡ encode_utf8_all (drop n (drop at text)) → next ≡ encode_utf8_all (drop (at + n) text)
left_behind text at n next e = e ∙ ap encode_utf8_all (behind_is text at n)

pub scan_blank : (total : ℕ) (text : List ℕ) (at : ℕ) (left : List ℕ) (n : ℕ) (next : List ℕ) (newline ends both : Bool) (found : List Lexeme) → Scanning total text at left newline found → gap (drop at text) ≡ Some (n, ends) → at + n ≤ length text
    → next ≡ encode_utf8_all (drop n (drop at text)) → both ≡ (newline || ends) → Scanning total text (at + n) next both found
scan_blank total text at left n next newline ends both found s g le behind e = record {
  within = le;
  left_is = left_behind text at n next behind;
  leads = λ ts whole d.
      let same : Lexes total (newline || ends) (drop n (drop at text)) ts whole = subst (λ r. Lexes total (newline || ends) r ts whole) (sym (behind_is text at n)) (rw e at d) in
      s.leads ts whole (blank g same);
}

place : (total : ℕ) (left cs : List ℕ) → left ≡ encode_utf8_all cs → total - length left ≡ total - widths cs
place total left cs e = ap (λ k. total - k) (ap length e ∙ widths_are cs)

pub scan_token : (total : ℕ) (text : List ℕ) (at : ℕ) (left : List ℕ) (n : ℕ) (next : List ℕ) (newline : Bool) (found more' : List Lexeme) (kind : TokenKind) (terminal : Terminal) (spelled : List ℕ) → Scanning total text at left newline found
    → gap (drop at text) ≡ None → IsFound (drop at text) kind terminal spelled n → next ≡ encode_utf8_all (drop n (drop at text)) → at + n ≤ length text
    → more' ≡ found ++ lexeme kind (total - length left) (total - length next) newline terminal spelled ∷ [] → Scanning total text (at + n) next false more'
scan_token total text at left n next newline found more' kind terminal spelled s g f behind le e = record {
  within = le;
  left_is = left_behind text at n next behind;
  leads = λ ts whole d.
      let same : Lexes total false (drop n (drop at text)) ts whole = subst (λ r. Lexes total false r ts whole) (sym (behind_is text at n)) d in
      let one : Lexes total newline (drop at text) (lexeme kind (total - length left) (total - length next) newline terminal spelled ∷ ts) whole =
      rw (place total left (drop at text) s.left_is, place total next (drop n (drop at text)) behind) (token g f.longest same)
      in
      rw (e, append_assoc) (s.leads (lexeme kind (total - length left) (total - length next) newline terminal spelled ∷ ts) whole one);
}

pub scan_stuck : (total : ℕ) (text : List ℕ) (at : ℕ) (left : List ℕ) (newline : Bool) (found : List Lexeme) (c : ℕ) (rest : List ℕ) → Scanning total text at left newline found → drop at text ≡ c ∷ rest → gap (drop at text) ≡ None → NoToken (drop at text)
    → Lexes total false text found false
scan_stuck total text at left newline found c rest s e g none =
    let one : Lexes total newline (drop at text) [] false = subst (λ r. Lexes total newline r [] false) (sym e) (stuck (rw e at g) (rw e at none)) in
    rw append-nil at (s.leads [] false one)

pub scan_ends : (total : ℕ) (text : List ℕ) (at : ℕ) (left : List ℕ) (newline : Bool) (found : List Lexeme) → Scanning total text at left newline found → drop at text ≡ [] → Lexes total false text found true
scan_ends total text at left newline found s e =
    let one : Lexes total newline (drop at text) [] true = subst (λ r. Lexes total newline r [] true) (sym e) all_read in
    rw append-nil at (s.leads [] true one)
