-- The tokens of a text: each slice is the longest token at its place, and all between is white space and comments.
-- ECMA-262, InputElementDiv, Comment, HashbangComment.
-- own: there are no numbers, templates, regular expressions and private names, and of the punctuators only
-- `{ } ( ) ; , . * + = === !== ! && ||`; a text that holds another has no token there.
use Rattle.std.specs.Prelude.{◌≡◌, ℕ, ◌+◌, ◌-◌, ◌≤◌, Bool, true, false, ◌||◌, ◌&&◌, ◌==◌, nat_lt, List, [], ◌∷◌, ◌++◌, length, drop, Option, Some, None, sum_by, encode_utf8, encode_utf8_all, IsUtf8, chars}
use Rattle.std.specs.List.{list_all}
use Rattle.esm_base.specs.Mark.{without_mark}
use Rattle.esm_base.specs.declared.limits.TheConstants.{MAX_NESTING}
use Rattle.esm_tree.specs.declared.token.TokenKind.{TokenKind}
use Rattle.esm_tree.specs.declared.token.TokenKind.TheVariants as kind
use Rattle.esm_tree.specs.declared.lexeme.Terminal.{Terminal}
use Rattle.esm_tree.specs.declared.lexeme.Terminal.TheVariants as t
use Rattle.esm_tree.specs.Lexeme.{Lexeme, lexeme}
use Rattle.esm_grammar.specs.Characters.{is_line_terminator, is_white_space, starts, continues, is_quote}
use Rattle.esm_grammar.specs.Reading.{◌>>=◌, pick, same}
use Rattle.esm_grammar.specs.Strings.{Body}
use Rattle.esm_grammar.specs.Terminals.{word_terminal, sign_terminal}

-- ---- tokens

abbrev pub is_word_text : List ℕ → Bool
is_word_text [] = false
is_word_text (c ∷ cs) = starts c && list_all continues cs

-- the text begins with a token of this kind: its terminal symbol, what it spells, and what is behind it
pub data IsToken : TokenKind → List ℕ → Terminal → List ℕ → List ℕ → Type 0 where
  a_word : {text after : List ℕ} (s : List ℕ) → text ≡ s ++ after → is_word_text s ≡ true
      → IsToken kind.Word text (word_terminal (encode_utf8_all s)) (encode_utf8_all s) after
  a_literal : {q : ℕ} {cs v after : List ℕ} → is_quote q ≡ true → Body q cs v after
      → IsToken kind.Literal (q ∷ cs) t.Literal (encode_utf8_all v) after
  a_sign : {text after : List ℕ} {x : Terminal} (s : List ℕ) → text ≡ s ++ after → sign_terminal s ≡ Some x
      → IsToken kind.Sign text x [] after

-- it begins with this token, and with no longer one
pub record Longest (text : List ℕ) (kind : TokenKind) (terminal : Terminal) (spelled after : List ℕ) : Type 0 where
  pub token : IsToken kind text terminal spelled after
  pub longest : (other : TokenKind) (x : Terminal) (s behind : List ℕ) → IsToken other text x s behind → length after ≤ length behind

pub record NoToken (text : List ℕ) : Type 0 where
  pub none : (kind : TokenKind) (x : Terminal) (s behind : List ℕ) → IsToken kind text x s behind → ⊥

-- ---- what stands between tokens

-- how many characters stand before the next line terminator
unfoldable pub line_len : List ℕ → ℕ
line_len [] = 0
line_len (c ∷ cs) = pick (is_line_terminator c) 0 (line_len cs + 1)

-- how many characters stand before the next `*/` and in it, and whether a line terminator is among them
unfoldable pub closes_here : ℕ → List ℕ → Bool
closes_here c [] = false
closes_here c (d ∷ cs) = (c == 42) && (d == 47)

abbrev pub Gap : Type 0
Gap = Option (ℕ × Bool)

unfoldable pub block_len : List ℕ → Gap
block_len [] = None
block_len (c ∷ cs) = pick (closes_here c cs) (Some (2, false)) (do
  r ← block_len cs
  Some (r.0 + 1, is_line_terminator c || r.1))

unfoldable pub comment : List ℕ → Gap
comment [] = None
comment (c ∷ cs) =
    pick (c == 47) (Some (line_len cs + 2, false)) (pick (c == 42) (do
      r ← block_len cs
      Some (r.0 + 2, r.1)) None)

-- white space, a line terminator or a comment at the front: how many characters, and whether it counts as a line terminator
unfoldable pub gap : List ℕ → Gap
gap [] = None
gap (c ∷ cs) =
    pick (is_line_terminator c)
    (Some (1, true))
    (pick (is_white_space c) (Some (1, false)) (pick (c == 47) (comment cs) None))

-- how many bytes characters take
abbrev pub widths : List ℕ → ℕ
widths = sum_by (λ c. length (encode_utf8 c))

-- The tokens of what is left of a text of so many bytes, up to the end (true) or a place where no token can be read (false).
-- A place in the bytes is told by what is left. The flag before the characters tells that a line terminator stands before.
pub data Lexes (total : ℕ) : Bool → List ℕ → List Lexeme → Bool → Type 0 where
  all_read : {line : Bool} → Lexes total line [] [] true
  stuck : {line : Bool} {c : ℕ} {cs : List ℕ} → gap (c ∷ cs) ≡ None → NoToken (c ∷ cs) → Lexes total line (c ∷ cs) [] false
  blank : {n : ℕ} {line newline whole : Bool} {cs : List ℕ} {ts : List Lexeme} → gap cs ≡ Some (n, newline)
      → Lexes total (line || newline) (drop n cs) ts whole → Lexes total line cs ts whole
  token : {line whole : Bool} {cs after text : List ℕ} {ts : List Lexeme} {kind : TokenKind} {terminal : Terminal} → gap cs ≡ None
      → Longest cs kind terminal text after → Lexes total false after ts whole
      → Lexes total line cs (lexeme kind (total - widths cs) (total - widths after) line terminal text ∷ ts) whole

-- a text that begins with `#!` has a comment up to its first line terminator
unfoldable pub hashbang_len : List ℕ → ℕ
hashbang_len [] = 0
hashbang_len (c ∷ []) = 0
hashbang_len (c ∷ d ∷ cs) = pick ((c == 35) && (d == 33)) (line_len cs + 2) 0

-- own: bytes that aren't UTF-8 have no tokens. HTML's "UTF-8 decode" puts U+FFFD in their place.
-- the bytes are UTF-8, and their tokens are these, up to the end or a place where none can be read
pub record AreTokens (bytes : List ℕ) (ts : List Lexeme) (whole : Bool) : Type 0 where
  pub utf8 : IsUtf8 (without_mark bytes)
  pub lexes : Lexes (length bytes) false (drop (hashbang_len (chars (without_mark bytes))) (chars (without_mark bytes))) ts whole

-- ---- nesting, own: ECMA-262 has no such limit

unfoldable pub opens : Terminal → Bool
opens x = same x t.Open || same x t.BraceOpen

unfoldable pub shuts : Terminal → Bool
shuts x = same x t.Close || same x t.BraceClose

-- the depth behind a token, and how many `!` stand one after another
unfoldable pub depth_behind : ℕ → Terminal → ℕ
depth_behind depth x = pick (opens x) (depth + 1) (pick (shuts x) (depth - 1) depth)

unfoldable pub nots_behind : ℕ → Terminal → ℕ
nots_behind nots x = pick (same x t.Not) (nots + 1) 0

-- the depth passes MAX_NESTING, or more than so many `!` stand one after another
unfoldable pub too_deep : ℕ → ℕ → List Lexeme → Bool
too_deep depth nots [] = false
too_deep depth nots (l ∷ ls) = nat_lt MAX_NESTING (depth_behind depth l.terminal) || nat_lt MAX_NESTING (nots_behind nots l.terminal)
    || too_deep (depth_behind depth l.terminal) (nots_behind nots l.terminal) ls
