-- Tokens in little memory: marks over the bytes of a text, and the lexemes whose text no place tells.
use Rattle.std.specs.Prelude.{◌≡◌, ℕ, ◌+◌, ◌-◌, ◌<◌, ◌≤◌, Bool, List, [], ◌∷◌, map, length, slice_range, slice_index_or, IsUtf8, ⊤}
use Rattle.esm_tree.specs.declared.token.Token.{Token}
use Rattle.esm_tree.specs.declared.token.TokenKind.{TokenKind}
use Rattle.esm_tree.specs.declared.token.TokenKind.TheVariants as kind
use Rattle.esm_tree.specs.Lexeme.{Lexeme}
use Rattle.esm_grammar.specs.Lexeme.{no_lexeme}
use Rattle.esm_lexer.specs.declared.list.Form.{Form}
use Rattle.esm_lexer.specs.declared.list.Form.TheVariants as form
use Rattle.esm_lexer.specs.declared.list.Mark.{Mark}

abbrev pub short_token : TokenKind → ℕ → ℕ → Bool → Token
short_token k from len newline = record { kind = k; from = from; to = from + len; newline_before = newline }

abbrev pub long_token : List Lexeme → ℕ → Bool → Token
long_token kept place newline =
    let l = (slice_index_or kept place no_lexeme).token in
    record { kind = l.kind; from = l.from; to = l.to; newline_before = newline }

-- what a token of this form spells: a word the bytes of its place, a literal those between its quotes
abbrev pub text_by : Form → List ℕ → List Lexeme → ℕ → ℕ → List ℕ
text_by form.Word bytes kept from len = slice_range bytes from (from + len)
text_by form.Literal bytes kept from len = slice_range bytes (from + 1) (from + len - 1)
text_by form.Sign bytes kept from len = []
text_by form.Kept bytes kept from len = (slice_index_or kept from no_lexeme).text

abbrev pub token_by : Form → List Lexeme → ℕ → ℕ → Bool → Token
token_by form.Word kept from len newline = short_token kind.Word from len newline
token_by form.Literal kept from len newline = short_token kind.Literal from len newline
token_by form.Sign kept from len newline = short_token kind.Sign from len newline
token_by form.Kept kept from len newline = long_token kept from newline

abbrev pub lexeme_of : List ℕ → List Lexeme → Mark → Lexeme
lexeme_of bytes kept m = record {
  terminal = m.terminal;
  text = text_by m.form bytes kept m.from m.len;
  token = token_by m.form kept m.from m.len m.newline_before;
}

abbrev pub lexemes_of : List ℕ → List Lexeme → List Mark → List Lexeme
lexemes_of bytes kept ms = map (lexeme_of bytes kept) ms

-- the place is in the bytes, and a text stands there; a lexeme that is kept is among so many
abbrev pub IsRightBy : Form → List ℕ → ℕ → ℕ → ℕ → Type 0
IsRightBy form.Word bytes n from len = (from + len ≤ length bytes) × IsUtf8 (slice_range bytes from (from + len))
IsRightBy form.Literal bytes n from len = (2 ≤ len) × ((from + len ≤ length bytes) × IsUtf8 (slice_range bytes (from + 1) (from + len - 1)))
IsRightBy form.Sign bytes n from len = ⊤
IsRightBy form.Kept bytes n from len = from < n

abbrev pub IsRight : List ℕ → ℕ → Mark → Type 0
IsRight bytes n m = IsRightBy m.form bytes n m.from m.len

abbrev pub AllRight : List ℕ → ℕ → List Mark → Type 0
AllRight bytes n [] = ⊤
AllRight bytes n (m ∷ ms) = IsRight bytes n m × AllRight bytes n ms

abbrev pub AreRight : List ℕ → List Lexeme → List Mark → Type 0
AreRight bytes kept ms = AllRight bytes (length kept) ms

-- a token of this kind, with this place and text, has this form
abbrev pub Tells : Form → List ℕ → List ℕ → TokenKind → ℕ → ℕ → Type 0
Tells f bytes text k from len =
    IsRightBy f bytes 0 from len
    × ((text_by f bytes [] from len ≡ text) × ((newline : Bool) → token_by f [] from len newline ≡ short_token k from len newline))
