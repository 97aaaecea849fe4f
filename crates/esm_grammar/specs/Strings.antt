-- What stands between the quotes of a string literal, piece by piece: what each piece stands for, and what is behind it.
-- ECMA-262, DoubleStringCharacter, SingleStringCharacter, EscapeSequence, LineContinuation.
-- own: a value is a list of characters, so an escape of a surrogate stands only in a pair `\uHHHH\uHHHH`, high before low. A
-- lone one, and one in `\u{H..}`, is no token; in ECMA-262 each is a code unit of the value.
use Rattle.std.specs.Prelude.{◌≡◌, ℕ, ◌+◌, ◌*◌, ◌-◌, Bool, true, false, not, ◌||◌, ◌&&◌, ◌==◌, nat_le, List, [], ◌∷◌, ◌++◌, Option, Some, None}
use Rattle.std.specs.Char.{digit_value}
use Rattle.esm_grammar.specs.Characters.{is_line_terminator, is_digit, is_hex, is_high, is_low}
use Rattle.esm_grammar.specs.Reading.{◌>>=◌, pick}

-- a value, and the characters behind it
abbrev pub Piece : Type 0
Piece = Option (List ℕ × List ℕ)

-- a code, and the characters behind it
abbrev pub Code : Type 0
Code = Option (ℕ × List ℕ)

-- HexDigit HexDigit
unfoldable pub hex_two : List ℕ → Code
hex_two [] = None
hex_two (a ∷ []) = None
hex_two (a ∷ b ∷ cs) = pick (is_hex a) (pick (is_hex b) (Some (16 * digit_value a + digit_value b, cs)) None) None

-- Hex4Digits
unfoldable pub hex_four : List ℕ → Code
hex_four cs = do
  a ← hex_two cs
  b ← hex_two a.1
  Some (256 * a.0 + b.0, b.1)

-- behind `\u{`: digits so far, whether there is one, and `}` behind them. At most 10FFFF; own: and no surrogate.
unfoldable pub braced : ℕ → Bool → List ℕ → Code
braced x some [] = None
braced x some (c ∷ cs) =
    pick (is_hex c)
    (pick (nat_le (16 * x + digit_value c) 1114111) (braced (16 * x + digit_value c) true cs) None)
    (pick ((c == 125) && (some && not (is_high x || is_low x))) (Some (x, cs)) None)

-- the second half of a pair of surrogates, behind the first
unfoldable pub second_half : ℕ → List ℕ → Code
second_half high [] = None
second_half high (b ∷ []) = None
second_half high (b ∷ u ∷ cs) =
    pick ((b == 92) && (u == 117))
    (do
      y ← hex_four cs
      pick (is_low y.0) (Some (65536 + (1024 * (high - 55296) + (y.0 - 56320)), y.1)) None)
    None

-- own: a high surrogate and its second half, or a code that is no surrogate
unfoldable pub four_digits : List ℕ → Code
four_digits cs = do
  x ← hex_four cs
  pick (is_high x.0) (second_half x.0 x.1) (pick (is_low x.0) None (Some x))

-- behind `\u`
unfoldable pub unicode : List ℕ → Code
unicode [] = None
unicode (c ∷ cs) = pick (c == 123) (braced 0 false cs) (four_digits (c ∷ cs))

unfoldable pub begins_digit : List ℕ → Bool
begins_digit [] = false
begins_digit (c ∷ cs) = is_digit c

-- CR LF is one line terminator
unfoldable pub skip_line_feed : List ℕ → List ℕ
skip_line_feed [] = []
skip_line_feed (c ∷ cs) = pick (c == 10) cs (c ∷ cs)

-- SingleEscapeCharacter: n t r b v f; other characters than these stand for themselves
unfoldable pub single : ℕ → ℕ
single c = pick (c == 110) 10 (pick (c == 116) 9 (pick (c == 114) 13 (pick (c == 98) 8 (pick (c == 118) 11 (pick (c == 102) 12 c)))))

unfoldable pub one : Code → Piece
one code = code >>= λ x. Some (x.0 ∷ [], x.1)

-- behind `\`
unfoldable pub escape : List ℕ → Piece
escape [] = None
escape (c ∷ cs) =
    pick (is_digit c)
    (pick ((c == 48) && not (begins_digit cs)) (Some (0 ∷ [], cs)) None)
    (pick (c == 120)
    (one (hex_two cs))
    (pick (c == 117)
    (one (unicode cs))
    (pick (is_line_terminator c)
    (Some ([], pick (c == 13) (skip_line_feed cs) cs))
    (Some (single c ∷ [], cs)))))

-- a character that stands for itself
unfoldable pub is_plain : ℕ → ℕ → Bool
is_plain q c = not ((c == q) || (c == 92) || (c == 10) || (c == 13))

unfoldable pub piece : ℕ → List ℕ → Piece
piece q [] = None
piece q (c ∷ cs) = pick (c == 92) (escape cs) (pick (is_plain q c) (Some (c ∷ [], cs)) None)

-- the pieces up to the closing quote, what they stand for together, and what is behind the quote
pub data Body (q : ℕ) : List ℕ → List ℕ → List ℕ → Type 0 where
  closed : {c : ℕ} {cs : List ℕ} → c ≡ q → Body q (c ∷ cs) [] cs
  more : {cs after rest v w : List ℕ} → piece q cs ≡ Some (v, after) → Body q after w rest → Body q cs (v ++ w) rest
