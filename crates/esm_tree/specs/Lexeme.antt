-- A token as the grammar sees it.
use Rattle.std.specs.Prelude.{ℕ, Bool, List}
use Rattle.esm_tree.specs.declared.lexeme.Terminal.{Terminal}
use Rattle.esm_tree.specs.declared.token.Token.{Token}
use Rattle.esm_tree.specs.declared.token.TokenKind.{TokenKind}

-- its terminal symbol, what it spells, and the token with its places
pub record Lexeme : Type 0 where
  pub terminal : Terminal
  pub text : List ℕ
  pub token : Token

abbrev pub lexeme : TokenKind → ℕ → ℕ → Bool → Terminal → List ℕ → Lexeme
lexeme kind from to newline terminal text = record {
  terminal = terminal;
  text = text;
  token = record { kind = kind; from = from; to = to; newline_before = newline };
}
