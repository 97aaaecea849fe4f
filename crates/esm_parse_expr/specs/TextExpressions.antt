-- The tokens and expressions of a text.
use Rattle.std.specs.Prelude.{◌≡◌, ℕ, true, List, map}
use Rattle.esm_tree.specs.declared.token.Token.{Token}
use Rattle.esm_tree.specs.Lexeme.{Lexeme}
use Rattle.esm_tree.specs.Syntax.{Expr}
use Rattle.esm_grammar.specs.Lexes.{AreTokens}
use Rattle.esm_grammar.specs.Grammar.{Reads, ors}
use Rattle.esm_lexer.specs.Tokens.{token_of}

-- the bytes are a text with these tokens, up to its end
pub record SpellsTokens (bytes : List ℕ) (tokens : List Token) : Type 0 where
  pub ts : List Lexeme
  pub lexes : AreTokens bytes ts true
  pub same : tokens ≡ map token_of ts

-- this expression stands at a token of the text, up to another
pub record ExprBegins (bytes : List ℕ) (i : ℕ) (e : Expr) (j : ℕ) : Type 0 where
  pub ts : List Lexeme
  pub lexes : AreTokens bytes ts true
  pub reads : Reads ts ors i e j
