-- The tree that a text derives by the grammar alone.
use Rattle.std.specs.Prelude.{ℕ, true, List}
use Rattle.esm_tree.specs.Syntax.{Item}
use Rattle.esm_tree.specs.Lexeme.{Lexeme}
use Rattle.esm_grammar.specs.Items.{ItemsAt}
use Rattle.esm_grammar.specs.ModuleText.{HasTokens}

pub record Derives (bytes : List ℕ) (items : List Item) : Type 0 where
  pub ts : List Lexeme
  pub tokens : HasTokens bytes ts true
  pub derived : ItemsAt ts 0 items
