-- A function value that reads whole expressions.
use Rattle.std.specs.Prelude.{ℕ, List, Result}
use Rattle.std.specs.declared.alloc.Global.{Global}
use denote.Ref.{MutBor}
use Rattle.std.specs.Borrow.{Bor}
use Rattle.esm_tree.specs.Syntax.{Parts}
use Rattle.esm_tree.specs.declared.node.ExprId.{ExprId}
use Rattle.esm_grammar.specs.Reading.{expr}
use Rattle.esm_tree.specs.Lexeme.{Lexeme}
use Rattle.esm_parse_expr.specs.declared.reader.Stop.{Stop}
use Rattle.esm_parse_expr.specs.Outcome.{ReadsExpr}

pub record Nests (room : ℕ) (pre : Global → Bor (List Lexeme) → MutBor Parts → ℕ → ℕ → Type 0)
    (post : Global → Bor (List Lexeme) → MutBor Parts → ℕ → ℕ
    → Result (ExprId × ℕ) Stop → MutBor Parts → Type 0) : Type 0 where
  pub callable : (alloc : Global) (tokens : Bor (List Lexeme)) (tree : MutBor Parts) (at : ℕ) → pre alloc tokens tree room at
  pub reads : (alloc : Global) (tokens : Bor (List Lexeme)) (old new : MutBor Parts) (at : ℕ)
      (r : Result (ExprId × ℕ) Stop) → post alloc tokens old room at r new
      → ReadsExpr old.now new.now r (expr tokens.now room at)
