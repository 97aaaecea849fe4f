-- A function value that reads blocks.
use Rattle.std.specs.Prelude.{ℕ, List, Result, Vec}
use Rattle.std.specs.declared.alloc.Global.{Global}
use denote.Ref.{MutBor}
use Rattle.std.specs.Borrow.{Bor}
use Rattle.esm_tree.specs.Syntax.{Parts}
use Rattle.esm_tree.specs.declared.node.StmtId.{StmtId}
use Rattle.esm_tree.specs.Lexeme.{Lexeme}
use Rattle.esm_grammar.specs.ReadingStatements.{block}
use Rattle.esm_parse_expr.specs.declared.reader.Stop.{Stop}
use Rattle.esm_parse_mod.specs.declared.statements.Room.{Room}
use Rattle.esm_parse_mod.specs.Inner.Outcome.{ReadsStmts}

pub record Nests (room : Room) (depth : ℕ) (pre : Global → Bor (List Lexeme) → MutBor Parts → Room → ℕ → ℕ → Type 0)
    (post : Global → Bor (List Lexeme) → MutBor Parts → Room → ℕ → ℕ
    → Result (Vec StmtId Global × ℕ) Stop → MutBor Parts → Type 0) : Type 0 where
  pub callable : (alloc : Global) (tokens : Bor (List Lexeme)) (tree : MutBor Parts) (at : ℕ) → pre alloc tokens tree room depth at
  pub reads : (alloc : Global) (tokens : Bor (List Lexeme)) (old new : MutBor Parts) (at : ℕ)
      (r : Result (Vec StmtId Global × ℕ) Stop) → post alloc tokens old room depth at r new
      → ReadsStmts old.now new.now r (block tokens.now room.turns room.inside depth at)
