-- Reading a statement forward, as a function of the place. The numbers bound the turns and the depth.
use Rattle.std.specs.Prelude.{ℕ, zero, suc, ◌+◌, Bool, true, false, List, Option, Some, None}
use Rattle.esm_tree.specs.Syntax.{Expr, Init, absent, plain, awaited, Bindings, no_more, binding, Stmt, Empty, Expression, Assign, Block, If, IfElse, Try, TryCatch, Throw, Return, ReturnValue, Await, PrintAwait, Const, Let, Stmts, nothing, first}
use Rattle.esm_tree.specs.declared.lexeme.Terminal.{Terminal}
use Rattle.esm_tree.specs.declared.lexeme.Terminal.TheVariants as t
use Rattle.esm_tree.specs.Lexeme.{Lexeme}
use Rattle.esm_grammar.specs.Lexeme.{terminal_at, text_at, newline_at, is_name}
use Rattle.esm_grammar.specs.Reading.{Read, ◌>>=◌, pick, sees, expr, unary}
use Rattle.esm_grammar.specs.ReadingLists.{many}
use Rattle.esm_grammar.specs.Statements.{may_miss, is_assign, is_print_await, no_value}

module _ (ts : List Lexeme) where
  unfoldable pub end_of : {A : Type 0} → Bool → A → ℕ → Read A
  end_of continued a i = pick (sees ts i t.Semicolon) (Some (a, i + 1)) (pick (may_miss ts continued i) (Some (a, i)) None)

  module _ (n : ℕ) where
    unfoldable pub operand : ℕ → Read Expr
    operand i = unary ts (expr ts n) n n i

    module _ (inside : Bool) where
      unfoldable pub init : ℕ → Read Init
      init i =
          pick (sees ts i t.Await)
          (pick inside None (do
            e ← operand (i + 1)
            Some (awaited e.0, e.1)))
          (do
            e ← expr ts n i
            Some (plain e.0, e.1))

      module _ (constant : Bool) where
        unfoldable pub one_binding : ℕ → Read (List ℕ × Init)
        one_binding i =
            pick (is_name (terminal_at ts i))
            (pick (sees ts (i + 1) t.Equals)
            (do
              v ← init (i + 2)
              Some ((text_at ts i, v.0), v.1))
            (pick constant None (Some ((text_at ts i, absent), i + 1))))
            None

        unfoldable pub binding_step : ℕ → Read (Option (List ℕ × Init))
        binding_step i =
            pick (sees ts i t.Comma)
            (do
              b ← one_binding (i + 1)
              Some (Some b.0, b.1))
            (Some (None, i))

        abbrev pub cons_binding : List ℕ × Init → Bindings → Bindings
        cons_binding b bs = binding b.0 b.1 bs

        unfoldable pub bindings : ℕ → Read Bindings
        bindings i = do
          b ← one_binding i
          bs ← many no_more cons_binding binding_step n b.1
          Some (cons_binding b.0 bs.0, bs.1)

        unfoldable pub declaration : (Bindings → Stmt) → ℕ → Read Stmt
        declaration make i = do
          bs ← bindings (i + 1)
          end_of false (make bs.0) bs.1

      unfoldable pub assign : ℕ → Read Stmt
      assign i = do
        v ← init (i + 2)
        end_of false (Assign (text_at ts i) v.0) v.1

      unfoldable pub thrown : ℕ → Read Stmt
      thrown i = pick (newline_at ts (i + 1)) None (do
        e ← expr ts n (i + 1)
        end_of false (Throw e.0) e.1)

      unfoldable pub returned : ℕ → Read Stmt
      returned i =
          pick inside
          (pick (no_value ts (i + 1))
          (end_of false Return (i + 1))
          (do
            e ← expr ts n (i + 1)
            end_of false (ReturnValue e.0) e.1))
          None

      unfoldable pub await_statement : ℕ → Read Stmt
      await_statement i = pick inside None (do
        e ← operand (i + 1)
        end_of false (Await e.0) e.1)

      unfoldable pub print_await : ℕ → Read Stmt
      print_await i = pick inside None (do
        e ← operand (i + 3)
        pick (sees ts (e.1) t.Close) (end_of true (PrintAwait e.0) (e.1 + 1)) None)

      unfoldable pub expression : ℕ → Read Stmt
      expression i =
          pick (is_assign ts i) (assign i) (pick (is_print_await ts i) (print_await i) (do
            e ← expr ts n i
            end_of false (Expression e.0) e.1))

      module _ (block : ℕ → Read Stmts) where
        unfoldable pub with_else : Expr → Stmts → ℕ → Read Stmt
        with_else e ss i = pick (sees ts i t.Else) (do
          rs ← block (i + 1)
          Some (IfElse e ss rs.0, rs.1)) (Some (If e ss, i))

        unfoldable pub choice : ℕ → Read Stmt
        choice i =
            pick (sees ts (i + 1) t.Open)
            (do
              e ← expr ts n (i + 2)
              pick (sees ts (e.1) t.Close)
                  (do
                    ss ← block (e.1 + 1)
                    with_else e.0 ss.0 ss.1)
                  None)
            None

        -- from `catch` on
        unfoldable pub caught : Stmts → ℕ → Read Stmt
        caught ss k =
            pick (sees ts k t.Catch)
            (pick (sees ts (k + 1) t.Open)
            (pick (is_name (terminal_at ts (k + 2)))
            (pick (sees ts (k + 3) t.Close)
            (do
              rs ← block (k + 4)
              Some (TryCatch ss (text_at ts (k + 2)) rs.0, rs.1))
            None)
            None)
            (do
              rs ← block (k + 1)
              Some (Try ss rs.0, rs.1)))
            None

        unfoldable pub tried : ℕ → Read Stmt
        tried i = do
          ss ← block (i + 1)
          caught ss.0 ss.1

        abbrev pub stmt_by : Terminal → ℕ → Read Stmt
        stmt_by t.BraceOpen i = block i >>= λ ss. Some (Block ss.0, ss.1)
        stmt_by t.Semicolon i = Some (Empty, i + 1)
        stmt_by t.Const i = declaration true Const i
        stmt_by t.Let i = declaration false Let i
        stmt_by t.If i = choice i
        stmt_by t.Try i = tried i
        stmt_by t.Throw i = thrown i
        stmt_by t.Return i = returned i
        stmt_by t.Await i = await_statement i
        stmt_by _ i = expression i

        unfoldable pub stmt_with : ℕ → Read Stmt
        stmt_with i = stmt_by (terminal_at ts i) i

        unfoldable pub stmt_step : ℕ → Read (Option Stmt)
        stmt_step i =
            pick (sees ts i t.BraceClose)
            (Some (None, i + 1))
            (do
              s ← stmt_with i
              Some (Some s.0, s.1))

      -- the number bounds the depth
      unfoldable pub block : ℕ → ℕ → Read Stmts
      block zero i = None
      block (suc m) i = pick (sees ts i t.BraceOpen) (many nothing first (stmt_step (block m)) n (i + 1)) None

      unfoldable pub stmt : ℕ → ℕ → Read Stmt
      stmt m i = stmt_with (block m) i
