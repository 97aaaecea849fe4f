-- What is read of statements is in the grammar.
use Rattle.std.proofs.Common.{◌≡◌, ◌≢◌, ℕ, zero, suc, ◌+◌, inl, inr, Bool, true, false, List, Option, Some, None, refl, sym, subst}
use Rattle.esm_tree.specs.Syntax.{Expr, Init, Bindings, no_more, Stmt, Const, Let, Stmts, nothing, first}
use Rattle.esm_tree.specs.declared.lexeme.Terminal.{Terminal}
use Rattle.esm_tree.specs.declared.lexeme.Terminal.TheVariants as t
use Rattle.esm_tree.specs.Lexeme.{Lexeme}
use Rattle.esm_grammar.specs.Lexeme.{terminal_at}
use Rattle.esm_grammar.specs.Grammar.{Reads, unaries}
use Rattle.esm_grammar.specs.Reading.{Read, pick, expr}
use Rattle.esm_grammar.specs.ReadingLists.{many}
use Rattle.esm_grammar.specs.Statements.{Ends, written, missing, is_assign, is_print_await, is_keyword, InitAt, an_await, a_value, BindingAt, with_value, without, MoreBindings, no_binding, a_binding, BindingsAt, some_bindings, StmtAt, a_block, an_empty, a_const, a_let, an_if, an_if_else, a_try, a_catch, a_throw, a_return, a_return_value, an_await_statement, an_assign, a_print_await, an_expression, BlockAt, in_braces, StmtsAt, no_stmt, a_stmt}
use Rattle.esm_grammar.specs.ReadingStatements as r
use Rattle.esm_grammar.proofs.Basics.{bind_ok, chosen, guard_ok, from_some, same_is, same_not}
use Rattle.esm_grammar.proofs.Many.{many_ok, many_never}
use Rattle.esm_grammar.proofs.Sound as sound

-- a test that has to fail
pub bar_ok : {A : Type 0} (b : Bool) (x : Option A) (y : A) → pick b None x ≡ Some y → (b ≡ false) × (x ≡ Some y)
unfolding pick
bar_ok true x y h = absurd (cc)
bar_ok false x y h = (refl, h)

module _ (ts : List Lexeme) where
  pub end_ok : {A : Type 0} (continued : Bool) (a : A) (i : ℕ) (x : A × ℕ) → r.end_of ts continued a i ≡ Some x → (x.0 ≡ a) × Ends ts continued i x.1
  unfolding r.end_of
  end_ok continued a i x h = elim (chosen _ _ _ _ h) [
    | inl p ↦ from_some (λ y. (y.0 ≡ a) × Ends ts continued i y.1) p.1 (refl, written (same_is _ _ p.0))
    | inr p ↦ let c = guard_ok _ _ _ p.1 in from_some (λ y. (y.0 ≡ a) × Ends ts continued i y.1) c.1 (refl, missing (same_not _ _ p.0) c.0)
  ]

  -- with what is ended
  pub ended : {A : Type 0} (continued : Bool) (P : A → ℕ → Type 0) (s : A) (k : ℕ) (x : A × ℕ) → r.end_of ts continued s k ≡ Some x → ((j : ℕ) → Ends ts continued k j → P s j) → P x.0 x.1
  ended continued P s k x h f = let e = end_ok continued s k x h in let is : s ≡ x.0 = sym e.0 in subst (λ y. P y x.1) is (f x.1 e.1)

  module _ (n : ℕ) where
    operand : (i : ℕ) (x : Expr × ℕ) → r.operand ts n i ≡ Some x → Reads ts unaries i x.0 x.1
    unfolding r.operand
    operand i x h = sound.unary ts (expr ts n) (sound.expr ts n) n n i x h

    module _ (inside : Bool) where
      pub init : (i : ℕ) (x : Init × ℕ) → r.init ts n inside i ≡ Some x → InitAt ts inside i x.0 x.1
      unfolding r.init
      init i x h = elim (chosen _ _ _ _ h) [
        | inl p ↦
            let c = bar_ok _ _ _ p.1 in
            let a = bind_ok _ _ _ c.1 in
            from_some (λ y. InitAt ts inside i y.0 y.1) a.2 (an_await (same_is _ _ p.0) c.0 (operand (i + 1) a.0 a.1))
        | inr p ↦
            let a = bind_ok _ _ _ p.1 in
            from_some (λ y. InitAt ts inside i y.0 y.1) a.2 (a_value (same_not _ _ p.0) (sound.expr ts n i a.0 a.1))
      ]

      module _ (constant : Bool) where
        abbrev OneBinding : ℕ → (List ℕ × Init) × ℕ → Type 0
        OneBinding i y = BindingAt ts inside constant i y.0.0 y.0.1 y.1

        one_binding : (i : ℕ) (x : (List ℕ × Init) × ℕ) → r.one_binding ts n inside constant i ≡ Some x → OneBinding i x
        unfolding r.one_binding
        one_binding i x h =
            let c = guard_ok _ _ _ h in
            elim (chosen _ _ _ _ c.1) [
              | inl p ↦
                  let a = bind_ok _ _ _ p.1 in
                  from_some (OneBinding i) a.2 (with_value c.0 (same_is _ _ p.0) (init (i + 2) a.0 a.1))
              | inr p ↦
                  let d = bar_ok _ _ _ p.1 in
                  from_some (OneBinding i) d.1 (without c.0 (same_not _ _ p.0) d.0)
            ]

        abbrev StepIs : ℕ → Option (List ℕ × Init) × ℕ → Type 0
        StepIs i (None, j) = (terminal_at ts i ≢ t.Comma) × (i ≡ j)
        StepIs i (Some b, j) = (terminal_at ts i ≡ t.Comma) × BindingAt ts inside constant (i + 1) b.0 b.1 j

        binding_step : (i : ℕ) (x : Option (List ℕ × Init) × ℕ) → r.binding_step ts n inside constant i ≡ Some x → StepIs i x
        unfolding r.binding_step
        binding_step i x h = elim (chosen _ _ _ _ h) [
          | inl p ↦
              let a = bind_ok _ _ _ p.1 in
              from_some (StepIs i) a.2 (same_is _ _ p.0, one_binding (i + 1) a.0 a.1)
          | inr p ↦ from_some (StepIs i) p.1 (same_not _ _ p.0, refl)
        ]

        more_bindings : (m i : ℕ) (x : Bindings × ℕ) → many no_more (r.cons_binding ts n inside constant) (r.binding_step ts n inside constant) m i ≡ Some x → MoreBindings ts inside constant i x.0 x.1
        more_bindings zero i x h = absurd (many_never _ _ _ _ _ h)
        more_bindings (suc m) i x h = elim (many_ok _ _ _ _ _ _ h) [
          | inl (j, (s, e)) ↦
              let k = binding_step i (None, j) s in
              subst (λ y. MoreBindings ts inside constant i y.0 y.1) e (subst (λ q. MoreBindings ts inside constant i no_more q) k.1 (no_binding k.0))
          | inr (a, (j, (l, (s, (f, e))))) ↦
              let k = binding_step i (Some a, j) s in
              subst (λ y. MoreBindings ts inside constant i y.0 y.1) e (a_binding k.0 k.1 (more_bindings m j l f))
        ]

        bindings : (i : ℕ) (x : Bindings × ℕ) → r.bindings ts n inside constant i ≡ Some x → BindingsAt ts inside constant i x.0 x.1
        unfolding r.bindings
        bindings i x h =
            let a = bind_ok _ _ _ h in
            let b = bind_ok _ _ _ a.2 in
            from_some (λ y. BindingsAt ts inside constant i y.0 y.1) b.2 (some_bindings (one_binding i a.0 a.1) (more_bindings n a.0.1 b.0 b.1))

        declaration : (make : Bindings → Stmt) (i : ℕ) (x : Stmt × ℕ) → r.declaration ts n inside constant make i ≡ Some x → ((bs : Bindings) (k j : ℕ) → BindingsAt ts inside constant (i + 1) bs k → Ends ts false k j → StmtAt ts inside i (make bs) j) → StmtAt ts inside i x.0 x.1
        unfolding r.declaration
        declaration make i x h f =
            let a = bind_ok _ _ _ h in
            ended false (StmtAt ts inside i) (make a.0.0) a.0.1 x a.2 (λ j e. f a.0.0 a.0.1 j (bindings (i + 1) a.0 a.1) e)

      abbrev At : ℕ → Stmt × ℕ → Type 0
      At i x = StmtAt ts inside i x.0 x.1

      assign : (i : ℕ) (x : Stmt × ℕ) → is_assign ts i ≡ true → r.assign ts n inside i ≡ Some x → At i x
      unfolding r.assign
      assign i x c h =
          let a = bind_ok _ _ _ h in
          ended false (StmtAt ts inside i) _ _ x a.2 (λ j e. an_assign c (init (i + 2) a.0 a.1) e)

      thrown : (i : ℕ) (x : Stmt × ℕ) → terminal_at ts i ≡ t.Throw → r.thrown ts n inside i ≡ Some x → At i x
      unfolding r.thrown
      thrown i x c h =
          let g = bar_ok _ _ _ h in
          let a = bind_ok _ _ _ g.1 in
          ended false (StmtAt ts inside i) _ _ x a.2 (λ j e. a_throw c g.0 (sound.expr ts n (i + 1) a.0 a.1) e)

      returned : (i : ℕ) (x : Stmt × ℕ) → terminal_at ts i ≡ t.Return → r.returned ts n inside i ≡ Some x → At i x
      unfolding r.returned
      returned i x c h =
          let g = guard_ok _ _ _ h in
          elim (chosen _ _ _ _ g.1) [
            | inl p ↦ ended false (StmtAt ts inside i) _ _ x p.1 (λ j e. a_return c g.0 p.0 e)
            | inr p ↦
                let a = bind_ok _ _ _ p.1 in
                ended false (StmtAt ts inside i) _ _ x a.2 (λ j e. a_return_value c g.0 p.0 (sound.expr ts n (i + 1) a.0 a.1) e)
          ]

      await_statement : (i : ℕ) (x : Stmt × ℕ) → terminal_at ts i ≡ t.Await → r.await_statement ts n inside i ≡ Some x → At i x
      unfolding r.await_statement
      await_statement i x c h =
          let g = bar_ok _ _ _ h in
          let a = bind_ok _ _ _ g.1 in
          ended false (StmtAt ts inside i) _ _ x a.2 (λ j e. an_await_statement c g.0 (operand (i + 1) a.0 a.1) e)

      print_await : (i : ℕ) (x : Stmt × ℕ) → is_print_await ts i ≡ true → r.print_await ts n inside i ≡ Some x → At i x
      unfolding r.print_await
      print_await i x c h =
          let g = bar_ok _ _ _ h in
          let a = bind_ok _ _ _ g.1 in
          let d = guard_ok _ _ _ a.2 in
          ended true (StmtAt ts inside i) _ _ x d.1 (λ j e. a_print_await c g.0 (operand (i + 3) a.0 a.1) (same_is _ _ d.0) e)

      expression : (i : ℕ) (x : Stmt × ℕ) → is_keyword ts (terminal_at ts i) ≡ false → r.expression ts n inside i ≡ Some x → At i x
      unfolding r.expression
      expression i x o h = elim (chosen _ _ _ _ h) [
        | inl p ↦ assign i x p.0 p.1
        | inr p ↦ elim (chosen _ _ _ _ p.1) [
          | inl q ↦ print_await i x q.0 q.1
          | inr q ↦
              let a = bind_ok _ _ _ q.1 in
              ended false (StmtAt ts inside i) _ _ x a.2 (λ j e. an_expression o p.0 q.0 (sound.expr ts n i a.0 a.1) e)
        ]
      ]

      module _ (block : ℕ → Read Stmts) (ok : (i : ℕ) (x : Stmts × ℕ) → block i ≡ Some x → BlockAt ts inside i x.0 x.1) where
        choice : (i : ℕ) (x : Stmt × ℕ) → terminal_at ts i ≡ t.If → r.choice ts n inside block i ≡ Some x → At i x
        unfolding r.choice r.with_else
        choice i x c h =
            let g = guard_ok _ _ _ h in
            let a = bind_ok _ _ _ g.1 in
            let d = guard_ok _ _ _ a.2 in
            let b = bind_ok _ _ _ d.1 in
            let read = sound.expr ts n (i + 2) a.0 a.1 in
            elim (chosen _ _ _ _ b.2) [
              | inl p ↦
                  let m = bind_ok _ _ _ p.1 in
                  from_some (At i) m.2 (an_if_else c (same_is _ _ g.0) read (same_is _ _ d.0) (ok (a.0.1 + 1) b.0 b.1) (same_is _ _ p.0) (ok (b.0.1 + 1) m.0 m.1))
              | inr p ↦ from_some (At i) p.1 (an_if c (same_is _ _ g.0) read (same_is _ _ d.0) (ok (a.0.1 + 1) b.0 b.1) (same_not _ _ p.0))
            ]

        tried : (i : ℕ) (x : Stmt × ℕ) → terminal_at ts i ≡ t.Try → r.tried ts n inside block i ≡ Some x → At i x
        unfolding r.tried r.caught
        tried i x c h =
            let a = bind_ok _ _ _ h in
            let g = guard_ok _ _ _ a.2 in
            let head = ok (i + 1) a.0 a.1 in
            elim (chosen _ _ _ _ g.1) [
              | inl p ↦
                  let d = guard_ok _ _ _ p.1 in
                  let f = guard_ok _ _ _ d.1 in
                  let b = bind_ok _ _ _ f.1 in
                  from_some (At i) b.2 (a_catch c head (same_is _ _ g.0) (same_is _ _ p.0) d.0 (same_is _ _ f.0) (ok (a.0.1 + 4) b.0 b.1))
              | inr p ↦
                  let b = bind_ok _ _ _ p.1 in
                  from_some (At i) b.2 (a_try c head (same_is _ _ g.0) (same_not _ _ p.0) (ok (a.0.1 + 1) b.0 b.1))
            ]

        stmt_by : (s : Terminal) (i : ℕ) (x : Stmt × ℕ) → terminal_at ts i ≡ s → r.stmt_by ts n inside block s i ≡ Some x → At i x
        stmt_by t.BraceOpen i x c h = let a = bind_ok _ _ _ h in from_some (At i) a.2 (a_block (ok i a.0 a.1))
        stmt_by t.Semicolon i x c h = from_some (At i) h (an_empty c)
        stmt_by t.Const i x c h = declaration true Const i x h (λ bs k j b e. a_const c b e)
        stmt_by t.Let i x c h = declaration false Let i x h (λ bs k j b e. a_let c b e)
        stmt_by t.If i x c h = choice i x c h
        stmt_by t.Try i x c h = tried i x c h
        stmt_by t.Throw i x c h = thrown i x c h
        stmt_by t.Return i x c h = returned i x c h
        stmt_by t.Await i x c h = await_statement i x c h
        stmt_by _ i x c h = expression i x (rw c refl) h

        stmt_with : (i : ℕ) (x : Stmt × ℕ) → r.stmt_with ts n inside block i ≡ Some x → At i x
        unfolding r.stmt_with
        stmt_with i x h = stmt_by (terminal_at ts i) i x refl h

        abbrev StmtStepIs : ℕ → Option Stmt × ℕ → Type 0
        StmtStepIs i (None, j) = (terminal_at ts i ≡ t.BraceClose) × (i + 1 ≡ j)
        StmtStepIs i (Some s, j) = (terminal_at ts i ≢ t.BraceClose) × StmtAt ts inside i s j

        stmt_step : (i : ℕ) (x : Option Stmt × ℕ) → r.stmt_step ts n inside block i ≡ Some x → StmtStepIs i x
        unfolding r.stmt_step
        stmt_step i x h = elim (chosen _ _ _ _ h) [
          | inl p ↦ from_some (StmtStepIs i) p.1 (same_is _ _ p.0, refl)
          | inr p ↦
              let a = bind_ok _ _ _ p.1 in
              from_some (StmtStepIs i) a.2 (same_not _ _ p.0, stmt_with i a.0 a.1)
        ]

        stmts : (m i : ℕ) (x : Stmts × ℕ) → many nothing first (r.stmt_step ts n inside block) m i ≡ Some x → StmtsAt ts inside i x.0 x.1
        stmts zero i x h = absurd (many_never _ _ _ _ _ h)
        stmts (suc m) i x h = elim (many_ok _ _ _ _ _ _ h) [
          | inl (j, (s, e)) ↦
              let k = stmt_step i (None, j) s in
              subst (λ y. StmtsAt ts inside i y.0 y.1) e (subst (λ q. StmtsAt ts inside i nothing q) k.1 (no_stmt k.0))
          | inr (a, (j, (l, (s, (f, e))))) ↦
              let k = stmt_step i (Some a, j) s in
              subst (λ y. StmtsAt ts inside i y.0 y.1) e (a_stmt k.0 k.1 (stmts m j l f))
        ]

      pub block : (m i : ℕ) (x : Stmts × ℕ) → r.block ts n inside m i ≡ Some x → BlockAt ts inside i x.0 x.1
      unfolding r.block
      block zero i x h = absurd (cc)
      block (suc m) i x h = let g = guard_ok _ _ _ h in in_braces (same_is _ _ g.0) (stmts (r.block ts n inside m) (block m) n (i + 1) x g.1)

      pub stmt : (m i : ℕ) (x : Stmt × ℕ) → r.stmt ts n inside m i ≡ Some x → At i x
      unfolding r.stmt
      stmt m i x h = stmt_with (r.block ts n inside m) (block m) i x h
