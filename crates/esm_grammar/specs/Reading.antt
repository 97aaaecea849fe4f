-- Reading an expression forward, as a function of the place. The number bounds the turns: the count of the tokens is always enough.
use Rattle.std.specs.Prelude.{ℕ, zero, suc, ◌+◌, Bool, true, false, List, Option, Some, None}
use denote.Enum.Bare.{sameb}
use Rattle.esm_tree.specs.contracts.lexeme.Terminal.{the_type}
use Rattle.esm_tree.specs.Syntax.{Expr, Text, Truth, Undefined, Name, Group, Or, And, Sum, Not, Print, EmptyError, NewError, Import, Url, Exprs, none, more, Compared, last, compared, Links, ends, member, call}
use Rattle.esm_tree.specs.declared.lexeme.Terminal.{Terminal}
use Rattle.esm_tree.specs.declared.lexeme.Terminal.TheVariants as t
use Rattle.esm_tree.specs.Lexeme.{Lexeme}
use Rattle.esm_grammar.specs.Lexeme.{terminal_at, text_at, is_word}
use Rattle.esm_grammar.specs.Grammar.{joined, compares, linked}

infixl 10 ◌>>=◌
unfoldable pub ◌>>=◌ : {A B : Type 0} → Option A → (A → Option B) → Option B
None >>= f = None
(Some x) >>= f = f x

unfoldable pub pick : {A : Type 0} → Bool → A → A → A
pick true x y = x
pick false x y = y

abbrev pub Read : Type 0 → Type 0
Read A = Option (A × ℕ)

unfoldable pub same : Terminal → Terminal → Bool
same = sameb the_type

module _ (ts : List Lexeme) where
  abbrev pub sees : ℕ → Terminal → Bool
  sees i s = same (terminal_at ts i) s

  -- one token
  abbrev pub taken : {A : Type 0} → A → ℕ → Read A
  taken a i = Some (a, i + 1)

  unfoldable pub expect : {A : Type 0} → Terminal → A → ℕ → Read A
  expect s a i = pick (sees i s) (Some (a, i + 1)) None

  unfoldable pub further : Terminal → (ℕ → Read Expr) → ℕ → ℕ → Read Exprs
  further s operand zero i = None
  further s operand (suc n) i =
      pick (sees i s)
      (do
        e ← operand (i + 1)
        es ← further s operand n e.1
        Some (more e.0 es.0, es.1))
      (Some (none, i))

  unfoldable pub chain : Terminal → (Expr → Exprs → Expr) → (ℕ → Read Expr) → ℕ → ℕ → Read Expr
  chain s make operand n i = do
    e ← operand i
    es ← further s operand n e.1
    Some (joined make e.0 es.0, es.1)

  unfoldable pub comparisons : (ℕ → Read Expr) → ℕ → ℕ → Read Compared
  comparisons operand zero i = None
  comparisons operand (suc n) i =
      pick (sees i t.Same)
      (do
        e ← operand (i + 1)
        cs ← comparisons operand n e.1
        Some (compared true e.0 cs.0, cs.1))
      (pick (sees i t.Differs)
      (do
        e ← operand (i + 1)
        cs ← comparisons operand n e.1
        Some (compared false e.0 cs.0, cs.1))
      (Some (last, i)))

  unfoldable pub after_argument : (ℕ → Read Exprs) → Expr → ℕ → Read Exprs
  after_argument others e i =
      pick (sees i t.Close)
      (Some (more e none, i + 1))
      (pick (sees i t.Comma)
      (do
        es ← others (i + 1)
        Some (more e es.0, es.1))
      None)

  unfoldable pub comma_close : {A : Type 0} → A → ℕ → Read A
  comma_close a i =
      pick (sees i t.Close)
      (Some (a, i + 1))
      (pick (sees i t.Comma) (pick (sees (i + 1) t.Close) (Some (a, i + 2)) None) None)

  -- whole reads the expressions in brackets
  module _ (whole : ℕ → Read Expr) where
    unfoldable pub arguments : ℕ → ℕ → Read Exprs
    arguments zero i = None
    arguments (suc n) i =
        pick (sees i t.Close)
        (Some (none, i + 1))
        (do
          e ← whole i
          after_argument (arguments n) e.0 e.1)

    -- the first number is for the arguments
    unfoldable pub links : ℕ → ℕ → ℕ → Read Links
    links m zero i = None
    links m (suc n) i =
        pick (sees i t.Dot)
        (pick (is_word (terminal_at ts (i + 1)))
        (do
          ls ← links m n (i + 2)
          Some (member (text_at ts (i + 1)) ls.0, ls.1))
        None)
        (pick (sees i t.Open)
        (do
          es ← arguments m (i + 1)
          ls ← links m n es.1
          Some (call es.0 ls.0, ls.1))
        (Some (ends, i)))

    -- each from its first token on
    unfoldable pub parenthesized : ℕ → Read Expr
    parenthesized i = do
      e ← whole (i + 1)
      expect t.Close (Group e.0) e.1

    unfoldable pub new_error : ℕ → Read Expr
    new_error i =
        pick (sees (i + 1) t.Error)
        (pick (sees (i + 2) t.Open)
        (pick (sees (i + 3) t.Close)
        (Some (EmptyError, i + 4))
        (do
          e ← whole (i + 3)
          comma_close (NewError e.0) e.1))
        None)
        None

    unfoldable pub url : ℕ → Read Expr
    url i =
        pick (sees (i + 2) t.Meta)
        (pick (sees (i + 3) t.Dot) (pick (sees (i + 4) t.Url) (Some (Url, i + 5)) None) None)
        None

    unfoldable pub imported : ℕ → Read Expr
    imported i =
        pick (sees (i + 1) t.Open)
        (do
          e ← whole (i + 2)
          expect t.Close (Import e.0) e.1)
        (pick (sees (i + 1) t.Dot) (url i) None)

    unfoldable pub printed : ℕ → ℕ → Read Expr
    printed n i =
        pick (sees (i + 1) t.Open)
        (do
          es ← arguments n (i + 2)
          Some (Print es.0, es.1))
        None

    abbrev pub prim_by : ℕ → Terminal → ℕ → Read Expr
    prim_by n t.Literal i = Some (Text (text_at ts i), i + 1)
    prim_by n t.True i = Some (Truth true, i + 1)
    prim_by n t.False i = Some (Truth false, i + 1)
    prim_by n t.Undefined i = Some (Undefined, i + 1)
    prim_by n t.Name i = Some (Name (text_at ts i), i + 1)
    prim_by n t.As i = Some (Name (text_at ts i), i + 1)
    prim_by n t.From i = Some (Name (text_at ts i), i + 1)
    prim_by n t.Meta i = Some (Name (text_at ts i), i + 1)
    prim_by n t.Url i = Some (Name (text_at ts i), i + 1)
    prim_by n t.Open i = parenthesized i
    prim_by n t.Print i = printed n i
    prim_by n t.New i = new_error i
    prim_by n t.Import i = imported i
    prim_by n _ i = None

    unfoldable pub prim : ℕ → ℕ → Read Expr
    prim n i = prim_by n (terminal_at ts i) i

    unfoldable pub post : ℕ → ℕ → Read Expr
    post n i = do
      e ← prim n i
      ls ← links n n e.1
      Some (linked e.0 ls.0, ls.1)

    -- the second number counts signs
    unfoldable pub unary : ℕ → ℕ → ℕ → Read Expr
    unary n zero i = None
    unary n (suc m) i =
        pick (sees i t.Not)
        (do
          e ← unary n m (i + 1)
          Some (Not e.0, e.1))
        (post n i)

    unfoldable pub sum : ℕ → ℕ → Read Expr
    sum n i = chain t.Plus Sum (unary n n) n i

    unfoldable pub equal : ℕ → ℕ → Read Expr
    equal n i = do
      e ← sum n i
      cs ← comparisons (sum n) n e.1
      Some (compares e.0 cs.0, cs.1)

    unfoldable pub both : ℕ → ℕ → Read Expr
    both n i = chain t.AndAnd And (equal n) n i

    unfoldable pub either : ℕ → ℕ → Read Expr
    either n i = chain t.OrOr Or (both n) n i

  unfoldable pub expr : ℕ → ℕ → Read Expr
  expr zero i = None
  expr (suc n) i = either (expr n) n i
