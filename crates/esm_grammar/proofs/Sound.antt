-- What the function reads is in the grammar.
use Rattle.std.proofs.Common.{◌≡◌, ℕ, zero, suc, ◌+◌, inl, inr, List, Some, refl, sym, subst}
use Rattle.esm_tree.specs.Syntax.{Expr, NewError, Exprs, Compared, Links}
use Rattle.esm_tree.specs.declared.lexeme.Terminal.{Terminal}
use Rattle.esm_tree.specs.declared.lexeme.Terminal.TheVariants as t
use Rattle.esm_tree.specs.Lexeme.{Lexeme}
use Rattle.esm_grammar.specs.Lexeme.{terminal_at}
use Rattle.esm_grammar.specs.Grammar.{Level, ors, ands, equals, sums, unaries, posts, prims, Reads, some_ors, some_ands, some_equals, some_sums, a_not, no_not, a_post, a_text, a_true, a_false, an_undefined, a_name, in_parentheses, a_print, no_error_text, an_error, an_import, a_url, Further, no_further, one_further, Comparisons, no_comparison, a_same, a_differs, LinksAt, no_link, a_member, a_call, Arguments, closed, argument, closes, comma, CommaClose, just_close, comma_close}
use Rattle.esm_grammar.specs.Reading as r
use Rattle.esm_grammar.specs.Reading.{Read}
use Rattle.esm_grammar.proofs.Basics.{bind_ok, chosen, guard_ok, from_some, same_is, same_not}

module _ (ts : List Lexeme) where
  -- what a function reads at any place is of this level
  abbrev Gives : (ℕ → Read Expr) → Level → Type 0
  Gives f l = (i : ℕ) (x : Expr × ℕ) → f i ≡ Some x → Reads ts l i x.0 x.1

  further : (s : Terminal) (operand : ℕ → Read Expr) (l : Level) → Gives operand l → (n i : ℕ) (x : Exprs × ℕ) → r.further ts s operand n i ≡ Some x → Further ts s l i x.0 x.1
  unfolding r.further
  further s operand l ok zero i x h = absurd (cc)
  further s operand l ok (suc n) i x h = elim (chosen _ _ _ _ h) [
    | inl p ↦
        let a = bind_ok _ _ _ p.1 in
        let b = bind_ok _ _ _ a.2 in
        from_some (λ y. Further ts s l i y.0 y.1) b.2 (one_further (same_is _ _ p.0) (ok (i + 1) a.0 a.1) (further s operand l ok n a.0.1 b.0 b.1))
    | inr p ↦ from_some (λ y. Further ts s l i y.0 y.1) p.1 (no_further (same_not _ _ p.0))
  ]

  comparisons : (operand : ℕ → Read Expr) → Gives operand sums → (n i : ℕ) (x : Compared × ℕ) → r.comparisons ts operand n i ≡ Some x → Comparisons ts i x.0 x.1
  unfolding r.comparisons
  comparisons operand ok zero i x h = absurd (cc)
  comparisons operand ok (suc n) i x h = elim (chosen _ _ _ _ h) [
    | inl p ↦
        let a = bind_ok _ _ _ p.1 in
        let b = bind_ok _ _ _ a.2 in
        from_some (λ y. Comparisons ts i y.0 y.1) b.2 (a_same (same_is _ _ p.0) (ok (i + 1) a.0 a.1) (comparisons operand ok n a.0.1 b.0 b.1))
    | inr q ↦ elim (chosen _ _ _ _ q.1) [
      | inl p ↦
          let a = bind_ok _ _ _ p.1 in
          let b = bind_ok _ _ _ a.2 in
          from_some (λ y. Comparisons ts i y.0 y.1) b.2 (a_differs (same_is _ _ p.0) (ok (i + 1) a.0 a.1) (comparisons operand ok n a.0.1 b.0 b.1))
      | inr p ↦ from_some (λ y. Comparisons ts i y.0 y.1) p.1 (no_comparison (same_not _ _ q.0) (same_not _ _ p.0))
    ]
  ]

  module _ (whole : ℕ → Read Expr) (ok : Gives whole ors) where
    arguments : (n i : ℕ) (x : Exprs × ℕ) → r.arguments ts whole n i ≡ Some x → Arguments ts i x.0 x.1
    unfolding r.arguments r.after_argument
    arguments zero i x h = absurd (cc)
    arguments (suc n) i x h = elim (chosen _ _ _ _ h) [
      | inl p ↦ from_some (λ y. Arguments ts i y.0 y.1) p.1 (closed (same_is _ _ p.0))
      | inr p ↦
          let a = bind_ok _ _ _ p.1 in
          elim (chosen _ _ _ _ a.2) [
            | inl q ↦ from_some (λ y. Arguments ts i y.0 y.1) q.1 (argument (same_not _ _ p.0) (ok i a.0 a.1) (closes (same_is _ _ q.0)))
            | inr q ↦
                let c = guard_ok _ _ _ q.1 in
                let b = bind_ok _ _ _ c.1 in
                from_some (λ y. Arguments ts i y.0 y.1) b.2 (argument (same_not _ _ p.0) (ok i a.0 a.1) (comma (same_is _ _ c.0) (arguments n (a.0.1 + 1) b.0 b.1)))
          ]
    ]

    links : (m n i : ℕ) (x : Links × ℕ) → r.links ts whole m n i ≡ Some x → LinksAt ts i x.0 x.1
    unfolding r.links
    links m zero i x h = absurd (cc)
    links m (suc n) i x h = elim (chosen _ _ _ _ h) [
      | inl p ↦
          let c = guard_ok _ _ _ p.1 in
          let b = bind_ok _ _ _ c.1 in
          from_some (λ y. LinksAt ts i y.0 y.1) b.2 (a_member (same_is _ _ p.0) c.0 (links m n (i + 2) b.0 b.1))
      | inr q ↦ elim (chosen _ _ _ _ q.1) [
        | inl p ↦
            let a = bind_ok _ _ _ p.1 in
            let b = bind_ok _ _ _ a.2 in
            from_some (λ y. LinksAt ts i y.0 y.1) b.2 (a_call (same_is _ _ p.0) (arguments m (i + 1) a.0 a.1) (links m n a.0.1 b.0 b.1))
        | inr p ↦ from_some (λ y. LinksAt ts i y.0 y.1) p.1 (no_link (same_not _ _ q.0) (same_not _ _ p.0))
      ]
    ]

    close : {A : Type 0} (a : A) (i : ℕ) (x : A × ℕ) → r.comma_close ts a i ≡ Some x → (x.0 ≡ a) × CommaClose ts i x.1
    unfolding r.comma_close
    close a i x h = elim (chosen _ _ _ _ h) [
      | inl p ↦ from_some (λ y. (y.0 ≡ a) × CommaClose ts i y.1) p.1 (refl, just_close (same_is _ _ p.0))
      | inr q ↦
          let c = guard_ok _ _ _ q.1 in
          let d = guard_ok _ _ _ c.1 in
          from_some (λ y. (y.0 ≡ a) × CommaClose ts i y.1) d.1 (refl, comma_close (same_is _ _ c.0) (same_is _ _ d.0))
    ]

    parenthesized : (i : ℕ) (x : Expr × ℕ) → terminal_at ts i ≡ t.Open → r.parenthesized ts whole i ≡ Some x → Reads ts prims i x.0 x.1
    unfolding r.parenthesized r.expect
    parenthesized i x e h =
        let a = bind_ok _ _ _ h in
        let c = guard_ok _ _ _ a.2 in
        from_some (λ y. Reads ts prims i y.0 y.1) c.1 (in_parentheses e (ok (i + 1) a.0 a.1) (same_is _ _ c.0))

    printed : (n i : ℕ) (x : Expr × ℕ) → terminal_at ts i ≡ t.Print → r.printed ts whole n i ≡ Some x → Reads ts prims i x.0 x.1
    unfolding r.printed
    printed n i x e h =
        let c = guard_ok _ _ _ h in
        let a = bind_ok _ _ _ c.1 in
        from_some (λ y. Reads ts prims i y.0 y.1) a.2 (a_print e (same_is _ _ c.0) (arguments n (i + 2) a.0 a.1))

    new_error : (i : ℕ) (x : Expr × ℕ) → terminal_at ts i ≡ t.New → r.new_error ts whole i ≡ Some x → Reads ts prims i x.0 x.1
    unfolding r.new_error
    new_error i x e h =
        let c = guard_ok _ _ _ h in
        let d = guard_ok _ _ _ c.1 in
        elim (chosen _ _ _ _ d.1) [
          | inl p ↦ from_some (λ y. Reads ts prims i y.0 y.1) p.1 (no_error_text e (same_is _ _ c.0) (same_is _ _ d.0) (same_is _ _ p.0))
          | inr p ↦
              let a = bind_ok _ _ _ p.1 in
              let b = close _ _ _ a.2 in
              let is : NewError a.0.0 ≡ x.0 = sym b.0 in
              subst (λ y. Reads ts prims i y x.1) is (an_error e (same_is _ _ c.0) (same_is _ _ d.0) (same_not _ _ p.0) (ok (i + 3) a.0 a.1) b.1)
        ]

    imported : (i : ℕ) (x : Expr × ℕ) → terminal_at ts i ≡ t.Import → r.imported ts whole i ≡ Some x → Reads ts prims i x.0 x.1
    unfolding r.imported r.url r.expect
    imported i x e h = elim (chosen _ _ _ _ h) [
      | inl p ↦
          let a = bind_ok _ _ _ p.1 in
          let c = guard_ok _ _ _ a.2 in
          from_some (λ y. Reads ts prims i y.0 y.1) c.1 (an_import e (same_is _ _ p.0) (ok (i + 2) a.0 a.1) (same_is _ _ c.0))
      | inr p ↦
          let c = guard_ok _ _ _ p.1 in
          let d = guard_ok _ _ _ c.1 in
          let f = guard_ok _ _ _ d.1 in
          let g = guard_ok _ _ _ f.1 in
          from_some (λ y. Reads ts prims i y.0 y.1) g.1 (a_url e (same_is _ _ c.0) (same_is _ _ d.0) (same_is _ _ f.0) (same_is _ _ g.0))
    ]

    prim_by : (s : Terminal) (n i : ℕ) (x : Expr × ℕ) → terminal_at ts i ≡ s → r.prim_by ts whole n s i ≡ Some x → Reads ts prims i x.0 x.1
    prim_by t.Literal n i x e h = from_some (λ y. Reads ts prims i y.0 y.1) h (a_text e)
    prim_by t.True n i x e h = from_some (λ y. Reads ts prims i y.0 y.1) h (a_true e)
    prim_by t.False n i x e h = from_some (λ y. Reads ts prims i y.0 y.1) h (a_false e)
    prim_by t.Undefined n i x e h = from_some (λ y. Reads ts prims i y.0 y.1) h (an_undefined e)
    prim_by t.Name n i x e h = from_some (λ y. Reads ts prims i y.0 y.1) h (a_name (rw e refl))
    prim_by t.As n i x e h = from_some (λ y. Reads ts prims i y.0 y.1) h (a_name (rw e refl))
    prim_by t.From n i x e h = from_some (λ y. Reads ts prims i y.0 y.1) h (a_name (rw e refl))
    prim_by t.Meta n i x e h = from_some (λ y. Reads ts prims i y.0 y.1) h (a_name (rw e refl))
    prim_by t.Url n i x e h = from_some (λ y. Reads ts prims i y.0 y.1) h (a_name (rw e refl))
    prim_by t.Open n i x e h = parenthesized i x e h
    prim_by t.Print n i x e h = printed n i x e h
    prim_by t.New n i x e h = new_error i x e h
    prim_by t.Import n i x e h = imported i x e h
    prim_by _ n i x e h = absurd (cc)

    prim : (n : ℕ) → Gives (r.prim ts whole n) prims
    unfolding r.prim
    prim n i x h = prim_by (terminal_at ts i) n i x refl h

    post : (n : ℕ) → Gives (r.post ts whole n) posts
    unfolding r.post
    post n i x h =
        let a = bind_ok _ _ _ h in
        let b = bind_ok _ _ _ a.2 in
        from_some (λ y. Reads ts posts i y.0 y.1) b.2 (a_post (prim n i a.0 a.1) (links n n a.0.1 b.0 b.1))

    pub unary : (n m : ℕ) → Gives (r.unary ts whole n m) unaries
    unfolding r.unary
    unary n zero i x h = absurd (cc)
    unary n (suc m) i x h = elim (chosen _ _ _ _ h) [
      | inl p ↦
          let a = bind_ok _ _ _ p.1 in
          from_some (λ y. Reads ts unaries i y.0 y.1) a.2 (a_not (same_is _ _ p.0) (unary n m (i + 1) a.0 a.1))
      | inr p ↦ no_not (same_not _ _ p.0) (post n i x p.1)
    ]

    sum : (n : ℕ) → Gives (r.sum ts whole n) sums
    unfolding r.sum r.chain
    sum n i x h =
        let a = bind_ok _ _ _ h in
        let b = bind_ok _ _ _ a.2 in
        from_some (λ y. Reads ts sums i y.0 y.1) b.2 (some_sums (unary n n i a.0 a.1) (further t.Plus (r.unary ts whole n n) unaries (unary n n) n a.0.1 b.0 b.1))

    equal : (n : ℕ) → Gives (r.equal ts whole n) equals
    unfolding r.equal
    equal n i x h =
        let a = bind_ok _ _ _ h in
        let b = bind_ok _ _ _ a.2 in
        from_some (λ y. Reads ts equals i y.0 y.1) b.2 (some_equals (sum n i a.0 a.1) (comparisons (r.sum ts whole n) (sum n) n a.0.1 b.0 b.1))

    both : (n : ℕ) → Gives (r.both ts whole n) ands
    unfolding r.both r.chain
    both n i x h =
        let a = bind_ok _ _ _ h in
        let b = bind_ok _ _ _ a.2 in
        from_some (λ y. Reads ts ands i y.0 y.1) b.2 (some_ands (equal n i a.0 a.1) (further t.AndAnd (r.equal ts whole n) equals (equal n) n a.0.1 b.0 b.1))

    either : (n : ℕ) → Gives (r.either ts whole n) ors
    unfolding r.either r.chain
    either n i x h =
        let a = bind_ok _ _ _ h in
        let b = bind_ok _ _ _ a.2 in
        from_some (λ y. Reads ts ors i y.0 y.1) b.2 (some_ors (both n i a.0 a.1) (further t.OrOr (r.both ts whole n) ands (both n) n a.0.1 b.0 b.1))

  pub expr : (n : ℕ) → Gives (r.expr ts n) ors
  unfolding r.expr
  expr zero i x h = absurd (cc)
  expr (suc n) i x h = either (r.expr ts n) (expr n) n i x h
