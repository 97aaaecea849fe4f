-- What stands for a call under way stands there alone: what else remains of code under way holds no call.
use Rattle.std.proofs.Common.{◌≡◌, ℕ, List, [], ◌∷◌, ◌++◌, length, map, Option, Some, None, refl, ap, sym, ◌∙◌}
use Rattle.std.specs.Arc.{arc_value}
use Rattle.esm_tree.specs.Syntax as ast
use Rattle.esm_tree.specs.Syntax.{Stmt as Statement}
use Rattle.esm_tree.specs.Flat.{stmt_part, part}
use Rattle.esm_values.specs.Code.{CodeValue, numbered}
use Rattle.esm_expr_eval.specs.Terms.{Term, term, terms, compared_terms, links, fill, fill_all, fill_compared, fill_links}
use Rattle.esm_expr_eval.specs.Terms.Term.{Or, And, Equal, Sum, Not, Post, Print, NewError, Import}
use Rattle.esm_expr_eval.specs.Terms.Terms.{more as more_terms}
use Rattle.esm_expr_eval.specs.Terms.Compared.{compared}
use Rattle.esm_expr_eval.specs.Terms.LinkTerms.{member, call}
use Rattle.esm_expr_eval.specs.Frames.{around, at_focus}
use Rattle.esm_expr_eval.specs.Machine.{rest_of, at_rest, IsGiven}
use Rattle.esm_expr_eval.specs.declared.frame.Focus.{Focus}
use Rattle.esm_expr_eval.specs.declared.frame.Focus.TheVariants as focus
use Rattle.esm_expr_eval.specs.declared.machine.ExprFrame.{ExprFrame}
use Rattle.esm_expr_eval.proofs.Ends.{fill_around}
use Rattle.esm_rewriting.specs.Scopes.{Scope}
use Rattle.esm_rewriting.specs.Rest.{Part, Rest, end, more, fill_part, fill_rest}
use Rattle.esm_rewriting.specs.Rest.{Part as parts}
use Rattle.esm_rewriting.specs.Contexts.{Context, Block, Trying, placed, surrounded}
use Rattle.esm_body.specs.Code.{in_front, in_front_of, part_of, awaited_by, use_of, contexts_of, context_by, innermost, scope_of_level, AreWork, AreLevels, IsWork, IsCode}
use Rattle.esm_body.specs.declared.work.Activation.{Activation}
use Rattle.esm_body.specs.declared.work.Kind.{Kind}
use Rattle.esm_body.specs.declared.work.Kind.TheVariants as k
use Rattle.esm_body.specs.declared.work.Level.{Level}
use Rattle.esm_body.specs.declared.work.Work.{Work}
use Rattle.esm_body.specs.declared.work.Work.TheVariants as w
use Rattle.esm_body.proofs.CaughtLemmas.{trying_as}

-- ---- expressions

module _ (p : Term CodeValue) where
  mutual
    fill_term : (e : ast.Expr) → fill p (term numbered e) ≡ term numbered e
    fill_term (ast.Text s) = refl
    fill_term (ast.Truth b) = refl
    fill_term ast.Undefined = refl
    fill_term (ast.Name x) = refl
    fill_term (ast.Group e) = fill_term e
    fill_term (ast.Or e es) = λ i. Or (fill_term e i) (fill_terms es i)
    fill_term (ast.And e es) = λ i. And (fill_term e i) (fill_terms es i)
    fill_term (ast.Equal e cs) = λ i. Equal (fill_term e i) (fill_cs cs i)
    fill_term (ast.Sum e es) = λ i. Sum (fill_term e i) (fill_terms es i)
    fill_term (ast.Not e) = ap Not (fill_term e)
    fill_term (ast.Post e ls) = λ i. Post (fill_term e i) (fill_ls ls i)
    fill_term (ast.Print es) = ap Print (fill_terms es)
    fill_term ast.EmptyError = refl
    fill_term (ast.NewError e) = ap NewError (fill_term e)
    fill_term (ast.Import e) = ap Import (fill_term e)
    fill_term ast.Url = refl

    fill_terms : (es : ast.Exprs) → fill_all p (terms numbered es) ≡ terms numbered es
    fill_terms ast.none = refl
    fill_terms (ast.more e es) = λ i. more_terms (fill_term e i) (fill_terms es i)

    fill_cs : (cs : ast.Compared) → fill_compared p (compared_terms numbered cs) ≡ compared_terms numbered cs
    fill_cs ast.last = refl
    fill_cs (ast.compared b e cs) = λ i. compared b (fill_term e i) (fill_cs cs i)

    fill_ls : (ls : ast.Links) → fill_links p (links numbered ls) ≡ links numbered ls
    fill_ls ast.ends = refl
    fill_ls (ast.member x ls) = ap (λ ls. member x ls) (fill_ls ls)
    fill_ls (ast.call es ls) = λ i. call (fill_terms es i) (fill_ls ls i)

  fill_focus : (exprs : List ast.Expr) (f : Focus) → fill p (at_focus exprs f) ≡ at_focus exprs f
  fill_focus exprs (focus.Begin id) = fill_term (part exprs id)
  fill_focus exprs (focus.Value v) = refl

  fill_at : (exprs : List ast.Expr) (o : Option Focus) → IsGiven None o → fill p (at_rest exprs o) ≡ at_rest exprs o
  fill_at exprs None g = absurd g
  fill_at exprs (Some f) g = fill_focus exprs f

  fill_frame : (s : ExprFrame) → IsGiven None s.focus → fill p (rest_of s) ≡ rest_of s
  fill_frame s g =
      fill_around p (arc_value s.tree).exprs s.frames.items (at_rest (arc_value s.tree).exprs s.focus) ∙ ap (around (arc_value s.tree).exprs s.frames.items) (fill_at (arc_value s.tree).exprs s.focus g)

  -- ---- levels

  module _ (n : ℕ) (stmts : List Statement) where
    fill_work : (one : Work) → IsWork n one → fill_part p (part_of stmts one) ≡ part_of stmts one
    fill_work (w.Whole id) h = refl
    fill_work (w.Does d) h = ap (parts.Does (awaited_by stmts d.awaits (use_of stmts d.purpose))) (fill_frame d.frame h.2)
    fill_work (w.Has purpose v) h = refl

    fill_front : (ws : List Work) (rest : Rest CodeValue) → AreWork n ws → fill_rest p (in_front stmts ws rest) ≡ in_front stmts ws (fill_rest p rest)
    fill_front [] rest h = refl
    fill_front (one ∷ ws) rest h = fill_front ws (more (part_of stmts one) rest) h.1 ∙ ap (λ q. in_front stmts ws (more q (fill_rest p rest))) (fill_work one h.0)

    abbrev fill_context : Context CodeValue → Context CodeValue
    fill_context (Block scope rest) = Block scope (fill_rest p rest)
    fill_context (Trying scope x handler rest) = Trying scope x handler (fill_rest p rest)

    fill_placed : (c : Context CodeValue) (r : Rest CodeValue) → fill_rest p (placed c r) ≡ placed (fill_context c) (fill_rest p r)
    fill_placed (Block scope rest) r = refl
    fill_placed (Trying scope x handler rest) r = refl

    fill_surrounded : (cs : List (Context CodeValue)) (r : Rest CodeValue) → fill_rest p (surrounded cs r) ≡ surrounded (map fill_context cs) (fill_rest p r)
    fill_surrounded [] r = refl
    fill_surrounded (c ∷ cs) r = fill_surrounded cs (placed c r) ∙ ap (surrounded (map fill_context cs)) (fill_placed c r)

    context_filled : (kind : Kind) (scope : Scope CodeValue) (rest : Rest CodeValue) → fill_context (context_by stmts kind scope rest) ≡ context_by stmts kind scope (fill_rest p rest)
    context_filled k.Block scope rest = refl
    context_filled (k.Tries id) scope rest = ap fill_context (trying_as stmts (stmt_part stmts id) scope rest) ∙ sym (trying_as stmts (stmt_part stmts id) scope (fill_rest p rest))

    map_more : (cs : List (Context CodeValue)) (c : Context CodeValue) → map fill_context (cs ++ c ∷ []) ≡ map fill_context cs ++ fill_context c ∷ []
    map_more [] c = refl
    map_more (d ∷ cs) c = ap (λ ds. fill_context d ∷ ds) (map_more cs c)

    fill_contexts : (ls : List Level) → AreLevels n ls → map fill_context (contexts_of stmts ls) ≡ contexts_of stmts ls
    fill_contexts [] h = refl
    fill_contexts (l ∷ []) h = refl
    fill_contexts (l ∷ o ∷ ls) h =
        map_more (contexts_of stmts (o ∷ ls)) (context_by stmts o.kind (scope_of_level o) (in_front stmts l.work end))
        ∙ (λ i. fill_contexts (o ∷ ls) h.2 i ++ context_filled o.kind (scope_of_level o) (in_front stmts l.work end) i ∷ [])
        ∙ ap (λ r. contexts_of stmts (o ∷ ls) ++ context_by stmts o.kind (scope_of_level o) r ∷ []) (fill_front l.work end h.1)

    fill_innermost : (ls : List Level) → AreLevels n ls → fill_rest p (innermost stmts ls) ≡ innermost stmts ls
    fill_innermost [] h = refl
    fill_innermost (l ∷ []) h = fill_front l.work end h.1
    fill_innermost (l ∷ o ∷ ls) h = fill_innermost (o ∷ ls) h.2

  -- what stands for the call or the await of what is in front of the levels
  pub fill_code : (a : Activation) (q : Part CodeValue) → IsCode a → fill_rest p (in_front_of a q) ≡ in_front_of a (fill_part p q)
  fill_code a q c =
      let stmts = (arc_value a.tree).stmts in
      let n = length stmts in
      fill_surrounded n stmts (contexts_of stmts a.levels.items) (more q (innermost stmts a.levels.items))
      ∙ (λ i. surrounded (fill_contexts n stmts a.levels.items c.levels i) (more (fill_part p q) (fill_innermost n stmts a.levels.items c.levels i)))
