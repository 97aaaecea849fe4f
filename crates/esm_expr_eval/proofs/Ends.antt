-- A turn's end is the end of the whole.
use Rattle.std.proofs.Common.{◌≡◌, ◌+◌, ℕ, List, [], ◌∷◌, refl, ap, ◌∙◌}
use Rattle.std.specs.Prelude.{Option, Some, None, Err}
use Rattle.esm_tree.specs.Syntax as ast
use Rattle.esm_tree.specs.Flat.{part}
use Rattle.esm_values.specs.Plans.{Acting}
use Rattle.esm_expr_eval.specs.Terms.{Term, Terms, term, terms, compared_terms, links, fill, fill_all, fill_compared, fill_links}
use Rattle.esm_expr_eval.specs.Terms.Term.{Val, Waits, Fails, Or, And, Sum, Post, Equal, Not, Print, NewError, Import}
use Rattle.esm_expr_eval.specs.Terms.Terms.{more}
use Rattle.esm_expr_eval.specs.Terms.Compared.{compared}
use Rattle.esm_expr_eval.specs.Terms.LinkTerms.{member, call}
use Rattle.esm_values.specs.Code.{CodeValue, value_of, values_of, numbered}
use Rattle.esm_expr_eval.specs.Rewriting.{Rewrites as step}
use Rattle.esm_expr_eval.specs.Ends.{Leads, TermEnd}
use Rattle.esm_expr_eval.proofs.Steps.{leaves}
use Rattle.esm_expr_eval.specs.Frames.{behind, plug, around, GoesOn, EndsTurn, arguments_of, operands_of}
use Rattle.esm_expr_eval.specs.Parts.{from, links_from, links_of}
use Rattle.esm_expr_eval.specs.Machine.{LeadsToMove, IsGiven}
use Rattle.esm_expr_eval.specs.declared.frame.Focus.{Focus}
use Rattle.esm_values.specs.declared.value.Value.{Value}
use Rattle.esm_expr_eval.specs.declared.frame.Frame.{Frame}
use Rattle.esm_expr_eval.specs.declared.frame.Frame.TheVariants as f
use Rattle.esm_expr_eval.specs.declared.world.ExprEnd.{ExprEnd}
use Rattle.esm_expr_eval.specs.declared.world.ExprEnd.TheVariants as ends

module _ {W S : Type 0} (url : W → List ℕ) (acts : Acting W CodeValue S) where
  pub ended : (exprs : List ast.Expr) (w mid after : W) (t u : Term CodeValue) (frames : List Frame) (rest : Term CodeValue) (end : ExprEnd S) → GoesOn url acts w t mid u → EndsTurn url acts exprs mid u (Err end) after frames → LeadsToMove url acts w t (Err end) after rest
  ended exprs w mid after t u frames rest (ends.Stopped why) g h = g _ _ h
  ended exprs w mid after t u frames rest ends.Memory g h = tt

-- what hasn't begun holds no call under way
module _ (p : Term CodeValue) where
  mutual
    fill_term : (e : ast.Expr) → fill p (term numbered e) ≡ term numbered e
    fill_term (ast.Text s) = refl
    fill_term (ast.Truth b) = refl
    fill_term ast.Undefined = refl
    fill_term (ast.Name x) = refl
    fill_term (ast.Group e) = fill_term e
    fill_term (ast.Or e es) = λ i. Or (fill_term e i) (fill_terms es i)
    fill_term (ast.And e es) = λ i. And (fill_term e i) (fill_terms es i)
    fill_term (ast.Equal e cs) = λ i. Equal (fill_term e i) (fill_cs cs i)
    fill_term (ast.Sum e es) = λ i. Sum (fill_term e i) (fill_terms es i)
    fill_term (ast.Not e) = ap Not (fill_term e)
    fill_term (ast.Post e ls) = λ i. Post (fill_term e i) (fill_ls ls i)
    fill_term (ast.Print es) = ap Print (fill_terms es)
    fill_term ast.EmptyError = refl
    fill_term (ast.NewError e) = ap NewError (fill_term e)
    fill_term (ast.Import e) = ap Import (fill_term e)
    fill_term ast.Url = refl

    fill_terms : (es : ast.Exprs) → fill_all p (terms numbered es) ≡ terms numbered es
    fill_terms ast.none = refl
    fill_terms (ast.more e es) = λ i. more (fill_term e i) (fill_terms es i)

    fill_cs : (cs : ast.Compared) → fill_compared p (compared_terms numbered cs) ≡ compared_terms numbered cs
    fill_cs ast.last = refl
    fill_cs (ast.compared b e cs) = λ i. compared b (fill_term e i) (fill_cs cs i)

    fill_ls : (ls : ast.Links) → fill_links p (links numbered ls) ≡ links numbered ls
    fill_ls ast.ends = refl
    fill_ls (ast.member x ls) = ap (λ ls. member x ls) (fill_ls ls)
    fill_ls (ast.call es ls) = λ i. call (fill_terms es i) (fill_ls ls i)

  fill_behind : (vs : List CodeValue) (es : Terms CodeValue) → fill_all p (behind vs es) ≡ behind vs (fill_all p es)
  fill_behind [] es = refl
  fill_behind (u ∷ vs) es = ap (λ es. more (Val u) es) (fill_behind vs es)

  fill_plug : (exprs : List ast.Expr) (frame : Frame) (t : Term CodeValue) → fill p (plug exprs frame t) ≡ plug exprs frame (fill p t)
  fill_plug exprs (f.Or at n) t = ap (λ es. Or (fill p t) es) (fill_terms _)
  fill_plug exprs (f.And at n) t = ap (λ es. And (fill p t) es) (fill_terms _)
  fill_plug exprs (f.Equal at n) t = ap (λ cs. Equal (fill p t) cs) (fill_cs _)
  fill_plug exprs (f.Compared at n alike u) t = ap (λ cs. Equal (Val (value_of u)) (compared alike (fill p t) cs)) (fill_cs _)
  fill_plug exprs (f.Sum at n) t = ap (λ es. Sum (fill p t) es) (fill_terms _)
  fill_plug exprs (f.Added at n u) t = ap (λ es. Sum (Val (value_of u)) (more (fill p t) es)) (fill_terms _)
  fill_plug exprs f.Not t = refl
  fill_plug exprs (f.Post at n) t = ap (λ ls. Post (fill p t) ls) (fill_ls _)
  fill_plug exprs (f.Arguments at link n callee vs) t =
      let rest = from n (arguments_of exprs at link) in
      let one = fill_behind (values_of vs.items) (more t (terms numbered rest)) ∙ ap (λ es. behind (values_of vs.items) (more (fill p t) es)) (fill_terms rest) in
      let two = fill_ls (links_from (link + 1) (links_of (part exprs at))) in
      λ i. Post (Val (value_of callee)) (call (one i) (two i))
  fill_plug exprs (f.Print at n vs) t =
      let rest = from n (operands_of exprs at) in
      ap Print (fill_behind (values_of vs.items) (more t (terms numbered rest)) ∙ ap (λ es. behind (values_of vs.items) (more (fill p t) es)) (fill_terms rest))
  fill_plug exprs f.NewError t = refl
  fill_plug exprs f.Import t = refl

  pub fill_around : (exprs : List ast.Expr) (frames : List Frame) (t : Term CodeValue) → fill p (around exprs frames t) ≡ around exprs frames (fill p t)
  unfolding around
  fill_around exprs [] t = refl
  fill_around exprs (frame ∷ frames) t = fill_plug exprs frame (around exprs frames t) ∙ ap (plug exprs frame) (fill_around exprs frames t)

pub is_waits : (v : Value) (part : Option Focus) → IsGiven (Some v) part → part ≡ None
is_waits v None h = refl
is_waits v (Some focus) h = absurd h

-- a throw of the call under way is a throw of the whole, so that the frames may be dropped
module _ {W S : Type 0} (url : W → List ℕ) (acts : Acting W CodeValue S) where
  pub thrown_through : (exprs : List ast.Expr) (frames : List Frame) (w : W) (v : CodeValue) → Leads numbered url acts w (fill (Fails v) (around exprs frames Waits)) (TermEnd.Thrown v) w
  thrown_through exprs frames w v = rw (fill_around (Fails v) exprs frames Waits) (leaves url acts exprs frames step.fails)
