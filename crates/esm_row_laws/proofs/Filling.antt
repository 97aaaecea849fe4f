-- What stands for the call of a caller stands there alone: what else remains of it holds no call.
use Rattle.std.proofs.Common.{◌≡◌, ℕ, zero, suc, nat_eq, List, [], ◌∷◌, refl, ap, ◌∙◌}
use Rattle.esm_tree.specs.Syntax as ast
use Rattle.esm_tree.specs.Syntax.{Init, absent, plain, awaited, Bindings, no_more, binding, Stmts, nothing, first, Links}
use Rattle.esm_values.specs.Value.{Value}
use Rattle.esm_values.specs.Operators.{values}
use Rattle.esm_expr_eval.specs.Terms.{Term, Terms, term, terms, compared_terms, links, fill, fill_all, fill_compared, fill_links}
use Rattle.esm_expr_eval.specs.Terms.Term.{Val, Or, And, Equal, Sum, Not, Post, Print, NewError, Import}
use Rattle.esm_expr_eval.specs.Terms.Terms.{more as further}
use Rattle.esm_expr_eval.specs.Terms.Compared.{compared}
use Rattle.esm_expr_eval.specs.Terms.LinkTerms.{member, call}
use Rattle.esm_rewriting.specs.Rest.{Use as Purpose}
use Rattle.esm_rewriting.specs.Rest.{Rest, end, more, whole, does_init, does_bindings, fill_part, fill_rest}
use Rattle.esm_rewriting.specs.Rest.{Part as parts}
use Rattle.esm_rewriting.specs.Rest.{Use as purposes}
use Rattle.esm_rewriting.specs.Contexts.{surrounded}
use Rattle.esm_row_laws.specs.Spots.{Left, Round, Own, Inner, First, Tried, Kont, Uses, Ors, Ands, Equals, Compares, Sums, Adds, Turns, Posts, Passes, Prints, Makes, Imports, rounds_of}
use Rattle.esm_row_laws.specs.Remaining.{left_rest, scope_by, contexts, under, call_under, print_under, plug, rest_of}
use Rattle.esm_row_laws.specs.Operations.{Values}

module _ (p : Term (Value ℕ)) where
  abbrev V : Type 0
  V = Value ℕ

  mutual
    pub fill_term : (e : ast.Expr) → fill p (term (values nat_eq) e) ≡ term (values nat_eq) e
    fill_term (ast.Text s) = refl
    fill_term (ast.Truth b) = refl
    fill_term ast.Undefined = refl
    fill_term (ast.Name x) = refl
    fill_term (ast.Group e) = fill_term e
    fill_term (ast.Or e es) = λ i. Or (fill_term e i) (fill_terms es i)
    fill_term (ast.And e es) = λ i. And (fill_term e i) (fill_terms es i)
    fill_term (ast.Equal e cs) = λ i. Equal (fill_term e i) (fill_cs cs i)
    fill_term (ast.Sum e es) = λ i. Sum (fill_term e i) (fill_terms es i)
    fill_term (ast.Not e) = ap Not (fill_term e)
    fill_term (ast.Post e ls) = λ i. Post (fill_term e i) (fill_ls ls i)
    fill_term (ast.Print es) = ap Print (fill_terms es)
    fill_term ast.EmptyError = refl
    fill_term (ast.NewError e) = ap NewError (fill_term e)
    fill_term (ast.Import e) = ap Import (fill_term e)
    fill_term ast.Url = refl

    pub fill_terms : (es : ast.Exprs) → fill_all p (terms (values nat_eq) es) ≡ terms (values nat_eq) es
    fill_terms ast.none = refl
    fill_terms (ast.more e es) = λ i. further (fill_term e i) (fill_terms es i)

    pub fill_cs : (cs : ast.Compared) → fill_compared p (compared_terms (values nat_eq) cs) ≡ compared_terms (values nat_eq) cs
    fill_cs ast.last = refl
    fill_cs (ast.compared b e cs) = λ i. compared b (fill_term e i) (fill_cs cs i)

    pub fill_ls : (ls : ast.Links) → fill_links p (links (values nat_eq) ls) ≡ links (values nat_eq) ls
    fill_ls ast.ends = refl
    fill_ls (ast.member x ls) = ap (λ ls. member x ls) (fill_ls ls)
    fill_ls (ast.call es ls) = λ i. call (fill_terms es i) (fill_ls ls i)

  -- ---- statements

  fill_whole : (ss : Stmts) → fill_rest p (whole {V = V} ss) ≡ whole ss
  fill_whole nothing = refl
  fill_whole (first s ss) = ap (λ r. more (parts.Whole s) r) (fill_whole ss)

  fill_init : (purpose : Purpose) (value : Init) → fill_part p (does_init (values nat_eq) purpose value) ≡ does_init (values nat_eq) purpose value
  fill_init purpose absent = refl
  fill_init purpose (plain e) = ap (λ t. parts.Does purpose t) (fill_term e)
  fill_init purpose (awaited e) = ap (λ t. parts.Does (purposes.Awaits purpose) t) (fill_term e)

  fill_bindings : (bs : Bindings) (ss : Stmts) → fill_rest p (does_bindings (values nat_eq) bs (whole ss)) ≡ does_bindings (values nat_eq) bs (whole ss)
  fill_bindings no_more ss = fill_whole ss
  fill_bindings (binding x value bs) ss = λ i. more (fill_init (purposes.Sets x) value i) (fill_bindings bs ss i)

  pub fill_left : (l : Left) → fill_rest p (left_rest (values nat_eq) l) ≡ left_rest (values nat_eq) l
  fill_left l = fill_bindings l.bindings l.stmts

  -- ---- what is round a part

  fill_called : (n : ℕ) (vs : List V) (es : Terms V) (ls : Links) (plugged : List V → Term V → Rest V) → ((us : List V) (e : Term V) → fill_rest p (plugged us e) ≡ plugged us (fill p e)) → fill_rest p (call_under (values nat_eq) plugged ls (under (values nat_eq) n vs es)) ≡ call_under (values nat_eq) plugged ls (under (values nat_eq) n vs (fill_all p es))
  fill_called zero [] es ls plugged h = refl
  fill_called zero (f ∷ vs) es ls plugged h = h vs (Post (Val f) (call es (links (values nat_eq) ls))) ∙ ap (λ q. plugged vs (Post (Val f) (call (fill_all p es) q))) (fill_ls ls)
  fill_called (suc n) [] es ls plugged h = refl
  fill_called (suc n) (v ∷ vs) es ls plugged h = fill_called n vs (further (Val v) es) ls plugged h

  fill_printed : (n : ℕ) (vs : List V) (es : Terms V) (plugged : List V → Term V → Rest V) → ((us : List V) (e : Term V) → fill_rest p (plugged us e) ≡ plugged us (fill p e)) → fill_rest p (print_under (values nat_eq) plugged (under (values nat_eq) n vs es)) ≡ print_under (values nat_eq) plugged (under (values nat_eq) n vs (fill_all p es))
  fill_printed zero vs es plugged h = h vs (Print es)
  fill_printed (suc n) [] es plugged h = refl
  fill_printed (suc n) (v ∷ vs) es plugged h = fill_printed n vs (further (Val v) es) plugged h

  abbrev put : Kont → List V → Term V → Rest V
  put k vs e = plug (values nat_eq) k vs e

  pub fill_plug : (k : Kont) (vs : List V) (e : Term V) → fill_rest p (put k vs e) ≡ put k vs (fill p e)
  fill_plug (Uses purpose l rs) vs e = ap (λ r. more (parts.Does purpose (fill p e)) r) (fill_left l)
  fill_plug (Ors es k) vs e = fill_plug k vs _ ∙ ap (λ q. put k vs (Or (fill p e) q)) (fill_terms es)
  fill_plug (Ands es k) vs e = fill_plug k vs _ ∙ ap (λ q. put k vs (And (fill p e) q)) (fill_terms es)
  fill_plug (Equals cs k) vs e = fill_plug k vs _ ∙ ap (λ q. put k vs (Equal (fill p e) q)) (fill_cs cs)
  fill_plug (Compares b cs k) [] e = refl
  fill_plug (Compares b cs k) (v ∷ vs) e = fill_plug k vs _ ∙ ap (λ q. put k vs (Equal (Val v) (compared b (fill p e) q))) (fill_cs cs)
  fill_plug (Sums es k) vs e = fill_plug k vs _ ∙ ap (λ q. put k vs (Sum (fill p e) q)) (fill_terms es)
  fill_plug (Adds es k) [] e = refl
  fill_plug (Adds es k) (v ∷ vs) e = fill_plug k vs _ ∙ ap (λ q. put k vs (Sum (Val v) (further (fill p e) q))) (fill_terms es)
  fill_plug (Turns k) vs e = fill_plug k vs _
  fill_plug (Posts ls k) vs e = fill_plug k vs _ ∙ ap (λ q. put k vs (Post (fill p e) q)) (fill_ls ls)
  fill_plug (Passes n es ls k) vs e =
      fill_called n vs (further e (terms (values nat_eq) es)) ls (plug (values nat_eq) k) (λ us t. fill_plug k us t) ∙ ap (λ q. call_under (values nat_eq) (plug (values nat_eq) k) ls (under (values nat_eq) n vs (further (fill p e) q))) (fill_terms es)
  fill_plug (Prints n es k) vs e =
      fill_printed n vs (further e (terms (values nat_eq) es)) (plug (values nat_eq) k) (λ us t. fill_plug k us t) ∙ ap (λ q. print_under (values nat_eq) (plug (values nat_eq) k) (under (values nat_eq) n vs (further (fill p e) q))) (fill_terms es)
  fill_plug (Makes k) vs e = fill_plug k vs _
  fill_plug (Imports k) vs e = fill_plug k vs _

  -- ---- blocks

  fill_round : (cs : List Round) (vss : Values) (r : Rest V) → fill_rest p (surrounded (contexts (values nat_eq) cs vss) r) ≡ surrounded (contexts (values nat_eq) cs vss) (fill_rest p r)
  fill_round [] vss r = refl
  fill_round (Own ds ∷ rs) [] r = fill_round rs [] _
  fill_round (Own ds ∷ rs) (vs ∷ vss) r = fill_round rs vss _
  fill_round (Inner ds l ∷ rs) [] r = fill_round rs [] _ ∙ ap (λ q. surrounded (contexts (values nat_eq) rs []) (more (parts.In (scope_by (values nat_eq) ds []) (fill_rest p r)) q)) (fill_left l)
  fill_round (Inner ds l ∷ rs) (vs ∷ vss) r = fill_round rs vss _ ∙ ap (λ q. surrounded (contexts (values nat_eq) rs vss) (more (parts.In (scope_by (values nat_eq) ds vs) (fill_rest p r)) q)) (fill_left l)
  fill_round (First ds others l ∷ rs) [] r = fill_round rs [] _ ∙ ap (λ q. surrounded (contexts (values nat_eq) rs []) (more (parts.In (scope_by (values nat_eq) ds []) (fill_rest p r)) q)) (fill_left l)
  fill_round (First ds others l ∷ rs) (vs ∷ vss) r = fill_round rs vss _ ∙ ap (λ q. surrounded (contexts (values nat_eq) rs vss) (more (parts.In (scope_by (values nat_eq) ds vs) (fill_rest p r)) q)) (fill_left l)
  fill_round (Tried ds caught handler l ∷ rs) [] r = fill_round rs [] _ ∙ ap (λ q. surrounded (contexts (values nat_eq) rs []) (more (parts.Tries (more (parts.In (scope_by (values nat_eq) ds []) (fill_rest p r)) end) caught handler) q)) (fill_left l)
  fill_round (Tried ds caught handler l ∷ rs) (vs ∷ vss) r = fill_round rs vss _ ∙ ap (λ q. surrounded (contexts (values nat_eq) rs vss) (more (parts.Tries (more (parts.In (scope_by (values nat_eq) ds vs) (fill_rest p r)) end) caught handler) q)) (fill_left l)

  pub fill_of : (k : Kont) (vss : Values) (vs : List V) (e : Term V) → fill_rest p (rest_of (values nat_eq) k vss vs e) ≡ rest_of (values nat_eq) k vss vs (fill p e)
  fill_of k vss vs e = fill_round (rounds_of k) vss (put k vs e) ∙ ap (surrounded (contexts (values nat_eq) (rounds_of k) vss)) (fill_plug k vs e)
