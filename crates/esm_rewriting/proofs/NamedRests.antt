-- What remains of a body, and scopes, follow where values stand for others.
use Rattle.std.proofs.Common.{◌≡◌, ℕ, Bool, true, false, List, [], ◌∷◌, ◌++◌, map, Option, Some, None, refl, ap, sym, ◌∙◌}
use Rattle.std.specs.Option.{option_or, option_map}
use Rattle.std.specs.Str.{bytes_eq}
use Rattle.std.proofs.lemmas.List.{map-append}
use Rattle.esm_tree.specs.Syntax as ast
use Rattle.esm_tree.specs.Syntax.{Init, absent, plain, awaited, Bindings, no_more, binding, Stmts, nothing, first}
use Rattle.esm_tree.specs.Syntax.{Stmt as Statement}
use Rattle.esm_tree.specs.Syntax.{Stmt as stmts}
use Rattle.esm_values.specs.Operators.{Values}
use Rattle.esm_values.specs.Naming.{LooksAlike}
use Rattle.esm_expr_eval.specs.Terms.{Term, Terms, Compared, LinkTerms, term, terms, compared_terms, links, fill, fill_all, fill_compared, fill_links}
use Rattle.esm_expr_eval.specs.Terms.{Term as t}
use Rattle.esm_expr_eval.specs.Terms.{Terms as ts}
use Rattle.esm_expr_eval.specs.Terms.{Compared as cs}
use Rattle.esm_expr_eval.specs.Terms.{LinkTerms as ls}
use Rattle.esm_expr_eval.specs.Naming.{mapped_term, mapped_terms, mapped_compared, mapped_links}
use Rattle.esm_env.specs.Declarations.{FunctionCode, declared_in, Declaration}
use Rattle.esm_env.specs.Cells.{Cell}
use Rattle.esm_rewriting.specs.Scopes.{Scope, NamedCell, named_cell, unset, scope_of, parameters, call_scope, caught_name, handler_scope, cell_by, in_scope, in_scopes, set_by, set_in, set_where, set_in_scopes}
use Rattle.esm_rewriting.specs.Rest.{Use, Part, Rest, end, more, whole, does_init, does_bindings, block, begin, branch, fill_part, fill_rest}
use Rattle.esm_rewriting.specs.Rest.{Part as part}
use Rattle.esm_rewriting.specs.Rest.{Use as use_of}
use Rattle.esm_rewriting.specs.Naming.{mapped_named, mapped_scope, mapped_part, mapped_rest}

map_twice : {A B C : Type 0} (f : A → B) (g : B → C) (xs : List A) → map g (map f xs) ≡ map (λ x. g (f x)) xs
map_twice f g [] = refl
map_twice f g (x ∷ xs) = ap (λ ys. g (f x) ∷ ys) (map_twice f g xs)

module _ {V U : Type 0} (f : V → U) where
  abbrev pub of_cell : Cell V → Cell U
  of_cell c = record { constant = c.constant; value = option_map f c.value }

  -- ---- what stands for a call or an await

  module _ (given : Term V) where
    mutual
      pub fill_term : (e : Term V) → mapped_term f (fill given e) ≡ fill (mapped_term f given) (mapped_term f e)
      fill_term (t.Val v) = refl
      fill_term t.Waits = refl
      fill_term (t.Fails v) = refl
      fill_term (t.Name x) = refl
      fill_term (t.Or e es) = λ i. t.Or (fill_term e i) (fill_terms es i)
      fill_term (t.And e es) = λ i. t.And (fill_term e i) (fill_terms es i)
      fill_term (t.Equal e c) = λ i. t.Equal (fill_term e i) (fill_pairs c i)
      fill_term (t.Sum e es) = λ i. t.Sum (fill_term e i) (fill_terms es i)
      fill_term (t.Not e) = ap t.Not (fill_term e)
      fill_term (t.Post e l) = λ i. t.Post (fill_term e i) (fill_link l i)
      fill_term (t.Print es) = ap t.Print (fill_terms es)
      fill_term (t.NewError e) = ap t.NewError (fill_term e)
      fill_term (t.Import e) = ap t.Import (fill_term e)
      fill_term t.OwnUrl = refl

      fill_terms : (es : Terms V) → mapped_terms f (fill_all given es) ≡ fill_all (mapped_term f given) (mapped_terms f es)
      fill_terms ts.none = refl
      fill_terms (ts.more e es) = λ i. ts.more (fill_term e i) (fill_terms es i)

      fill_pairs : (c : Compared V) → mapped_compared f (fill_compared given c) ≡ fill_compared (mapped_term f given) (mapped_compared f c)
      fill_pairs cs.last = refl
      fill_pairs (cs.compared alike e c) = λ i. cs.compared alike (fill_term e i) (fill_pairs c i)

      fill_link : (l : LinkTerms V) → mapped_links f (fill_links given l) ≡ fill_links (mapped_term f given) (mapped_links f l)
      fill_link ls.ends = refl
      fill_link (ls.member x l) = ap (ls.member x) (fill_link l)
      fill_link (ls.call es l) = λ i. ls.call (fill_terms es i) (fill_link l i)

    mutual
      fill_in : (p : Part V) → mapped_part f (fill_part given p) ≡ fill_part (mapped_term f given) (mapped_part f p)
      fill_in (part.Whole s) = refl
      fill_in (part.Does u e) = ap (part.Does u) (fill_term e)
      fill_in (part.Stands u) = refl
      fill_in (part.In scope r) = ap (part.In (mapped_scope f scope)) (fill_follows r)
      fill_in (part.Tries r x handler) = ap (λ r. part.Tries r x handler) (fill_follows r)

      pub fill_follows : (r : Rest V) → mapped_rest f (fill_rest given r) ≡ fill_rest (mapped_term f given) (mapped_rest f r)
      fill_follows end = refl
      fill_follows (more p r) = λ i. more (fill_in p i) (fill_follows r i)

  pub whole_follows : (ss : Stmts) → mapped_rest f (whole ss) ≡ whole ss
  whole_follows nothing = refl
  whole_follows (first s ss) = ap (more (part.Whole s)) (whole_follows ss)

  -- ---- scopes

  unset_follows : (ds : List Declaration) → map (mapped_named f) (map unset ds) ≡ map unset ds
  unset_follows [] = refl
  unset_follows (d ∷ ds) = ap (λ xs. unset d ∷ xs) (unset_follows ds)

  pub scope_follows : (ss : Stmts) → mapped_scope f (scope_of ss) ≡ scope_of ss
  scope_follows ss = unset_follows (declared_in ss)

  parameters_follow : (u : V) (xs : List (List ℕ)) (vs : List V) → mapped_scope f (parameters u xs vs) ≡ parameters (f u) xs (map f vs)
  parameters_follow u [] vs = refl
  parameters_follow u (x ∷ xs) [] = ap (λ s. named_cell x false (Some (f u)) ∷ s) (parameters_follow u xs [])
  parameters_follow u (x ∷ xs) (v ∷ vs) = ap (λ s. named_cell x false (Some (f v)) ∷ s) (parameters_follow u xs vs)

  pub call_scope_follows : (u : V) (c : FunctionCode) (vs : List V) → mapped_scope f (call_scope u c vs) ≡ call_scope (f u) c (map f vs)
  call_scope_follows u c vs = map-append (mapped_named f) (parameters u c.parameters vs) (scope_of c.body) ∙ (λ i. parameters_follow u c.parameters vs i ++ scope_follows c.body i)

  caught_follows : (x : Option (List ℕ)) (v : V) → mapped_scope f (caught_name x v) ≡ caught_name x (f v)
  caught_follows None v = refl
  caught_follows (Some x) v = refl

  pub handler_follows : (x : Option (List ℕ)) (v : V) (handler : Stmts) → mapped_scope f (handler_scope x v handler) ≡ handler_scope x (f v) handler
  handler_follows x v handler = map-append (mapped_named f) (caught_name x v) (scope_of handler) ∙ (λ i. caught_follows x v i ++ scope_follows handler i)

  in_by : (b : Bool) (c : Cell V) (o : Option (Cell V)) → cell_by b (of_cell c) (option_map of_cell o) ≡ option_map of_cell (cell_by b c o)
  in_by true c o = refl
  in_by false c o = refl

  in_follows : (s : Scope V) (x : List ℕ) → in_scope (mapped_scope f s) x ≡ option_map of_cell (in_scope s x)
  in_follows [] x = refl
  in_follows (c ∷ s) x = ap (cell_by (bytes_eq c.name x) (of_cell c.cell)) (in_follows s x) ∙ in_by (bytes_eq c.name x) c.cell (in_scope s x)

  either : (a b : Option (Cell V)) → option_or (option_map of_cell a) (option_map of_cell b) ≡ option_map of_cell (option_or a b)
  either None b = refl
  either (Some a) b = refl

  pub in_scopes_follow : (ss : List (Scope V)) (x : List ℕ) → in_scopes (map (mapped_scope f) ss) x ≡ option_map of_cell (in_scopes ss x)
  in_scopes_follow [] x = refl
  in_scopes_follow (s ∷ ss) x = (λ i. option_or (in_follows s x i) (in_scopes_follow ss x i)) ∙ either (in_scope s x) (in_scopes ss x)

  set_by_follows : (b : Bool) (c : NamedCell V) (v : V) (s later : Scope V) → set_by b (mapped_named f c) (f v) (mapped_scope f s) (mapped_scope f later) ≡ mapped_scope f (set_by b c v s later)
  set_by_follows true c v s later = refl
  set_by_follows false c v s later = refl

  pub set_follows : (s : Scope V) (x : List ℕ) (v : V) → set_in (mapped_scope f s) x (f v) ≡ mapped_scope f (set_in s x v)
  set_follows [] x v = refl
  set_follows (c ∷ s) x v = ap (set_by (bytes_eq c.name x) (mapped_named f c) (f v) (mapped_scope f s)) (set_follows s x v) ∙ set_by_follows (bytes_eq c.name x) c v s (set_in s x v)

  set_where_follows : (o : Option (Cell V)) (s : Scope V) (ss : List (Scope V)) (x : List ℕ) (v : V) (later : List (Scope V))
      → set_where (option_map of_cell o) (mapped_scope f s) (map (mapped_scope f) ss) x (f v) (map (mapped_scope f) later) ≡ map (mapped_scope f) (set_where o s ss x v later)
  set_where_follows None s ss x v later = refl
  set_where_follows (Some c) s ss x v later = ap (λ s. s ∷ map (mapped_scope f) ss) (set_follows s x v)

  pub set_scopes_follow : (ss : List (Scope V)) (x : List ℕ) (v : V) → set_in_scopes (map (mapped_scope f) ss) x (f v) ≡ map (mapped_scope f) (set_in_scopes ss x v)
  set_scopes_follow [] x v = refl
  set_scopes_follow (s ∷ ss) x v =
      (λ i. set_where (in_follows s x i) (mapped_scope f s) (map (mapped_scope f) ss) x (f v) (set_scopes_follow ss x v i))
      ∙ set_where_follows (in_scope s x) s ss x v (set_in_scopes ss x v)

  -- ---- statements

  module _ (values : Values V) (others : Values U) (l : LooksAlike f values others) where
    mutual
      pub term_follows : (e : ast.Expr) → mapped_term f (term values e) ≡ term others e
      term_follows (ast.Text s) = ap t.Val (sym (l.text s))
      term_follows (ast.Truth b) = ap t.Val (sym (l.truth b))
      term_follows ast.Undefined = ap t.Val (sym l.undefined)
      term_follows (ast.Name x) = refl
      term_follows (ast.Group e) = term_follows e
      term_follows (ast.Or e es) = λ i. t.Or (term_follows e i) (terms_follow es i)
      term_follows (ast.And e es) = λ i. t.And (term_follows e i) (terms_follow es i)
      term_follows (ast.Equal e c) = λ i. t.Equal (term_follows e i) (pairs_follow c i)
      term_follows (ast.Sum e es) = λ i. t.Sum (term_follows e i) (terms_follow es i)
      term_follows (ast.Not e) = ap t.Not (term_follows e)
      term_follows (ast.Post e ls) = λ i. t.Post (term_follows e i) (links_follow ls i)
      term_follows (ast.Print es) = ap t.Print (terms_follow es)
      term_follows ast.EmptyError = ap (λ v. t.NewError (t.Val v)) (sym l.undefined)
      term_follows (ast.NewError e) = ap t.NewError (term_follows e)
      term_follows (ast.Import e) = ap t.Import (term_follows e)
      term_follows ast.Url = refl

      terms_follow : (es : ast.Exprs) → mapped_terms f (terms values es) ≡ terms others es
      terms_follow ast.none = refl
      terms_follow (ast.more e es) = λ i. ts.more (term_follows e i) (terms_follow es i)

      pairs_follow : (c : ast.Compared) → mapped_compared f (compared_terms values c) ≡ compared_terms others c
      pairs_follow ast.last = refl
      pairs_follow (ast.compared alike e c) = λ i. cs.compared alike (term_follows e i) (pairs_follow c i)

      links_follow : (k : ast.Links) → mapped_links f (links values k) ≡ links others k
      links_follow ast.ends = refl
      links_follow (ast.member x k) = ap (ls.member x) (links_follow k)
      links_follow (ast.call es k) = λ i. ls.call (terms_follow es i) (links_follow k i)

    init_follows : (u : Use) (init : Init) → mapped_part f (does_init values u init) ≡ does_init others u init
    init_follows u absent = ap (λ v. part.Does u (t.Val v)) (sym l.undefined)
    init_follows u (plain e) = ap (part.Does u) (term_follows e)
    init_follows u (awaited e) = ap (part.Does (use_of.Awaits u)) (term_follows e)

    bindings_follow : (bs : Bindings) (r : Rest V) → mapped_rest f (does_bindings values bs r) ≡ does_bindings others bs (mapped_rest f r)
    bindings_follow no_more r = refl
    bindings_follow (binding x value bs) r = λ i. more (init_follows (use_of.Sets x) value i) (bindings_follow bs r i)

    pub block_follows : (ss : Stmts) → mapped_part f (block values ss) ≡ block others ss
    block_follows ss = λ i. part.In (scope_follows ss i) (whole_follows ss i)

    pub branch_follows : (b : Bool) (ss rs : Stmts) → mapped_part f (branch values b ss rs) ≡ branch others b ss rs
    branch_follows true ss rs = block_follows ss
    branch_follows false ss rs = block_follows rs

    pub begin_follows : (s : Statement) (r : Rest V) → mapped_rest f (begin values s r) ≡ begin others s (mapped_rest f r)
    begin_follows stmts.Empty r = refl
    begin_follows (stmts.Block ss) r = ap (λ p. more p (mapped_rest f r)) (block_follows ss)
    begin_follows (stmts.Const bs) r = bindings_follow bs r
    begin_follows (stmts.Let bs) r = bindings_follow bs r
    begin_follows (stmts.Default value) r = ap (λ p. more p (mapped_rest f r)) (init_follows (use_of.Sets _) value)
    begin_follows (stmts.Assign x init) r = ap (λ p. more p (mapped_rest f r)) (init_follows (use_of.Writes x) init)
    begin_follows (stmts.If e ss) r = ap (λ e. more (part.Does (use_of.Chooses ss nothing) e) (mapped_rest f r)) (term_follows e)
    begin_follows (stmts.IfElse e ss rs) r = ap (λ e. more (part.Does (use_of.Chooses ss rs) e) (mapped_rest f r)) (term_follows e)
    begin_follows (stmts.Try ss handler) r = ap (λ p. more (part.Tries (more p end) None handler) (mapped_rest f r)) (block_follows ss)
    begin_follows (stmts.TryCatch ss x handler) r = ap (λ p. more (part.Tries (more p end) (Some x) handler) (mapped_rest f r)) (block_follows ss)
    begin_follows (stmts.Throw e) r = ap (λ e. more (part.Does use_of.Throws e) (mapped_rest f r)) (term_follows e)
    begin_follows stmts.Return r = ap (λ v. more (part.Does use_of.Returns (t.Val v)) (mapped_rest f r)) (sym l.undefined)
    begin_follows (stmts.ReturnValue e) r = ap (λ e. more (part.Does use_of.Returns e) (mapped_rest f r)) (term_follows e)
    begin_follows (stmts.Await e) r = ap (λ e. more (part.Does (use_of.Awaits use_of.Drops) e) (mapped_rest f r)) (term_follows e)
    begin_follows (stmts.PrintAwait e) r = ap (λ e. more (part.Does (use_of.Awaits use_of.Prints) e) (mapped_rest f r)) (term_follows e)
    begin_follows (stmts.Expression e) r = ap (λ e. more (part.Does use_of.Drops e) (mapped_rest f r)) (term_follows e)
