-- What is known stays known in what remains; an end stands for what was under way; sizes.
use Rattle.std.proofs.Common.{◌≡◌, ℕ, suc, ◌+◌, ◌≤◌, Bool, true, false, List, [], ◌∷◌, Option, Some, None, map, refl, ap, sym, ◌∙◌, arith}
use Rattle.std.specs.Prelude.{⊤}
use Rattle.std.proofs.lemmas.Bool.{or_parts}
use Rattle.esm_tree.specs.Syntax as ast
use Rattle.esm_tree.specs.Syntax.{Init, absent, plain, awaited, Bindings, no_more, binding, Stmts, nothing, first}
use Rattle.esm_tree.specs.Syntax.{Stmt as Statement}
use Rattle.esm_tree.specs.Syntax.{Stmt as stmts}
use Rattle.esm_ast.specs.Entries.{init_awaits, bindings_await, stmt_awaits, stmts_await}
use Rattle.esm_ast.specs.ModuleTree.{stmt_returns, stmts_return}
use Rattle.esm_values.specs.Operators.{Values}
use Rattle.esm_base.specs.DefaultExport.{star_default}
use Rattle.esm_env.specs.Declarations.{Declaration, declared_in}
use Rattle.esm_expr_eval.specs.Terms.{Term, Terms, Compared, LinkTerms, term, terms, compared_terms, links, fill, fill_all, fill_compared, fill_links}
use Rattle.esm_expr_eval.specs.Terms.Term.{Val, Waits, Fails, Name, Or, And, Equal, Sum, Not, Post, Print, NewError, Import, OwnUrl}
use Rattle.esm_expr_eval.specs.Terms as t
use Rattle.esm_expr_eval.specs.Ready.{Holds, HoldAll, HoldCompared, HoldLinks}
use Rattle.esm_expr_eval.proofs.HasRewriting as expr
use Rattle.esm_expr_eval.specs.Sizes.{size, size_all, size_compared, size_links}
use Rattle.esm_rewriting.specs.Scopes.{Scope, unset, scope_of}
use Rattle.esm_rewriting.specs.Rest.{Use, Part, Rest, stmt_count, end, more, whole, does_init, does_bindings, block, begin, branch, fill_part, fill_rest}
use Rattle.esm_rewriting.specs.Rest.Use.{Drops, Sets, Writes, Throws, Returns, Prints, Chooses, Awaits}
use Rattle.esm_rewriting.specs.Rest.Part.{Whole, Does, Stands, In, Tries}
use Rattle.esm_rewriting.specs.Fits.{Kind, FitsStmt, FitsStmts, FitsUse, HoldsValue, HoldsScope, HoldScopes, HoldsPart, HoldsRest}

-- ---- what is known stays known

module _ {V : Type 0} (P Q : V → Type 0) (k : (v : V) → P v → Q v) where
  held_value : (o : Option V) → HoldsValue P o → HoldsValue Q o
  held_value None h = tt
  held_value (Some v) h = k v h

  pub held_scope : (s : Scope V) → HoldsScope P s → HoldsScope Q s
  held_scope [] h = tt
  held_scope (s ∷ ss) h = (held_value s.cell.value h.0, held_scope ss h.1)

  pub held_scopes : (ss : List (Scope V)) → HoldScopes P ss → HoldScopes Q ss
  held_scopes [] h = tt
  held_scopes (s ∷ ss) h = (held_scope s h.0, held_scopes ss h.1)

  module _ (gap : Type 0) (kind : Kind) where
    mutual
      pub held_part : (p : Part V) → HoldsPart P gap kind p → HoldsPart Q gap kind p
      held_part (Whole s) h = h
      held_part (Does u e) h = (h.0, expr.held P Q k gap e h.1)
      held_part (Stands u) h = h
      held_part (In scope rest) h = (held_scope scope h.0, held_rest rest h.1)
      held_part (Tries rest x handler) h = (held_rest rest h.0, h.1)

      pub held_rest : (r : Rest V) → HoldsRest P gap kind r → HoldsRest Q gap kind r
      held_rest end h = tt
      held_rest (more p rest) h = (held_part p h.0, held_rest rest h.1)

module _ {V : Type 0} (P : V → Type 0) (gap : Type 0) (kind : Kind) where
  mutual
    pub opened_part : (p : Part V) → HoldsPart P ⊥ kind p → HoldsPart P gap kind p
    opened_part (Whole s) h = h
    opened_part (Does u e) h = (h.0, expr.opened P gap e h.1)
    opened_part (Stands u) h = absurd h.1
    opened_part (In scope rest) h = (h.0, opened_rest rest h.1)
    opened_part (Tries rest x handler) h = (opened_rest rest h.0, h.1)

    pub opened_rest : (r : Rest V) → HoldsRest P ⊥ kind r → HoldsRest P gap kind r
    opened_rest end h = tt
    opened_rest (more p rest) h = (opened_part p h.0, opened_rest rest h.1)

-- ---- an end stands for what was under way

module _ {V : Type 0} (P : V → Type 0) (given : Term V) (g : Holds P ⊥ given) where
  mutual
    filled : (e : Term V) → Holds P ⊤ e → Holds P ⊥ (fill given e)
    filled (Val v) h = h
    filled Waits h = g
    filled (Fails v) h = h
    filled (Name x) h = tt
    filled (Or e es) h = (filled e h.0, filled_all es h.1)
    filled (And e es) h = (filled e h.0, filled_all es h.1)
    filled (Equal e cs) h = (filled e h.0, filled_compared cs h.1)
    filled (Sum e es) h = (filled e h.0, filled_all es h.1)
    filled (Not e) h = filled e h
    filled (Post e ls) h = (filled e h.0, filled_links ls h.1)
    filled (Print es) h = filled_all es h
    filled (NewError e) h = filled e h
    filled (Import e) h = filled e h
    filled OwnUrl h = tt

    filled_all : (es : Terms V) → HoldAll P ⊤ es → HoldAll P ⊥ (fill_all given es)
    filled_all t.none h = tt
    filled_all (t.more e es) h = (filled e h.0, filled_all es h.1)

    filled_compared : (cs : Compared V) → HoldCompared P ⊤ cs → HoldCompared P ⊥ (fill_compared given cs)
    filled_compared t.last h = tt
    filled_compared (t.compared b e cs) h = (filled e h.0, filled_compared cs h.1)

    filled_links : (ls : LinkTerms V) → HoldLinks P ⊤ ls → HoldLinks P ⊥ (fill_links given ls)
    filled_links t.ends h = tt
    filled_links (t.member x ls) h = filled_links ls h
    filled_links (t.call es ls) h = (filled_all es h.0, filled_links ls h.1)

  module _ (kind : Kind) where
    mutual
      filled_part : (p : Part V) → HoldsPart P ⊤ kind p → HoldsPart P ⊥ kind (fill_part given p)
      filled_part (Whole s) h = h
      filled_part (Does u e) h = (h.0, filled e h.1)
      filled_part (Stands u) h = (h.0, g)
      filled_part (In scope rest) h = (h.0, filled_rest rest h.1)
      filled_part (Tries rest x handler) h = (filled_rest rest h.0, h.1)

      pub filled_rest : (r : Rest V) → HoldsRest P ⊤ kind r → HoldsRest P ⊥ kind (fill_rest given r)
      filled_rest end h = tt
      filled_rest (more p rest) h = (filled_part p h.0, filled_rest rest h.1)

-- ---- sizes

abbrev pub size_use : Use → ℕ
size_use Drops = 0
size_use (Sets x) = 0
size_use (Writes x) = 0
size_use Throws = 0
size_use Returns = 0
size_use Prints = 0
size_use (Chooses ss others) = suc (stmt_count ss + stmt_count others)
size_use (Awaits purpose) = 0

abbrev mutual
  pub size_part : {V : Type 0} → Part V → ℕ
  size_part (Whole s) = 1
  size_part (Does u e) = size_use u + size e
  size_part (Stands u) = size_use u + 1
  size_part (In scope rest) = suc (size_rest rest)
  size_part (Tries rest x handler) = suc (suc (size_rest rest + stmt_count handler))

  pub size_rest : {V : Type 0} → Rest V → ℕ
  size_rest end = 0
  size_rest (more p rest) = size_part p + size_rest rest

pub size_positive : {V : Type 0} (e : Term V) → 1 ≤ size e
size_positive (Val v) = omega arith
size_positive Waits = omega arith
size_positive (Fails v) = omega arith
size_positive (Name x) = omega arith
size_positive (Or e es) = omega arith
size_positive (And e es) = omega arith
size_positive (Equal e cs) = omega arith
size_positive (Sum e es) = omega arith
size_positive (Not e) = omega arith
size_positive (Post e ls) = omega arith
size_positive (Print es) = omega arith
size_positive (NewError e) = omega arith
size_positive (Import e) = omega arith
size_positive OwnUrl = omega arith

pub size_whole : (V : Type 0) (ss : Stmts) → size_rest {V = V} (whole ss) ≡ stmt_count ss
size_whole V nothing = refl
size_whole V (first s ss) = let r = size_whole V ss in omega (arith, r)

module _ {V : Type 0} (given : Term V) (one : size given ≡ 1) where
  mutual
    same_size : (e : Term V) → size (fill given e) ≡ size e
    same_size (Val v) = refl
    same_size Waits = one
    same_size (Fails v) = refl
    same_size (Name x) = refl
    same_size (Or e es) = λ i. suc (same_size e i + same_all es i)
    same_size (And e es) = λ i. suc (same_size e i + same_all es i)
    same_size (Equal e cs) = λ i. suc (same_size e i + same_compared cs i)
    same_size (Sum e es) = λ i. suc (same_size e i + same_all es i)
    same_size (Not e) = ap suc (same_size e)
    same_size (Post e ls) = λ i. suc (same_size e i + same_links ls i)
    same_size (Print es) = λ i. suc (suc (same_all es i))
    same_size (NewError e) = ap suc (same_size e)
    same_size (Import e) = ap suc (same_size e)
    same_size OwnUrl = refl

    same_all : (es : Terms V) → size_all (fill_all given es) ≡ size_all es
    same_all t.none = refl
    same_all (t.more e es) = λ i. suc (same_size e i + same_all es i)

    same_compared : (cs : Compared V) → size_compared (fill_compared given cs) ≡ size_compared cs
    same_compared t.last = refl
    same_compared (t.compared b e cs) = λ i. suc (same_size e i + same_compared cs i)

    same_links : (ls : LinkTerms V) → size_links (fill_links given ls) ≡ size_links ls
    same_links t.ends = refl
    same_links (t.member x ls) = ap suc (same_links ls)
    same_links (t.call es ls) = λ i. suc (same_all es i + same_links ls i)

  mutual
    same_part : (p : Part V) → size_part (fill_part given p) ≡ size_part p
    same_part (Whole s) = refl
    same_part (Does u e) = λ i. size_use u + same_size e i
    same_part (Stands u) = λ i. size_use u + one i
    same_part (In scope rest) = ap suc (same_rest rest)
    same_part (Tries rest x handler) = λ i. suc (suc (same_rest rest i + stmt_count handler))

    pub same_rest : (r : Rest V) → size_rest (fill_rest given r) ≡ size_rest r
    same_rest end = refl
    same_rest (more p rest) = λ i. same_part p i + same_rest rest i

-- ---- what begins

module _ {V : Type 0} (P : V → Type 0) (values : Values V) (u : P values.undefined) (b : (b : Bool) → P (values.truth b)) (s : (s : List ℕ) → P (values.text s)) where
  mutual
    pub new_term : (e : ast.Expr) → Holds P ⊥ (term values e)
    new_term (ast.Text t) = s t
    new_term (ast.Truth t) = b t
    new_term ast.Undefined = u
    new_term (ast.Name x) = tt
    new_term (ast.Group e) = new_term e
    new_term (ast.Or e es) = (new_term e, new_terms es)
    new_term (ast.And e es) = (new_term e, new_terms es)
    new_term (ast.Equal e cs) = (new_term e, new_compared cs)
    new_term (ast.Sum e es) = (new_term e, new_terms es)
    new_term (ast.Not e) = new_term e
    new_term (ast.Post e ls) = (new_term e, new_links ls)
    new_term (ast.Print es) = new_terms es
    new_term ast.EmptyError = u
    new_term (ast.NewError e) = new_term e
    new_term (ast.Import e) = new_term e
    new_term ast.Url = tt

    new_terms : (es : ast.Exprs) → HoldAll P ⊥ (terms values es)
    new_terms ast.none = tt
    new_terms (ast.more e es) = (new_term e, new_terms es)

    new_compared : (cs : ast.Compared) → HoldCompared P ⊥ (compared_terms values cs)
    new_compared ast.last = tt
    new_compared (ast.compared b e cs) = (new_term e, new_compared cs)

    new_links : (ls : ast.Links) → HoldLinks P ⊥ (links values ls)
    new_links ast.ends = tt
    new_links (ast.member x ls) = new_links ls
    new_links (ast.call es ls) = (new_terms es, new_links ls)

  module _ (k : Kind) where
    pub new_whole : (ss : Stmts) → FitsStmts k ss → HoldsRest P ⊥ k (whole ss)
    unfolding stmts_return stmts_await
    new_whole nothing h = tt
    new_whole (first s ss) h = (
      record { returns = λ e. (or_parts _ _ (h.returns e)).0; awaits = λ e. (or_parts _ _ (h.awaits e)).0 },
      new_whole ss (record { returns = λ e. (or_parts _ _ (h.returns e)).1; awaits = λ e. (or_parts _ _ (h.awaits e)).1 }),
    )

    new_scope : (ds : List Declaration) → HoldsScope P (map unset ds)
    new_scope [] = tt
    new_scope (d ∷ ds) = (tt, new_scope ds)

    pub new_scope_of : (ss : Stmts) → HoldsScope P (scope_of ss)
    new_scope_of ss = new_scope (declared_in ss)

    pub new_block : (ss : Stmts) → FitsStmts k ss → HoldsPart P ⊥ k (block values ss)
    new_block ss h = (new_scope_of ss, new_whole ss h)

    pub new_branch : (c : Bool) (ss others : Stmts) → FitsStmts k ss → FitsStmts k others → HoldsPart P ⊥ k (branch values c ss others)
    new_branch true ss others h g = new_block ss h
    new_branch false ss others h g = new_block others g

    -- where an await may stand, or none does
    may : (c : Bool) → (k.awaits ≡ false → c ≡ false) → c ≡ true → k.awaits ≡ true
    may c h e = by k.awaits (λ f. h f)
      where
        by : (a : Bool) → (a ≡ false → c ≡ false) → a ≡ true
        by true f = refl
        by false f = absurd (let g : c ≡ false = f refl in let x : true ≡ false = sym e ∙ g in cc)

    new_init : (u : Use) (i : Init) → FitsUse k u → (k.awaits ≡ false → init_awaits i ≡ false) → HoldsPart P ⊥ k (does_init values u i)
    unfolding init_awaits
    new_init purpose absent f h = (f, u)
    new_init purpose (plain e) f h = (f, new_term e)
    new_init purpose (awaited e) f h = ((may true h refl, f), new_term e)

    new_bindings : (bs : Bindings) (rest : Rest V) → (k.awaits ≡ false → bindings_await bs ≡ false) → HoldsRest P ⊥ k rest → HoldsRest P ⊥ k (does_bindings values bs rest)
    unfolding bindings_await
    new_bindings no_more rest h r = r
    new_bindings (binding x i bs) rest h r = (new_init (Sets x) i tt (λ e. (or_parts _ _ (h e)).0), new_bindings bs rest (λ e. (or_parts _ _ (h e)).1) r)

    may_return : (c : Bool) → (k.returns ≡ false → c ≡ false) → c ≡ true → k.returns ≡ true
    may_return c h e = by k.returns (λ f. h f)
      where
        by : (a : Bool) → (a ≡ false → c ≡ false) → a ≡ true
        by true f = refl
        by false f = absurd (let g : c ≡ false = f refl in let x : true ≡ false = sym e ∙ g in cc)

    pub new_begin : (st : Statement) (rest : Rest V) → FitsStmt k st → HoldsRest P ⊥ k rest → HoldsRest P ⊥ k (begin values st rest)
    unfolding stmt_returns stmt_awaits
    new_begin stmts.Empty rest h r = r
    new_begin (stmts.Block ss) rest h r = (new_block ss (record { returns = h.returns; awaits = h.awaits }), r)
    new_begin (stmts.Const bs) rest h r = new_bindings bs rest h.awaits r
    new_begin (stmts.Let bs) rest h r = new_bindings bs rest h.awaits r
    new_begin (stmts.Default i) rest h r = (new_init (Sets star_default) i tt h.awaits, r)
    new_begin (stmts.Assign x i) rest h r = (new_init (Writes x) i tt h.awaits, r)
    new_begin (stmts.If e ss) rest h r = (((record { returns = h.returns; awaits = h.awaits }, record { returns = λ e. refl; awaits = λ e. refl }), new_term e), r)
    new_begin (stmts.IfElse e ss others) rest h r = (
      (
        (
          record { returns = λ e. (or_parts _ _ (h.returns e)).0; awaits = λ e. (or_parts _ _ (h.awaits e)).0 },
          record { returns = λ e. (or_parts _ _ (h.returns e)).1; awaits = λ e. (or_parts _ _ (h.awaits e)).1 },
        ),
        new_term e,
      ),
      r,
    )
    new_begin (stmts.Try ss handler) rest h r = (
      (
        (new_block ss (record { returns = λ e. (or_parts _ _ (h.returns e)).0; awaits = λ e. (or_parts _ _ (h.awaits e)).0 }), tt),
        record { returns = λ e. (or_parts _ _ (h.returns e)).1; awaits = λ e. (or_parts _ _ (h.awaits e)).1 },
      ),
      r,
    )
    new_begin (stmts.TryCatch ss x handler) rest h r = (
      (
        (new_block ss (record { returns = λ e. (or_parts _ _ (h.returns e)).0; awaits = λ e. (or_parts _ _ (h.awaits e)).0 }), tt),
        record { returns = λ e. (or_parts _ _ (h.returns e)).1; awaits = λ e. (or_parts _ _ (h.awaits e)).1 },
      ),
      r,
    )
    new_begin (stmts.Throw e) rest h r = ((tt, new_term e), r)
    new_begin stmts.Return rest h r = ((may_return true h.returns refl, u), r)
    new_begin (stmts.ReturnValue e) rest h r = ((may_return true h.returns refl, new_term e), r)
    new_begin (stmts.Await e) rest h r = (((may true h.awaits refl, tt), new_term e), r)
    new_begin (stmts.PrintAwait e) rest h r = (((may true h.awaits refl, tt), new_term e), r)
    new_begin (stmts.Expression e) rest h r = ((tt, new_term e), r)
