-- What remains of a body, and holds no import().
use Rattle.std.proofs.Common.{◌≡◌, ℕ, Bool, true, false, List, [], ◌∷◌, ◌++◌, Some, refl, ap, subst, ◌∙◌}
use Rattle.std.specs.Prelude.{◌||◌, ⊤, slice_get, zero, suc}
use Rattle.esm_tree.specs.Syntax.{Expr, Exprs, Compared, Links, Init, Bindings, Stmt, Stmts, Item}
use Rattle.esm_tree.specs.Syntax as x
use Rattle.esm_realm.proofs.Urls.{or_false}
use Rattle.esm_values.specs.Operators.{Values}
use Rattle.esm_expr_eval.specs.Terms as terms_of
use Rattle.esm_expr_eval.specs.Terms.{Term, Terms, LinkTerms, term, terms, compared_terms, links, fill, fill_all, fill_compared, fill_links}
use Rattle.esm_expr_eval.specs.Terms.{Term as t}
use Rattle.esm_expr_eval.specs.Terms.{Terms as ts}
use Rattle.esm_expr_eval.specs.Terms.{Compared as pairs}
use Rattle.esm_expr_eval.specs.Terms.{LinkTerms as ls}
use Rattle.esm_env.specs.Declarations.{FunctionCode, functions_by, functions_of, function_at, body_of, does, onto}
use Rattle.esm_rewriting.specs.Rest.{Use, Part, Rest, end, more, whole, begin, branch, does_init, does_bindings, fill_part, fill_rest}
use Rattle.esm_rewriting.specs.Rest.{Use as u}
use Rattle.esm_rewriting.specs.Rest.{Part as p}
use Rattle.esm_world.specs.ImportCalls.{expr_imports, exprs_import, compared_import, links_import, init_imports, bindings_import, stmt_imports, stmts_import, item_imports, holds_import}

-- ---- expressions under way

module _ {V : Type 0} where
  abbrev mutual
    pub Quiet : Term V → Type 0
    Quiet (t.Val v) = ⊤
    Quiet t.Waits = ⊤
    Quiet (t.Fails v) = ⊤
    Quiet (t.Name y) = ⊤
    Quiet (t.Or e es) = Quiet e × AllQuiet es
    Quiet (t.And e es) = Quiet e × AllQuiet es
    Quiet (t.Equal e cs) = Quiet e × QuietCompared cs
    Quiet (t.Sum e es) = Quiet e × AllQuiet es
    Quiet (t.Not e) = Quiet e
    Quiet (t.Post e l) = Quiet e × QuietLinks l
    Quiet (t.Print es) = AllQuiet es
    Quiet (t.NewError e) = Quiet e
    Quiet (t.Import e) = ⊥
    Quiet t.OwnUrl = ⊤

    pub AllQuiet : Terms V → Type 0
    AllQuiet ts.none = ⊤
    AllQuiet (ts.more e es) = Quiet e × AllQuiet es

    pub QuietCompared : terms_of.Compared V → Type 0
    QuietCompared pairs.last = ⊤
    QuietCompared (pairs.compared alike e cs) = Quiet e × QuietCompared cs

    pub QuietLinks : LinkTerms V → Type 0
    QuietLinks ls.ends = ⊤
    QuietLinks (ls.member name l) = QuietLinks l
    QuietLinks (ls.call es l) = AllQuiet es × QuietLinks l

  -- what stands for a call fills it
  module _ (given : Term V) (q : Quiet given) where
    mutual
      pub filled : (e : Term V) → Quiet e → Quiet (fill given e)
      filled (t.Val v) h = tt
      filled t.Waits h = q
      filled (t.Fails v) h = tt
      filled (t.Name y) h = tt
      filled (t.Or e es) h = (filled e h.0, filled_all es h.1)
      filled (t.And e es) h = (filled e h.0, filled_all es h.1)
      filled (t.Equal e cs) h = (filled e h.0, filled_compared cs h.1)
      filled (t.Sum e es) h = (filled e h.0, filled_all es h.1)
      filled (t.Not e) h = filled e h
      filled (t.Post e l) h = (filled e h.0, filled_links l h.1)
      filled (t.Print es) h = filled_all es h
      filled (t.NewError e) h = filled e h
      filled (t.Import e) h = absurd h
      filled t.OwnUrl h = tt

      filled_all : (es : Terms V) → AllQuiet es → AllQuiet (fill_all given es)
      filled_all ts.none h = tt
      filled_all (ts.more e es) h = (filled e h.0, filled_all es h.1)

      filled_compared : (cs : terms_of.Compared V) → QuietCompared cs → QuietCompared (fill_compared given cs)
      filled_compared pairs.last h = tt
      filled_compared (pairs.compared alike e cs) h = (filled e h.0, filled_compared cs h.1)

      filled_links : (l : LinkTerms V) → QuietLinks l → QuietLinks (fill_links given l)
      filled_links ls.ends h = tt
      filled_links (ls.member name l) h = filled_links l h
      filled_links (ls.call es l) h = (filled_all es h.0, filled_links l h.1)

  -- an expression of which nothing was evaluated
  module _ (values : Values V) where
    mutual
      pub term_quiet : (e : Expr) → expr_imports e ≡ false → Quiet (term values e)
      term_quiet (x.Text s) h = tt
      term_quiet (x.Truth b) h = tt
      term_quiet x.Undefined h = tt
      term_quiet (x.Name y) h = tt
      term_quiet (x.Group e) h = term_quiet e h
      term_quiet (x.Or e es) h = let k = or_false (expr_imports e) (exprs_import es) h in (term_quiet e k.0, terms_quiet es k.1)
      term_quiet (x.And e es) h = let k = or_false (expr_imports e) (exprs_import es) h in (term_quiet e k.0, terms_quiet es k.1)
      term_quiet (x.Equal e cs) h = let k = or_false (expr_imports e) (compared_import cs) h in (term_quiet e k.0, compared_quiet cs k.1)
      term_quiet (x.Sum e es) h = let k = or_false (expr_imports e) (exprs_import es) h in (term_quiet e k.0, terms_quiet es k.1)
      term_quiet (x.Not e) h = term_quiet e h
      term_quiet (x.Post e l) h = let k = or_false (expr_imports e) (links_import l) h in (term_quiet e k.0, links_quiet l k.1)
      term_quiet (x.Print es) h = terms_quiet es h
      term_quiet x.EmptyError h = tt
      term_quiet (x.NewError e) h = term_quiet e h
      term_quiet (x.Import e) h = let no : true ≡ false = h in absurd cc
      term_quiet x.Url h = tt

      terms_quiet : (es : Exprs) → exprs_import es ≡ false → AllQuiet (terms values es)
      terms_quiet x.none h = tt
      terms_quiet (x.more e es) h = let k = or_false (expr_imports e) (exprs_import es) h in (term_quiet e k.0, terms_quiet es k.1)

      compared_quiet : (cs : Compared) → compared_import cs ≡ false → QuietCompared (compared_terms values cs)
      compared_quiet x.last h = tt
      compared_quiet (x.compared alike e cs) h = let k = or_false (expr_imports e) (compared_import cs) h in (term_quiet e k.0, compared_quiet cs k.1)

      links_quiet : (l : Links) → links_import l ≡ false → QuietLinks (links values l)
      links_quiet x.ends h = tt
      links_quiet (x.member name l) h = links_quiet l h
      links_quiet (x.call es l) h = let k = or_false (exprs_import es) (links_import l) h in (terms_quiet es k.0, links_quiet l k.1)

-- ---- what remains of a body

abbrev pub QuietUse : Use → Type 0
QuietUse u.Drops = ⊤
QuietUse (u.Sets y) = ⊤
QuietUse (u.Writes y) = ⊤
QuietUse u.Throws = ⊤
QuietUse u.Returns = ⊤
QuietUse u.Prints = ⊤
QuietUse (u.Chooses ss others) = (stmts_import ss ≡ false) × (stmts_import others ≡ false)
QuietUse (u.Awaits purpose) = QuietUse purpose

module _ {V : Type 0} where
  abbrev mutual
    pub QuietPart : Part V → Type 0
    QuietPart (p.Whole s) = stmt_imports s ≡ false
    QuietPart (p.Does purpose e) = QuietUse purpose × Quiet e
    QuietPart (p.Stands purpose) = QuietUse purpose
    QuietPart (p.In scope rest) = QuietRest rest
    QuietPart (p.Tries rest caught handler) = QuietRest rest × (stmts_import handler ≡ false)

    pub QuietRest : Rest V → Type 0
    QuietRest end = ⊤
    QuietRest (more part rest) = QuietPart part × QuietRest rest

pub whole_quiet : (V : Type 0) (ss : Stmts) → stmts_import ss ≡ false → QuietRest {V = V} (whole ss)
whole_quiet V x.nothing h = tt
whole_quiet V (x.first s ss) h = let k = or_false (stmt_imports s) (stmts_import ss) h in (k.0, whole_quiet V ss k.1)

module _ {V : Type 0} where
  module _ (given : Term V) (q : Quiet given) where
    mutual
      part_filled : (part : Part V) → QuietPart part → QuietPart (fill_part given part)
      part_filled (p.Whole s) h = h
      part_filled (p.Does purpose e) h = (h.0, filled given q e h.1)
      part_filled (p.Stands purpose) h = (h, q)
      part_filled (p.In scope rest) h = rest_filled rest h
      part_filled (p.Tries rest caught handler) h = (rest_filled rest h.0, h.1)

      pub rest_filled : (rest : Rest V) → QuietRest rest → QuietRest (fill_rest given rest)
      rest_filled end h = tt
      rest_filled (more part rest) h = (part_filled part h.0, rest_filled rest h.1)

  module _ (values : Values V) where
    init_quiet : (purpose : Use) (init : Init) → QuietUse purpose → init_imports init ≡ false → QuietPart (does_init values purpose init)
    init_quiet purpose x.absent q h = (q, tt)
    init_quiet purpose (x.plain e) q h = (q, term_quiet values e h)
    init_quiet purpose (x.awaited e) q h = (q, term_quiet values e h)

    bindings_quiet : (bs : Bindings) (rest : Rest V) → bindings_import bs ≡ false → QuietRest rest → QuietRest (does_bindings values bs rest)
    bindings_quiet x.no_more rest h q = q
    bindings_quiet (x.binding name value bs) rest h q =
        let k = or_false (init_imports value) (bindings_import bs) h in (init_quiet (u.Sets name) value tt k.0, bindings_quiet bs rest k.1 q)

    pub begin_quiet : (s : Stmt) (rest : Rest V) → stmt_imports s ≡ false → QuietRest rest → QuietRest (begin values s rest)
    begin_quiet x.Empty rest h q = q
    begin_quiet (x.Block ss) rest h q = (whole_quiet V ss h, q)
    begin_quiet (x.Const bs) rest h q = bindings_quiet bs rest h q
    begin_quiet (x.Let bs) rest h q = bindings_quiet bs rest h q
    begin_quiet (x.Default value) rest h q = (init_quiet _ value tt h, q)
    begin_quiet (x.Assign name init) rest h q = (init_quiet (u.Writes name) init tt h, q)
    begin_quiet (x.If e ss) rest h q = let k = or_false (expr_imports e) (stmts_import ss) h in (((k.1, refl), term_quiet values e k.0), q)
    begin_quiet (x.IfElse e ss others) rest h q =
        let k = or_false (expr_imports e || stmts_import ss) (stmts_import others) h in
        let j = or_false (expr_imports e) (stmts_import ss) k.0 in (((j.1, k.1), term_quiet values e j.0), q)
    begin_quiet (x.Try ss handler) rest h q = let k = or_false (stmts_import ss) (stmts_import handler) h in (((whole_quiet V ss k.0, tt), k.1), q)
    begin_quiet (x.TryCatch ss name handler) rest h q = let k = or_false (stmts_import ss) (stmts_import handler) h in (((whole_quiet V ss k.0, tt), k.1), q)
    begin_quiet (x.Throw e) rest h q = ((tt, term_quiet values e h), q)
    begin_quiet x.Return rest h q = ((tt, tt), q)
    begin_quiet (x.ReturnValue e) rest h q = ((tt, term_quiet values e h), q)
    begin_quiet (x.Await e) rest h q = ((tt, term_quiet values e h), q)
    begin_quiet (x.PrintAwait e) rest h q = ((tt, term_quiet values e h), q)
    begin_quiet (x.Expression e) rest h q = ((tt, term_quiet values e h), q)

    pub branch_quiet : (b : Bool) (ss others : Stmts) → stmts_import ss ≡ false → stmts_import others ≡ false → QuietPart (branch values b ss others)
    branch_quiet true ss others h k = whole_quiet V ss h
    branch_quiet false ss others h k = whole_quiet V others k

-- ---- trees

onto_quiet : (o : Item) (ss : Stmts) → item_imports o ≡ false → stmts_import ss ≡ false → stmts_import (onto (does o) ss) ≡ false
onto_quiet (x.ExportStatement s) ss h k = ap (λ b. b || stmts_import ss) h ∙ k
onto_quiet (x.Statement s) ss h k = ap (λ b. b || stmts_import ss) h ∙ k
onto_quiet (x.ExportFunction name ps body) ss h k = k
onto_quiet (x.ExportDefaultFunction name ps body) ss h k = k
onto_quiet (x.Function name ps body) ss h k = k
onto_quiet (x.ImportEffect s) ss h k = k
onto_quiet (x.ImportFrom s bs) ss h k = k
onto_quiet (x.ExportAll s) ss h k = k
onto_quiet (x.ExportAllAs n s) ss h k = k
onto_quiet (x.ExportFrom es s) ss h k = k
onto_quiet (x.ExportList es) ss h k = k

pub body_quiet : (items : List Item) → holds_import items ≡ false → stmts_import (body_of items) ≡ false
body_quiet [] h = refl
body_quiet (item ∷ items) h = let k = or_false (item_imports item) (holds_import items) h in onto_quiet item (body_of items) k.0 (body_quiet items k.1)

abbrev QuietCode : List FunctionCode → Type 0
QuietCode fs = (i : ℕ) (f : FunctionCode) → slice_get fs i ≡ Some f → stmts_import f.body ≡ false

more_code : (f : FunctionCode) (fs : List FunctionCode) → stmts_import f.body ≡ false → QuietCode fs → QuietCode (f ∷ fs)
more_code f fs h q zero g e = let same : f ≡ g = cc in subst (λ (k : FunctionCode). stmts_import k.body ≡ false) same h
more_code f fs h q (suc i) g e = q i g e

item_code : (item : Item) (fs : List FunctionCode) → item_imports item ≡ false → QuietCode fs → QuietCode (functions_by item ++ fs)
item_code (x.ExportFunction name ps body) fs h q = more_code _ fs h q
item_code (x.ExportDefaultFunction name ps body) fs h q = more_code _ fs h q
item_code (x.Function name ps body) fs h q = more_code _ fs h q
item_code (x.ExportStatement s) fs h q = q
item_code (x.Statement s) fs h q = q
item_code (x.ImportEffect s) fs h q = q
item_code (x.ImportFrom s bs) fs h q = q
item_code (x.ExportAll s) fs h q = q
item_code (x.ExportAllAs n s) fs h q = q
item_code (x.ExportFrom es s) fs h q = q
item_code (x.ExportList es) fs h q = q

codes_quiet : (items : List Item) → holds_import items ≡ false → QuietCode (functions_of items)
codes_quiet [] h = λ i f e. cc
codes_quiet (item ∷ items) h = let k = or_false (item_imports item) (holds_import items) h in item_code item (functions_of items) k.0 (codes_quiet items k.1)

-- the body of a function of such a tree
pub code_quiet : (items : List Item) → holds_import items ≡ false → (i : ℕ) (f : FunctionCode) → function_at items i ≡ Some f → stmts_import f.body ≡ false
code_quiet items h i f e = codes_quiet items h i f e
