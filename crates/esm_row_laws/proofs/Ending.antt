-- A row ends with the row behind it, so a jump leads into the same row.
use Rattle.std.proofs.Common.{◌≡◌, ℕ, List, [], ◌∷◌, ◌++◌, length, Option, Some, None, refl, ap, ◌∙◌}
use Rattle.esm_tree.specs.Syntax as x
use Rattle.esm_tree.specs.Syntax.{Expr, Exprs, none, more, Compared, last, compared, Links, ends, member, call, Init, absent, plain, awaited, Bindings, no_more, binding, Stmt, Stmts, nothing, first}
use Rattle.esm_base.specs.DefaultExport.{star_default}
use Rattle.esm_env.specs.Declarations.{Declaration, declared_in}
use Rattle.esm_rows.specs.Rows.{Operation, Row, Names, found_here, found_in, set_by, write_by, expr_row, exprs_row, ors_row, ands_row, compared_row, sums_row, links_row, init_row, bindings_row, stmt_row, stmts_row, block_row, chosen_row, handler_row, try_row, caught_names}
use Rattle.esm_rows.specs.Rows.{Operation as o}
use Rattle.esm_row_laws.specs.Spots.{Left, left, Round, Tried, names_of, Kont, Ors, Ands, kont_names, Spot, whole_row, handled_row, left_row, kont_row}
use Rattle.esm_row_laws.specs.Told.{LeavesAt, of_block, of_first}
use Rattle.esm_row_laws.specs.Endings.{EndsWith}

pub itself : (c : Row) → EndsWith c c
itself c = ([], refl)

pub one_more : {c r : Row} (op : Operation) → EndsWith c r → EndsWith c (op ∷ r)
one_more op e = (op ∷ e.0, ap (λ r. op ∷ r) e.1)

joined : (p q c : Row) → (p ++ q) ++ c ≡ p ++ (q ++ c)
joined [] q c = refl
joined (op ∷ p) q c = ap (λ r. op ∷ r) (joined p q c)

pub both : {c d r : Row} → EndsWith c d → EndsWith d r → EndsWith c r
both {c = c} e f = (f.0 ++ e.0, joined f.0 e.0 c ∙ ap (λ q. f.0 ++ q) e.1 ∙ f.1)

module _ (ns : Names) where
  mutual
    pub expr_ends : (e : Expr) (c : Row) → EndsWith c (expr_row ns e c)
    expr_ends (x.Text s) c = one_more _ (itself c)
    expr_ends (x.Truth b) c = one_more _ (itself c)
    expr_ends x.Undefined c = one_more _ (itself c)
    expr_ends (x.Name name) c = one_more _ (itself c)
    expr_ends (x.Group e) c = expr_ends e c
    expr_ends (x.Or e es) c = both (ors_ends es (length c) c) (expr_ends e (ors_row ns es (length c) c))
    expr_ends (x.And e es) c = both (ands_ends es (length c) c) (expr_ends e (ands_row ns es (length c) c))
    expr_ends (x.Equal e cs) c = both (compared_ends cs c) (expr_ends e (compared_row ns cs c))
    expr_ends (x.Sum e es) c = both (sums_ends es c) (expr_ends e (sums_row ns es c))
    expr_ends (x.Not e) c = both (one_more _ (itself c)) (expr_ends e (o.Not ∷ c))
    expr_ends (x.Post e ls) c = both (links_ends ls c) (expr_ends e (links_row ns ls c))
    expr_ends (x.Print es) c = both (one_more _ (itself c)) (exprs_ends es _)
    expr_ends x.EmptyError c = one_more _ (one_more _ (itself c))
    expr_ends (x.NewError e) c = both (one_more _ (itself c)) (expr_ends e (o.NewError ∷ c))
    expr_ends (x.Import e) c = both (one_more _ (itself c)) (expr_ends e (o.Import ∷ c))
    expr_ends x.Url c = one_more _ (itself c)

    pub exprs_ends : (es : Exprs) (c : Row) → EndsWith c (exprs_row ns es c)
    exprs_ends none c = itself c
    exprs_ends (more e es) c = both (exprs_ends es c) (expr_ends e (exprs_row ns es c))

    pub ors_ends : (es : Exprs) (n : ℕ) (c : Row) → EndsWith c (ors_row ns es n c)
    ors_ends none n c = itself c
    ors_ends (more e es) n c = one_more _ (both (ors_ends es n c) (expr_ends e (ors_row ns es n c)))

    pub ands_ends : (es : Exprs) (n : ℕ) (c : Row) → EndsWith c (ands_row ns es n c)
    ands_ends none n c = itself c
    ands_ends (more e es) n c = one_more _ (both (ands_ends es n c) (expr_ends e (ands_row ns es n c)))

    pub compared_ends : (cs : Compared) (c : Row) → EndsWith c (compared_row ns cs c)
    compared_ends last c = itself c
    compared_ends (compared alike e cs) c = both (one_more _ (compared_ends cs c)) (expr_ends e (o.Compare alike ∷ compared_row ns cs c))

    pub sums_ends : (es : Exprs) (c : Row) → EndsWith c (sums_row ns es c)
    sums_ends none c = itself c
    sums_ends (more e es) c = both (one_more _ (sums_ends es c)) (expr_ends e (o.Add ∷ sums_row ns es c))

    pub links_ends : (ls : Links) (c : Row) → EndsWith c (links_row ns ls c)
    links_ends ends c = itself c
    links_ends (member name ls) c = one_more _ (links_ends ls c)
    links_ends (call es ls) c = both (one_more _ (links_ends ls c)) (exprs_ends es _)

  pub init_ends : (value : Init) (c : Row) → EndsWith c (init_row ns value c)
  init_ends absent c = one_more _ (itself c)
  init_ends (plain e) c = expr_ends e c
  init_ends (awaited e) c = both (one_more _ (itself c)) (expr_ends e (o.Await ∷ c))

  pub bindings_end : (bs : Bindings) (c : Row) → EndsWith c (bindings_row ns bs c)
  bindings_end no_more c = itself c
  bindings_end (binding name value bs) c = both (one_more (set_by name (found_here ns name)) (bindings_end bs c)) (init_ends value _)

-- ---- statements

-- what an inner row ends with
abbrev Inside : (Row → Row) → Type 0
Inside inner = (c : Row) → EndsWith c (inner c)

block_ends : (ds : List Declaration) (inner : Row → Row) (n : ℕ) (c : Row) → Inside inner → EndsWith c (block_row ds inner n c)
block_ends ds inner n c h = one_more _ (both (one_more _ (itself c)) (h (o.Leave (length ds) n ∷ c)))

chosen_ends : (ds : List Declaration) (inner : Row → Row) (n : ℕ) (others : Row) → Inside inner → EndsWith others (chosen_row ds inner n others)
chosen_ends ds inner n others h = one_more _ (block_ends ds inner n others h)

handler_ends : (caught : Option (List ℕ)) (ds : List Declaration) (inner : Row → Row) (c : Row) → Inside inner → EndsWith c (handler_row caught ds inner c)
handler_ends caught ds inner c h = one_more _ (both (one_more _ (itself c)) (h (o.Leave (length (caught_names caught ++ ds)) (length c) ∷ c)))

try_ends : (ds : List Declaration) (inner : Row → Row) (n : ℕ) (handler : Row) → Inside inner → EndsWith handler (try_row ds inner n handler)
try_ends ds inner n handler h = one_more _ (both (one_more _ (itself handler)) (h (o.EndTry (length ds) n ∷ handler)))

mutual
  pub stmt_ends : (ns : Names) (s : Stmt) (c : Row) → EndsWith c (stmt_row ns s c)
  stmt_ends ns x.Empty c = itself c
  stmt_ends ns (x.Expression e) c = both (one_more _ (itself c)) (expr_ends ns e (o.Drop ∷ c))
  stmt_ends ns (x.Assign name value) c = both (one_more (write_by name (found_in ns name)) (itself c)) (init_ends ns value _)
  stmt_ends ns (x.Block ss) c = block_ends (declared_in ss) (stmts_row (declared_in ss ∷ ns) ss) (length c) c (λ d. stmts_end (declared_in ss ∷ ns) ss d)
  stmt_ends ns (x.If e ss) c =
      both (both (block_ends [] (λ d. d) (length c) c (λ d. itself d)) (chosen_ends (declared_in ss) (stmts_row (declared_in ss ∷ ns) ss) (length c) _ (λ d. stmts_end (declared_in ss ∷ ns) ss d))) (expr_ends ns e _)
  stmt_ends ns (x.IfElse e ss others) c =
      both (both (block_ends (declared_in others) (stmts_row (declared_in others ∷ ns) others) (length c) c (λ d. stmts_end (declared_in others ∷ ns) others d)) (chosen_ends (declared_in ss) (stmts_row (declared_in ss ∷ ns) ss) (length c) _ (λ d. stmts_end (declared_in ss ∷ ns) ss d))) (expr_ends ns e _)
  stmt_ends ns (x.Try ss handler) c =
      both (handler_ends None (declared_in handler) (stmts_row ((caught_names None ++ declared_in handler) ∷ ns) handler) c (λ d. stmts_end ((caught_names None ++ declared_in handler) ∷ ns) handler d)) (try_ends (declared_in ss) (stmts_row (declared_in ss ∷ ns) ss) (length c) _ (λ d. stmts_end (declared_in ss ∷ ns) ss d))
  stmt_ends ns (x.TryCatch ss name handler) c =
      both (handler_ends (Some name) (declared_in handler) (stmts_row ((caught_names (Some name) ++ declared_in handler) ∷ ns) handler) c (λ d. stmts_end ((caught_names (Some name) ++ declared_in handler) ∷ ns) handler d)) (try_ends (declared_in ss) (stmts_row (declared_in ss ∷ ns) ss) (length c) _ (λ d. stmts_end (declared_in ss ∷ ns) ss d))
  stmt_ends ns (x.Throw e) c = both (one_more _ (itself c)) (expr_ends ns e (o.Throw ∷ c))
  stmt_ends ns x.Return c = one_more _ (one_more _ (itself c))
  stmt_ends ns (x.ReturnValue e) c = both (one_more _ (itself c)) (expr_ends ns e (o.Return ∷ c))
  stmt_ends ns (x.Await e) c = both (one_more _ (one_more _ (itself c))) (expr_ends ns e (o.Await ∷ o.Drop ∷ c))
  stmt_ends ns (x.PrintAwait e) c = both (one_more _ (one_more _ (itself c))) (expr_ends ns e (o.Await ∷ o.PrintAwaited ∷ c))
  stmt_ends ns (x.Const bs) c = bindings_end ns bs c
  stmt_ends ns (x.Let bs) c = bindings_end ns bs c
  stmt_ends ns (x.Default value) c = both (one_more (set_by star_default (found_here ns star_default)) (itself c)) (init_ends ns value _)

  pub stmts_end : (ns : Names) (ss : Stmts) (c : Row) → EndsWith c (stmts_row ns ss c)
  stmts_end ns nothing c = itself c
  stmts_end ns (first s ss) c = one_more _ (both (stmts_end ns ss c) (stmt_ends ns s (stmts_row ns ss c)))

-- ---- where jumps lead

pub whole_ends : (ss : Stmts) (ns : Names) (c : Row) → EndsWith c (whole_row ss ns c)
whole_ends ss ns c = block_ends (declared_in ss) (stmts_row (declared_in ss ∷ ns) ss) (length c) c (λ d. stmts_end (declared_in ss ∷ ns) ss d)

pub handled_ends : (caught : Option (List ℕ)) (handler : Stmts) (ns : Names) (c : Row) → EndsWith c (handled_row caught handler ns c)
handled_ends caught handler ns c = handler_ends caught (declared_in handler) (stmts_row ((caught_names caught ++ declared_in handler) ∷ ns) handler) c (λ d. stmts_end ((caught_names caught ++ declared_in handler) ∷ ns) handler d)

pub or_else : (e : Expr) (es : Exprs) (k : Kont) → EndsWith (kont_row k) (expr_row (kont_names k) e (kont_row (Ors es k)))
or_else e es k = both (ors_ends (kont_names k) es (length (kont_row k)) (kont_row k)) (expr_ends (kont_names k) e (kont_row (Ors es k)))

pub and_also : (e : Expr) (es : Exprs) (k : Kont) → EndsWith (kont_row k) (expr_row (kont_names k) e (kont_row (Ands es k)))
and_also e es k = both (ands_ends (kont_names k) es (length (kont_row k)) (kont_row k)) (expr_ends (kont_names k) e (kont_row (Ands es k)))

pub choose : (ss others : Stmts) (l : Left) (rs : List Round) → EndsWith (whole_row others (names_of rs) (left_row l rs)) (block_row (declared_in ss) (stmts_row (declared_in ss ∷ names_of rs) ss) (length (left_row l rs)) (whole_row others (names_of rs) (left_row l rs)))
choose ss others l rs = block_ends (declared_in ss) (stmts_row (declared_in ss ∷ names_of rs) ss) (length (left_row l rs)) (whole_row others (names_of rs) (left_row l rs)) (λ d. stmts_end (declared_in ss ∷ names_of rs) ss d)

pub leave : (ds : List Declaration) (l : Left) (rs : List Round) (s : Spot) (c : Row) → LeavesAt ds l rs s c → EndsWith (left_row l rs) c
leave ds l rs _ _ of_block = itself (left_row l rs)
leave ds l rs _ _ (of_first others) = whole_ends others (names_of rs) (left_row l rs)

pub handler : (ds : List Declaration) (caught : Option (List ℕ)) (h ss : Stmts) (l : Left) (rs : List Round) → EndsWith (handled_row caught h (names_of rs) (left_row l rs)) (left_row (left no_more ss) (Tried ds caught h l ∷ rs))
handler ds caught h ss l rs = both (one_more _ (itself (handled_row caught h (names_of rs) (left_row l rs)))) (stmts_end (ds ∷ names_of rs) ss _)
