-- A row ends with the row behind it, so a jump leads into the same row.
use Rattle.std.specs.Prelude.{◌≡◌, ℕ, List, ◌∷◌, ◌++◌, Option}
use Rattle.esm_tree.specs.Syntax.{Expr, Exprs, no_more, Stmt, Stmts, Bindings}
use Rattle.esm_env.specs.Declarations.{Declaration, declared_in}
use Rattle.esm_rows.specs.Rows.{Row, Names, expr_row, bindings_row, stmt_row, stmts_row, block_row}
use Rattle.esm_row_laws.specs.Spots.{Left, left, Round, Tried, names_of, Kont, Ors, Ands, kont_names, Spot, whole_row, handled_row, left_row, kont_row}
use Rattle.esm_row_laws.specs.Told.{LeavesAt}
use Rattle.std.specs.Prelude.{length}

abbrev pub EndsWith : Row → Row → Type 0
EndsWith c r = (before : Row) × (before ++ c ≡ r)

pub record RowsEnd : Type 0 where
  pub expr : (ns : Names) (e : Expr) (c : Row) → EndsWith c (expr_row ns e c)
  pub bindings : (ns : Names) (bs : Bindings) (c : Row) → EndsWith c (bindings_row ns bs c)
  pub stmt : (ns : Names) (s : Stmt) (c : Row) → EndsWith c (stmt_row ns s c)
  pub stmts : (ns : Names) (ss : Stmts) (c : Row) → EndsWith c (stmts_row ns ss c)
  -- where jumps lead
  pub or_else : (e : Expr) (es : Exprs) (k : Kont) → EndsWith (kont_row k) (expr_row (kont_names k) e (kont_row (Ors es k)))
  pub and_also : (e : Expr) (es : Exprs) (k : Kont) → EndsWith (kont_row k) (expr_row (kont_names k) e (kont_row (Ands es k)))
  pub choose : (ss others : Stmts) (l : Left) (rs : List Round) → EndsWith (whole_row others (names_of rs) (left_row l rs))
      (block_row (declared_in ss) (stmts_row (declared_in ss ∷ names_of rs) ss) (length (left_row l rs))
      (whole_row others (names_of rs) (left_row l rs)))
  pub leave : (ds : List Declaration) (l : Left) (rs : List Round) (s : Spot) (c : Row) → LeavesAt ds l rs s c → EndsWith (left_row l rs) c
  pub end_try : (caught : Option (List ℕ)) (handler : Stmts) (l : Left) (rs : List Round)
      → EndsWith (left_row l rs) (handled_row caught handler (names_of rs) (left_row l rs))
  -- the handler of a `try` stands behind its block
  pub handler : (ds : List Declaration) (caught : Option (List ℕ)) (handler ss : Stmts) (l : Left) (rs : List Round)
      → EndsWith (handled_row caught handler (names_of rs) (left_row l rs)) (left_row (left no_more ss) (Tried ds caught handler l ∷ rs))
