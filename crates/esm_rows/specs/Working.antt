-- Statements by what is still to be put in front: the last is next.
use Rattle.std.specs.Prelude.{◌≡◌, ℕ, List, [], ◌∷◌, ◌++◌}
use Rattle.esm_tree.specs.Syntax as x
use Rattle.esm_tree.specs.Syntax.{Expr, Stmt, Stmts, nothing}
use Rattle.esm_tree.specs.Flat.{part, stmt_part}
use Rattle.esm_tree.specs.declared.node.StmtId.{StmtId}
use Rattle.esm_env.specs.Declarations.{declared_in}
use Rattle.esm_rows.specs.Rows.{Row, Names, expr_row, stmt_row, stmts_row, chosen_row, try_row}
use Rattle.esm_rows.specs.Rows.{Operation as o}
use Rattle.esm_rows.specs.Making.{AreTold, IsTold, plain}
use Rattle.esm_rows.specs.Locals.{names_of}
use Rattle.esm_rows.specs.declared.op.Op.{Op}
use Rattle.esm_rows.specs.declared.works.Work.{Work}
use Rattle.esm_rows.specs.declared.works.Work.TheVariants as w
use Rattle.esm_rows.specs.declared.maker.Maker.{Maker}

-- the names round a place, and the row there
pub record Amid : Type 0 where
  pub names : Names
  pub row : Row

abbrev pub amid : Names → Row → Amid
amid names row = record { names = names; row = row }

abbrev pub outer : Names → Names
outer [] = []
outer (ds ∷ ns) = ns

-- the first block of an `if`, or the block of a `try`
abbrev pub first_block : Stmt → Stmts
first_block (x.If e ss) = ss
first_block (x.IfElse e ss others) = ss
first_block (x.Try ss handler) = ss
first_block (x.TryCatch ss name handler) = ss
first_block _ = nothing

abbrev pub inner_row : Names → Stmts → Row → Row
inner_row ns ss c = stmts_row (declared_in ss ∷ ns) ss c

abbrev pub first_row : Names → Stmts → ℕ → Row → Row
first_row ns ss n c = chosen_row (declared_in ss) (inner_row ns ss) n c

abbrev pub tried_row : Names → Stmts → ℕ → Row → Row
tried_row ns ss n c = try_row (declared_in ss) (inner_row ns ss) n c

module _ (exprs : List Expr) (stmts : List Stmt) where
  abbrev pub work_row : Names → Work → Row → Row
  work_row ns (w.Put p) c = plain p ∷ c
  work_row ns (w.Statement id) c = o.Step ∷ stmt_row ns (stmt_part stmts id) c
  work_row ns (w.Value id) c = expr_row ns (part exprs id) c
  work_row ns (w.Begin p) c = plain p ∷ c
  work_row ns (w.First id n) c = first_row ns (first_block (stmt_part stmts id)) n c
  work_row ns (w.Tried id n) c = tried_row ns (first_block (stmt_part stmts id)) n c

abbrev pub work_names : Work → Names → Names
work_names (w.Put p) ns = ns
work_names (w.Statement id) ns = ns
work_names (w.Value id) ns = ns
work_names (w.Begin p) ns = outer ns
work_names (w.First id n) ns = ns
work_names (w.Tried id n) ns = ns

module _ (exprs : List Expr) (stmts : List Stmt) where
  abbrev pub after_work : Work → Amid → Amid
  after_work work s = amid (work_names work s.names) (work_row exprs stmts s.names work s.row)

  -- the row that is made in the end
  abbrev pub undone_works : List Work → Amid → Amid
  undone_works [] s = s
  undone_works (work ∷ works) s = after_work work (undone_works works s)

abbrev pub statement_works : StmtId → List Work
statement_works id = w.Statement id ∷ []

-- an operation that names no text is the same in every table
abbrev pub IsPlainOp : Op → Type 0
IsPlainOp p = (texts : List (List ℕ)) → IsTold [] texts p (plain p)

abbrev pub IsPlainWork : Work → Type 0
IsPlainWork (w.Put p) = IsPlainOp p
IsPlainWork (w.Statement id) = Unit {0}
IsPlainWork (w.Value id) = Unit {0}
IsPlainWork (w.Begin p) = IsPlainOp p
IsPlainWork (w.First id n) = Unit {0}
IsPlainWork (w.Tried id n) = Unit {0}

abbrev pub ArePlainWorks : List Work → Type 0
ArePlainWorks [] = Unit {0}
ArePlainWorks (work ∷ works) = IsPlainWork work × ArePlainWorks works

-- these operations are there; where what is owed is put in front, and then what is still to be done, they make this row
pub record Owes (exprs : List Expr) (stmts : List Stmt) (names : Names) (works : List Work) (texts : List (List ℕ)) (ops : List Op)
    (owed : Row
    → Row) (made : Row) : Type 0 where
  pub row : Row
  pub told : AreTold [] texts ops row
  pub makes : (undone_works exprs stmts works (amid names (owed row))).row ≡ made
  pub plain_works : ArePlainWorks works

abbrev pub OwesIn : List Expr → List Stmt → Maker → (Row → Row) → Row → Type 0
OwesIn exprs stmts m owed made = Owes exprs stmts (names_of m.blocks.items) m.works.items m.draft.texts.items m.draft.ops.items owed made

-- the same where a work more is still to be done
abbrev pub OwesWork : List Expr → List Stmt → Maker → Work → Row → Type 0
OwesWork exprs stmts m work made = Owes exprs stmts (names_of m.blocks.items) (m.works.items ++ work ∷ []) m.draft.texts.items
    m.draft.ops.items (λ c. c) made

-- nothing else is owed
abbrev pub Comes : List Expr → List Stmt → Maker → Row → Type 0
Comes exprs stmts m made = OwesIn exprs stmts m (λ c. c) made
