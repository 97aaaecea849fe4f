-- Rows are made from their end to their start, by what is still to be put in front: the last is next.
use Rattle.std.specs.Prelude.{◌≡◌, ℕ, zero, suc, ◌+◌, Bool, true, false, List, [], ◌∷◌, ◌++◌, length, slice_get, Some}
use Rattle.esm_tree.specs.Syntax as x
use Rattle.esm_tree.specs.Syntax.{Expr, Links, ends, member, call}
use Rattle.esm_tree.specs.Flat.{part, compared_parts}
use Rattle.esm_tree.specs.Flat.{parts as expr_parts}
use Rattle.std.specs.List.{flat_map}
use Rattle.esm_env.specs.NamePlaces.{first_place}
use Rattle.esm_tree.specs.declared.node.ExprId.{ExprId}
use Rattle.esm_tree.specs.declared.node.Link.{Link}
use Rattle.esm_tree.specs.declared.node.Link.TheVariants as link
use Rattle.esm_rows.specs.Rows.{Operation, Row, Names, expr_row, exprs_row, ors_row, ands_row, sums_row, compared_row}
use Rattle.esm_rows.specs.Rows.{Operation as o}
use Rattle.esm_rows.specs.declared.op.Op.{Op}
use Rattle.esm_rows.specs.declared.op.Op.TheVariants as op
use Rattle.esm_rows.specs.declared.tasks.Task.{Task}
use Rattle.esm_rows.specs.declared.tasks.Task.TheVariants as task

-- an operation that names no text
abbrev pub plain : Op → Operation
plain op.Step = o.Step
plain (op.Text k) = o.Step
plain (op.Truth b) = o.Truth b
plain op.Undefined = o.Undefined
plain op.Url = o.Url
plain (op.Local place k) = o.Step
plain (op.Own k) = o.Step
plain (op.Name k) = o.Step
plain (op.OrElse left) = o.OrElse left
plain (op.AndAlso left) = o.AndAlso left
plain (op.Compare b) = o.Compare b
plain op.Add = o.Add
plain op.Not = o.Not
plain (op.Member k) = o.Step
plain (op.Call n) = o.Call n
plain (op.Print n) = o.Print n
plain op.NewError = o.NewError
plain op.Import = o.Import
plain op.Drop = o.Drop
plain (op.SetLocal place) = o.SetLocal place
plain (op.SetName k) = o.Step
plain (op.WriteLocal place k) = o.Step
plain (op.WriteConstant place k) = o.Step
plain (op.WriteName k) = o.Step
plain op.Throw = o.Throw
plain op.Return = o.Return
plain op.PrintAwaited = o.PrintAwaited
plain op.Await = o.Await
plain (op.Choose left) = o.Choose left
plain (op.Enter n) = o.Enter n
plain (op.Leave n left) = o.Leave n left
plain (op.Try n left) = o.Try n left
plain (op.EndTry n left) = o.EndTry n left
plain (op.Caught n) = o.Caught true n
plain (op.CaughtUnnamed n) = o.Caught false n
plain op.End = o.End

-- the name of the member with this number behind a head
abbrev pub link_name : Links → ℕ → List ℕ
link_name ends n = []
link_name (member name ls) zero = name
link_name (member name ls) (suc n) = link_name ls n
link_name (call es ls) zero = []
link_name (call es ls) (suc n) = link_name ls n

abbrev pub member_name : Expr → ℕ → List ℕ
member_name (x.Post e ls) n = link_name ls n
member_name _ n = []

module _ (names : Names) (exprs : List Expr) where
  abbrev pub step : Task → Row → Row
  step (task.Put p) c = plain p ∷ c
  step (task.Part id) c = expr_row names (part exprs id) c
  step (task.Member id k) c = o.Member (member_name (part exprs id) k) ∷ c

  -- the row that is made in the end
  abbrev pub undone : List Task → Row → Row
  undone [] c = c
  undone (t ∷ ts) c = step t (undone ts c)

-- what parts become
abbrev pub part_tasks : ExprId → List Task
part_tasks id = task.Part id ∷ []

abbrev pub or_tasks : ℕ → ExprId → List Task
or_tasks left id = task.Put (op.OrElse left) ∷ task.Part id ∷ []

abbrev pub and_tasks : ℕ → ExprId → List Task
and_tasks left id = task.Put (op.AndAlso left) ∷ task.Part id ∷ []

abbrev pub sum_tasks : ExprId → List Task
sum_tasks id = task.Part id ∷ task.Put op.Add ∷ []

abbrev pub compare_tasks : Bool × ExprId → List Task
compare_tasks c = task.Part c.1 ∷ task.Put (op.Compare c.0) ∷ []

abbrev pub link_tasks : ExprId → ℕ → Link → List Task
link_tasks id k (link.Member name) = task.Member id k ∷ []
link_tasks id k (link.Call ids) = flat_map part_tasks ids.items ++ task.Put (op.Call (length ids.items)) ∷ []

-- of the links from this number on
abbrev pub links_tasks : ExprId → ℕ → List Link → List Task
links_tasks id k [] = []
links_tasks id k (l ∷ ls) = link_tasks id k l ++ links_tasks id (k + 1) ls

-- ---- the tables of a row: the names that its module itself declares, in order, and its texts

-- the text at this place
abbrev pub TextAt : List (List ℕ) → ℕ → (List ℕ → Operation) → Operation → Type 0
TextAt texts k make p = (s : List ℕ) × (slice_get texts k ≡ Some s) × (p ≡ make s)

-- the name whose first place among those of the module is this
abbrev pub OwnAt : List (List ℕ) → ℕ → Operation → Type 0
OwnAt owns k p = (s : List ℕ) × (first_place owns s ≡ Some k) × (p ≡ o.Name s)

-- an operation of the code is this one, with the texts of its tables
module _ (owns texts : List (List ℕ)) where
  abbrev pub IsTold : Op → Operation → Type 0
  IsTold op.Step p = p ≡ plain op.Step
  IsTold (op.Text k) p = TextAt texts k (λ s. o.Text s) p
  IsTold (op.Truth b) p = p ≡ plain (op.Truth b)
  IsTold op.Undefined p = p ≡ plain op.Undefined
  IsTold op.Url p = p ≡ plain op.Url
  IsTold (op.Local place k) p = TextAt texts k (λ s. o.Local place s) p
  IsTold (op.Own k) p = OwnAt owns k p
  IsTold (op.Name k) p = TextAt texts k (λ s. o.Name s) p
  IsTold (op.OrElse left) p = p ≡ plain (op.OrElse left)
  IsTold (op.AndAlso left) p = p ≡ plain (op.AndAlso left)
  IsTold (op.Compare b) p = p ≡ plain (op.Compare b)
  IsTold op.Add p = p ≡ plain op.Add
  IsTold op.Not p = p ≡ plain op.Not
  IsTold (op.Member k) p = TextAt texts k (λ s. o.Member s) p
  IsTold (op.Call n) p = p ≡ plain (op.Call n)
  IsTold (op.Print n) p = p ≡ plain (op.Print n)
  IsTold op.NewError p = p ≡ plain op.NewError
  IsTold op.Import p = p ≡ plain op.Import
  IsTold op.Drop p = p ≡ plain op.Drop
  IsTold (op.SetLocal place) p = p ≡ plain (op.SetLocal place)
  IsTold (op.SetName k) p = TextAt texts k (λ s. o.SetName s) p
  IsTold (op.WriteLocal place k) p = TextAt texts k (λ s. o.WriteLocal place s false) p
  IsTold (op.WriteConstant place k) p = TextAt texts k (λ s. o.WriteLocal place s true) p
  IsTold (op.WriteName k) p = TextAt texts k (λ s. o.WriteName s) p
  IsTold op.Throw p = p ≡ plain op.Throw
  IsTold op.Return p = p ≡ plain op.Return
  IsTold op.PrintAwaited p = p ≡ plain op.PrintAwaited
  IsTold op.Await p = p ≡ plain op.Await
  IsTold (op.Choose left) p = p ≡ plain (op.Choose left)
  IsTold (op.Enter n) p = p ≡ plain (op.Enter n)
  IsTold (op.Leave n left) p = p ≡ plain (op.Leave n left)
  IsTold (op.Try n left) p = p ≡ plain (op.Try n left)
  IsTold (op.EndTry n left) p = p ≡ plain (op.EndTry n left)
  IsTold (op.Caught n) p = p ≡ plain (op.Caught n)
  IsTold (op.CaughtUnnamed n) p = p ≡ plain (op.CaughtUnnamed n)
  IsTold op.End p = p ≡ plain op.End

-- the operations of the code, of which the last is next, are these
pub data AreTold (owns texts : List (List ℕ)) : List Op → Row → Type 0 where
  nothing_left : AreTold owns texts [] []
  one_more : (ops : List Op) {c : Row} (q : Op) {p : Operation} → AreTold owns texts ops c → IsTold owns texts q p
      → AreTold owns texts (ops ++ q ∷ []) (p ∷ c)

-- what is told stays told where texts are added, and an operation more is told as this one
pub record TablesGrow : Type 0 where
  pub same : (owns texts more : List (List ℕ)) (ops : List Op) (c : Row) → AreTold owns texts ops c → AreTold owns (texts ++ more) ops c
  pub text : (texts : List (List ℕ)) (s : List ℕ) (make : List ℕ → Operation) → TextAt (texts ++ s ∷ []) (length texts) make (make s)

-- ---- what remains to be done

-- an operation that names no text is the same in every table
abbrev pub IsPlain : Task → Type 0
IsPlain (task.Put p) = (texts : List (List ℕ)) → IsTold [] texts p (plain p)
IsPlain (task.Part id) = Unit {0}
IsPlain (task.Member id k) = Unit {0}

abbrev pub ArePlain : List Task → Type 0
ArePlain [] = Unit {0}
ArePlain (t ∷ ts) = IsPlain t × ArePlain ts

-- these operations are there, and with what is still to be put in front they make this row
pub record LeadsTo (names : Names) (exprs : List Expr) (tasks : List Task) (texts : List (List ℕ)) (ops : List Op) (made : Row)
    : Type 0 where
  pub row : Row
  pub told : AreTold [] texts ops row
  pub makes : undone names exprs tasks row ≡ made
  pub plain_tasks : ArePlain tasks

-- what tasks of parts come to
module _ (names : Names) (exprs : List Expr) where
  pub record TasksMake : Type 0 where
    pub more : (ts : List Task) (t : Task) (c : Row) → undone names exprs (ts ++ t ∷ []) c ≡ undone names exprs ts (step names exprs t c)
    pub parts : (ids : List ExprId) (c : Row) → undone names exprs (flat_map part_tasks ids) c ≡ exprs_row names (expr_parts exprs ids) c
    pub ors : (left : ℕ) (ids : List ExprId) (c : Row)
        → undone names exprs (flat_map (or_tasks left) ids) c ≡ ors_row names (expr_parts exprs ids) left c
    pub ands : (left : ℕ) (ids : List ExprId) (c : Row)
        → undone names exprs (flat_map (and_tasks left) ids) c ≡ ands_row names (expr_parts exprs ids) left c
    pub sums : (ids : List ExprId) (c : Row) → undone names exprs (flat_map sum_tasks ids) c ≡ sums_row names (expr_parts exprs ids) c
    pub compared : (cs : List (Bool × ExprId)) (c : Row)
        → undone names exprs (flat_map compare_tasks cs) c ≡ compared_row names (compared_parts exprs cs) c
    pub both : (ts us : List Task) (c : Row) → undone names exprs (ts ++ us) c ≡ undone names exprs ts (undone names exprs us c)
