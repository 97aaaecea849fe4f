-- What remains of a body that starts.
use Rattle.std.specs.Prelude.{◌≡◌, ◌<◌, ℕ, Bool, List, [], ◌∷◌, ◌++◌, length, Option, Some, None}
use Rattle.std.specs.Arc.{arc_value}
use Rattle.std.specs.Borrow.{Bor}
use Rattle.esm_tree.specs.Syntax.{Parts, nothing}
use Rattle.esm_tree.specs.Syntax as x
use Rattle.esm_tree.specs.Syntax.{Stmt as Statement}
use Rattle.esm_tree.specs.Flat.{stmt_part, stmt_parts, AllStmtsBelow}
use Rattle.esm_tree.specs.declared.node.StmtId.{StmtId}
use Rattle.esm_values.specs.Code.{CodeValue, numbered}
use Rattle.esm_rewriting.specs.Rest.{Rest, more, block, branch}
use Rattle.esm_body.specs.Inner.Stack.{levels_rest}
use Rattle.esm_body.specs.Code.{AreLevels}
use Rattle.esm_body.specs.declared.work.Activation.{Activation}
use Rattle.esm_body.specs.declared.work.Kind.TheVariants as k
use Rattle.esm_body.specs.declared.work.Level.{Level}
use Rattle.esm_body.specs.declared.work.Work.{Work}

-- there is one level, with this work
abbrev pub IsOutermost : List Work → List Level → Type 0
IsOutermost work [] = ⊥
IsOutermost work (l ∷ []) = (l.work ≡ work) × (l.kind ≡ k.Block)
IsOutermost work (l ∷ m ∷ ls) = ⊥

-- it stands written in this module, whose tree is this, and this remains of it
pub record Remains (parts : Parts) (home : ℕ) (left : Rest CodeValue) (a : Activation) : Type 0 where
  pub at : a.at.0 ≡ home
  pub tree : arc_value a.tree ≡ parts
  pub rest : levels_rest parts.stmts a.levels.items ≡ left
  pub levels : AreLevels (length parts.stmts) a.levels.items
  pub some : 0 < length a.levels.items

-- ---- bodies that start

-- the statement with this number, if there is one
abbrev pub stmt_told : List Statement → Option StmtId → Option Statement
stmt_told stmts None = None
stmt_told stmts (Some id) = Some (stmt_part stmts id)

abbrev pub IsBelowTold : ℕ → Option StmtId → Type 0
IsBelowTold n None = Unit {0}
IsBelowTold n (Some id) = id.0 < n

-- the statement is done first, if there is one
abbrev pub AddsStatement : List StmtId → Option StmtId → List StmtId → Type 0
AddsStatement old None new = new ≡ old
AddsStatement old (Some id) new = new ≡ old ++ id ∷ []

-- ---- branches

-- the branch of an `if` in front of what remains
abbrev pub begun_branch : Statement → Bool → Rest CodeValue → Rest CodeValue
begun_branch (x.If e ss) truth rest = more (branch numbered truth ss nothing) rest
begun_branch (x.IfElse e ss others) truth rest = more (branch numbered truth ss others) rest
begun_branch _ truth rest = rest

abbrev pub IsBranch : List Statement → Statement → Bool → Option (Bor (List StmtId)) → Type 0
IsBranch stmts s truth None = (rest : Rest CodeValue) → begun_branch s truth rest ≡ rest
IsBranch stmts s truth (Some r) = (rest : Rest CodeValue) → begun_branch s truth rest ≡ more (block numbered (stmt_parts stmts r.now)) rest

abbrev pub AreBelowTold : ℕ → Option (Bor (List StmtId)) → Type 0
AreBelowTold n None = Unit {0}
AreBelowTold n (Some r) = AllStmtsBelow n r.now
