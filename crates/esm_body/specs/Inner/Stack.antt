-- What the levels of an activation stand for, and what becomes of them.
use Rattle.esm_tree.specs.declared.node.StmtId.{StmtId}
use Rattle.std.specs.Prelude.{◌≡◌, ◌<◌, ◌≤◌, length, ℕ, List, [], ◌∷◌, ◌++◌, Option, Some, None, Result, Ok, Err}
use Rattle.std.specs.Borrow.{Bor}
use Rattle.esm_tree.specs.Syntax as x
use Rattle.esm_tree.specs.Syntax.{Bindings, Stmt as Statement, Stmts, nothing}
use Rattle.esm_tree.specs.Flat.{stmt_part, stmt_of, need_of, IsStmtBelow}
use Rattle.esm_tree.specs.declared.node.StmtNode.{StmtNode}
use Rattle.esm_values.specs.Code.{CodeValue, value_of}
use Rattle.esm_expr_eval.specs.Machine.{rest_of}
use Rattle.esm_rewriting.specs.Scopes.{Scope}
use Rattle.esm_rewriting.specs.Rest.{Part, Rest, end, more}
use Rattle.esm_rewriting.specs.Rest.{Part as parts}
use Rattle.esm_body.specs.Code.{name_in, bound_name, scope_of_level, use_of, awaited_by, part_of, in_front, trying, context_by, contexts_of, innermost, IsWork, AreLevels}
use Rattle.esm_rewriting.specs.Contexts.{caught_in, surrounded}
use Rattle.esm_body.specs.Inner.Remainders.{IsLast}
use Rattle.esm_base.specs.declared.limits.Limit.{Limit}
use Rattle.esm_values.specs.declared.value.Value.{Value}
use Rattle.esm_values.specs.Plans.Rewritten.{Goes, Leaves}
use Rattle.esm_rewriting.specs.BodyRewriting.{On}
use Rattle.esm_base.specs.declared.memory.Memory.{Memory}
use Rattle.esm_body.specs.declared.work.Work.{Work}
use Rattle.esm_body.specs.declared.work.Kind.{Kind}
use Rattle.esm_body.specs.declared.work.Kind.TheVariants as k
use Rattle.esm_body.specs.declared.work.Level.{Level}
use Rattle.esm_body.specs.declared.work.Doing.{Doing}

-- the scopes round the code, the innermost first. The outermost level has none
abbrev pub scopes_round : List Level → List (Scope CodeValue)
scopes_round [] = []
scopes_round (l ∷ []) = []
scopes_round (l ∷ m ∷ ls) = scopes_round (m ∷ ls) ++ scope_of_level m ∷ []

module _ (stmts : List Statement) where
  abbrev pub tries : Statement → Rest CodeValue → Part CodeValue
  tries (x.Try ss handler) rest = parts.Tries rest None handler
  tries (x.TryCatch ss name handler) rest = parts.Tries rest (Some name) handler
  tries _ rest = parts.Tries rest None nothing

  abbrev pub part_by : Kind → Scope CodeValue → Rest CodeValue → Part CodeValue
  part_by k.Block scope rest = parts.In scope rest
  part_by (k.Tries id) scope rest = tries (stmt_part stmts id) (more (parts.In scope rest) end)

  -- an inner level stands in front of what remains of the outer one
  abbrev pub levels_rest : List Level → Rest CodeValue
  levels_rest [] = end
  levels_rest (l ∷ []) = in_front stmts l.work end
  levels_rest (l ∷ m ∷ ls) = more (part_by m.kind (scope_of_level m) (levels_rest (m ∷ ls))) (in_front stmts l.work end)

-- the innermost level has become this, and what is round it is as before
abbrev pub IsFront : List Statement → List Level → List Level → Rest CodeValue → Type 0
IsFront stmts old new r = (contexts_of stmts new ≡ contexts_of stmts old) × (innermost stmts new ≡ r) × (0 < length new)

-- the statement with this number declares these bindings
abbrev pub AreNamed : List Statement → StmtId → Bindings → Type 0
AreNamed stmts id bs = (n : ℕ) → bound_name (stmt_part stmts id) n ≡ name_in bs n

-- an expression under way, for what its value is
abbrev pub doing_part : List Statement → Doing → Part CodeValue
doing_part stmts d = parts.Does (awaited_by stmts d.awaits (use_of stmts d.purpose)) (rest_of d.frame)

-- what remains has become this, in what is round the innermost level
abbrev pub Becomes : List Statement → List Level → List Level → Rest CodeValue → Type 0
Becomes stmts old new r = levels_rest stmts new ≡ surrounded (contexts_of stmts old) r

-- the next part of a level was taken, if it has one
abbrev pub IsPopped : Level → Option Work → Level → Type 0
IsPopped old one new = IsLast old.work one new.work × (new.kind ≡ old.kind) × (new.slots ≡ old.slots)

-- the next part of the innermost level was taken, if it has one
abbrev pub IsTaken : List Statement → List Level → Option Work → List Level → Type 0
IsTaken stmts old None new = (innermost stmts old ≡ end) × IsFront stmts old new end × (length new ≡ length old)
    × ((n : ℕ) → AreLevels n old → AreLevels n new)
IsTaken stmts old (Some one) new = (innermost stmts old ≡ more (part_of stmts one) (innermost stmts new))
    × IsFront stmts old new (innermost stmts new)
    × (length new ≡ length old) × ((n : ℕ) → AreLevels n old → IsWork n one × AreLevels n new)

-- the node of the statement with this number in a tree
pub record IsNodeOf (tree : x.Parts) (id : StmtId) (node : StmtNode) : Type 0 where
  pub part : stmt_part tree.stmts id ≡ stmt_of tree.exprs tree.stmts node
  pub need : need_of node ≤ length tree.exprs
  pub below : IsStmtBelow id.0 node

-- the innermost level, which was begun for this, was taken off
pub record IsLeft (stmts : List Statement) (old : List Level) (kind : Kind) (new : List Level) : Type 0 where
  pub scope : Scope CodeValue
  pub contexts : contexts_of stmts old ≡ context_by stmts kind scope (innermost stmts new) ∷ contexts_of stmts new
  pub some : 0 < length new

-- a throw leads to the handler, which has begun, or out with the value
abbrev pub IsCaught : List Statement → List Level → Value → Result (Option Value) Memory → List Level → Type 0
IsCaught stmts old v (Ok None) new = caught_in {S = Limit} (contexts_of stmts old) (value_of v) ≡ On (Goes (levels_rest stmts new))
IsCaught stmts old v (Ok (Some u)) new = (caught_in {S = Limit} (contexts_of stmts old) (value_of v) ≡ On (Leaves (value_of v))) × (u ≡ v)
IsCaught stmts old v (Err why) new = Unit {0}

-- the handler of a `try`, and the name that it catches
abbrev pub handler_of : Statement → Stmts
handler_of (x.Try ss handler) = handler
handler_of (x.TryCatch ss name handler) = handler
handler_of _ = nothing

abbrev pub caught_of : Statement → Option (List ℕ)
caught_of (x.TryCatch ss name handler) = Some name
caught_of _ = None

abbrev pub told_name : Option (Bor (List ℕ)) → Option (List ℕ)
told_name None = None
told_name (Some r) = Some r.now

-- the handler of this statement has begun, as that of a `try` round the innermost level
abbrev pub IsHandled : List Statement → List Level → Statement → CodeValue → Result (Unit {0}) Memory → List Level → Type 0
IsHandled stmts old s v (Ok u) new = (scope : Scope CodeValue)
    → caught_in {S = Limit} (trying stmts s scope (innermost stmts old) ∷ contexts_of stmts old) v
    ≡ On (Goes (levels_rest stmts new))
IsHandled stmts old s v (Err why) new = Unit {0}
