-- What remains of bodies and functions, as the code keeps it, and what it stands for; that its numbers name parts of its tree,
-- and that this is its module's.
use Rattle.std.specs.Prelude.{◌≡◌, ◌<◌, length, ℕ, zero, suc, Bool, true, false, List, [], ◌∷◌, ◌++◌, Some, None}
use Rattle.std.specs.Arc.{arc_value}
use Rattle.esm_base.specs.DefaultExport.{star_default}
use Rattle.esm_tree.specs.Syntax as x
use Rattle.esm_tree.specs.Syntax.{Bindings, no_more, binding, Stmt as Statement, nothing}
use Rattle.esm_tree.specs.Flat.{stmt_part}
use Rattle.esm_values.specs.Code.{CodeValue, value_of}
use Rattle.esm_expr_eval.specs.Terms.Term.{Val}
use Rattle.esm_expr_eval.specs.Machine.{rest_of, IsSound, IsGiven}
use Rattle.esm_env.specs.Modules.{Modules}
use Rattle.esm_rewriting.specs.Scopes.{Scope}
use Rattle.esm_rewriting.specs.Rest.{Part, Rest, end, more}
use Rattle.esm_rewriting.specs.Rest.{Use as Purpose}
use Rattle.esm_rewriting.specs.Rest.{Use as uses}
use Rattle.esm_rewriting.specs.Rest.{Part as parts}
use Rattle.esm_rewriting.specs.Contexts.{Context, Block, Trying, surrounded}
use Rattle.esm_rewriting.specs.Sets.{IsNameOf, SetsRest}
use Rattle.esm_body.specs.Slots.{scope_of_slots}
use Rattle.esm_body.specs.declared.work.Use.{Use}
use Rattle.esm_body.specs.declared.work.Use.TheVariants as u
use Rattle.esm_body.specs.declared.work.Work.{Work}
use Rattle.esm_body.specs.declared.work.Work.TheVariants as w
use Rattle.esm_body.specs.declared.work.Kind.{Kind}
use Rattle.esm_body.specs.declared.work.Kind.TheVariants as k
use Rattle.esm_body.specs.declared.work.Level.{Level}
use Rattle.esm_body.specs.declared.work.Activation.{Activation}

-- ---- what remains

abbrev pub name_in : Bindings → ℕ → List ℕ
name_in no_more n = []
name_in (binding name value bs) zero = name
name_in (binding name value bs) (suc n) = name_in bs n

abbrev pub bound_name : Statement → ℕ → List ℕ
bound_name (x.Const bs) n = name_in bs n
bound_name (x.Let bs) n = name_in bs n
bound_name _ n = []

abbrev pub assigned : Statement → List ℕ
assigned (x.Assign name value) = name
assigned _ = []

abbrev pub chosen : Statement → Purpose
chosen (x.If e ss) = uses.Chooses ss nothing
chosen (x.IfElse e ss others) = uses.Chooses ss others
chosen _ = uses.Drops

abbrev pub scope_of_level : Level → Scope CodeValue
scope_of_level l = scope_of_slots l.slots

module _ (stmts : List Statement) where
  abbrev pub use_of : Use → Purpose
  use_of u.Drops = uses.Drops
  use_of (u.Sets id n) = uses.Sets (bound_name (stmt_part stmts id) n)
  use_of u.Defaults = uses.Sets star_default
  use_of (u.Writes id) = uses.Writes (assigned (stmt_part stmts id))
  use_of u.Throws = uses.Throws
  use_of u.Returns = uses.Returns
  use_of u.Prints = uses.Prints
  use_of (u.Chooses id) = chosen (stmt_part stmts id)

  abbrev pub awaited_by : Bool → Purpose → Purpose
  awaited_by true purpose = uses.Awaits purpose
  awaited_by false purpose = purpose

  abbrev pub part_of : Work → Part CodeValue
  part_of (w.Whole id) = parts.Whole (stmt_part stmts id)
  part_of (w.Does d) = parts.Does (awaited_by d.awaits (use_of d.purpose)) (rest_of d.frame)
  part_of (w.Has purpose v) = parts.Does (use_of purpose) (Val (value_of v))

  -- the last is done first
  abbrev pub in_front : List Work → Rest CodeValue → Rest CodeValue
  in_front [] rest = rest
  in_front (one ∷ others) rest = in_front others (more (part_of one) rest)

module _ (stmts : List Statement) where
  abbrev pub trying : Statement → Scope CodeValue → Rest CodeValue → Context CodeValue
  trying (x.Try ss handler) scope rest = Trying scope None handler rest
  trying (x.TryCatch ss name handler) scope rest = Trying scope (Some name) handler rest
  trying _ scope rest = Trying scope None nothing rest

  abbrev pub context_by : Kind → Scope CodeValue → Rest CodeValue → Context CodeValue
  context_by k.Block scope rest = Block scope rest
  context_by (k.Tries id) scope rest = trying (stmt_part stmts id) scope rest

  -- what is round the innermost level
  abbrev pub contexts_of : List Level → List (Context CodeValue)
  contexts_of [] = []
  contexts_of (l ∷ []) = []
  contexts_of (l ∷ m ∷ ls) = contexts_of (m ∷ ls) ++ context_by m.kind (scope_of_level m) (in_front stmts l.work end) ∷ []

  abbrev pub innermost : List Level → Rest CodeValue
  innermost [] = end
  innermost (l ∷ []) = in_front stmts l.work end
  innermost (l ∷ m ∷ ls) = innermost (m ∷ ls)

-- what remains of this in front of the innermost level
abbrev pub in_front_of : Activation → Part CodeValue → Rest CodeValue
in_front_of a p = surrounded (contexts_of (arc_value a.tree).stmts a.levels.items)
    (more p (innermost (arc_value a.tree).stmts a.levels.items))

-- a body at its await
abbrev pub standing_rest : Activation → Use → Rest CodeValue
standing_rest a purpose = in_front_of a (parts.Stands (use_of (arc_value a.tree).stmts purpose))

-- ---- the numbers name parts of the tree, and each expression can go on

abbrev pub IsUse : ℕ → Use → Type 0
IsUse n u.Drops = Unit {0}
IsUse n (u.Sets id k) = id.0 < n
IsUse n u.Defaults = Unit {0}
IsUse n (u.Writes id) = id.0 < n
IsUse n u.Throws = Unit {0}
IsUse n u.Returns = Unit {0}
IsUse n u.Prints = Unit {0}
IsUse n (u.Chooses id) = id.0 < n

abbrev pub IsWork : ℕ → Work → Type 0
IsWork n (w.Whole id) = id.0 < n
IsWork n (w.Does d) = IsUse n d.purpose × IsSound d.frame × IsGiven None d.frame.focus
IsWork n (w.Has purpose v) = IsUse n purpose

abbrev pub AreWork : ℕ → List Work → Type 0
AreWork n [] = Unit {0}
AreWork n (one ∷ others) = IsWork n one × AreWork n others

abbrev pub IsKind : ℕ → Kind → Type 0
IsKind n k.Block = Unit {0}
IsKind n (k.Tries id) = id.0 < n

abbrev pub AreLevels : ℕ → List Level → Type 0
AreLevels n [] = Unit {0}
AreLevels n (l ∷ ls) = IsKind n l.kind × AreWork n l.work × AreLevels n ls

-- its numbers name parts of its tree, and it has a level
pub record IsCode (a : Activation) : Type 0 where
  pub levels : AreLevels (length (arc_value a.tree).stmts) a.levels.items
  pub some : 0 < length a.levels.items

-- ---- over the modules that are there

module _ {S : Type 0} (modules : S → Modules ℕ) where
  -- its tree is its module's, which declares the names that it sets outside of all blocks
  pub record Belongs (i : S) (a : Activation) (rest : Rest CodeValue) : Type 0 where
    pub tree : (modules i).tree a.at.0 ≡ (arc_value a.tree).items
    pub sets : SetsRest (IsNameOf (arc_value a.tree).items) rest
