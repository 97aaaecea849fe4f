-- What a turn of code under way comes to: one or more rewritings of what remains.
use Rattle.std.specs.Prelude.{◌≡◌, ℕ, nat_eq, Bool, true, List, length, Option, None, Result, Ok, Err, ⊤}
use Rattle.std.specs.Arc.{arc_value}
use Rattle.esm_base.specs.declared.limits.Limit.{Limit}
use Rattle.esm_tree.specs.declared.node.StmtId.{StmtId}
use Rattle.esm_tree.specs.Flat.{stmt_part}
use Rattle.esm_values.specs.Code.{CodeValue, value_of, values_of, func_value}
use Rattle.esm_values.specs.declared.value.Value.{Value}
use Rattle.esm_values.specs.Plans.{Rewritten as comes}
use Rattle.esm_expr_eval.specs.Terms.Term.{Val}
use Rattle.esm_expr_eval.specs.Machine.{rest_of, IsSound, with_given}
use Rattle.esm_promise.specs.Outer.{Outer}
use Rattle.esm_env.specs.Calls.{scopes_of}
use Rattle.esm_env.specs.Modules.{Modules}
use Rattle.esm_rewriting.specs.Rest.{Rest, end}
use Rattle.esm_rewriting.specs.Rest.{Part as parts}
use Rattle.esm_rewriting.specs.State.{Importing}
use Rattle.esm_rewriting.specs.BodyRewriting.{RewrittenBody, On, Gives, Waits}
use Rattle.esm_rewriting.specs.Fits.{Kind, HoldsRest, FitsState, Knows}
use Rattle.esm_rewriting.specs.Chains.{Turns}
use Rattle.esm_rewriting.specs.Contexts.{Context, caught_in}
use Rattle.esm_body.specs.SameScopes.{HaveSameScopes}
use Rattle.esm_rewriting.specs.Sets.{IsNameOf, SetsRest}
use Rattle.esm_body.specs.Inner.Stack.{levels_rest, doing_part}
use Rattle.esm_body.specs.Code.{contexts_of, in_front_of, standing_rest, use_of, awaited_by, IsCode, IsUse}
use Rattle.esm_body.specs.Inner.World.{state_in, HasScopes, with_code}
use Rattle.esm_rewriting.specs.declared.stop.Stop.{Stop}
use Rattle.esm_rewriting.specs.declared.stop.Stop.TheVariants as stops
use Rattle.esm_body.specs.declared.inside.Inside.{Inside}
use Rattle.esm_body.specs.declared.turn.Outcome.{Outcome}
use Rattle.esm_body.specs.declared.turn.Outcome.TheVariants as o
use Rattle.esm_body.specs.declared.work.Activation.{Activation}
use Rattle.esm_body.specs.declared.work.Doing.{Doing}
use Rattle.esm_body.specs.declared.work.Use.{Use}

-- ---- what remains

abbrev pub code_rest : Activation → Rest CodeValue
code_rest a = levels_rest (arc_value a.tree).stmts a.levels.items

-- what is round its innermost level
abbrev pub code_contexts : Activation → List (Context CodeValue)
code_contexts a = contexts_of (arc_value a.tree).stmts a.levels.items

-- a value is to be used for this
abbrev pub used : Activation → Use → Value → Rest CodeValue
used a purpose v = in_front_of a (parts.Does (use_of (arc_value a.tree).stmts purpose) (Val (value_of v)))

-- a statement is to begin
abbrev pub unbegun : Activation → StmtId → Rest CodeValue
unbegun a id = in_front_of a (parts.Whole (stmt_part (arc_value a.tree).stmts id))

-- an expression is under way, to whose call this value was given
abbrev pub doing_given : Activation → Doing → Option Value → Rest CodeValue
doing_given a d given =
    in_front_of a (parts.Does (awaited_by (arc_value a.tree).stmts d.awaits (use_of (arc_value a.tree).stmts d.purpose))
    (with_given given (rest_of d.frame)))

-- an expression that has called a function
pub record IsCalling (n : ℕ) (d : Doing) : Type 0 where
  pub purpose : IsUse n d.purpose
  pub sound : IsSound d.frame
  pub waits : d.frame.focus ≡ None

-- ---- outcomes

-- what an outcome is, of what remains
abbrev pub move_of : Outcome → Activation → RewrittenBody CodeValue Limit
move_of o.On now = On (comes.Goes (code_rest now))
move_of o.Done now = On (comes.Goes end)
move_of (o.Returns v) now = Gives (value_of v)
move_of (o.Thrown v) now = On (comes.Leaves (value_of v))
move_of (o.Calls f vs d) now =
    On (comes.Calls (func_value f) (values_of vs.items) (in_front_of now (doing_part (arc_value now.tree).stmts d.value)))
move_of (o.Waits v purpose) now = Waits (value_of v) (standing_rest now purpose)

abbrev pub IsOutcome : ℕ → Outcome → Type 0
IsOutcome n o.On = ⊤
IsOutcome n o.Done = ⊤
IsOutcome n (o.Returns v) = ⊤
IsOutcome n (o.Thrown v) = ⊤
IsOutcome n (o.Calls f vs d) = IsCalling n d.value
IsOutcome n (o.Waits v purpose) = IsUse n purpose

-- it reads and writes through the same loans, and the same bodies stand at their awaits
pub record SameLoans {I : Type 0} (w after : Inside I) : Type 0 where
  pub alloc : after.alloc ≡ w.alloc
  pub code : after.code.ghost_name ≡ w.code.ghost_name
  pub engine : after.engine.ghost_name ≡ w.engine.ghost_name
  pub standing : after.engine.now.standing ≡ w.engine.now.standing
  pub errors : after.errors.ghost_name ≡ w.errors.ghost_name
  pub envs : after.envs.ghost_name ≡ w.envs.ghost_name
  pub promises : after.promises.ghost_name ≡ w.promises.ghost_name
  pub imports : after.imports.ghost_name ≡ w.imports.ghost_name

-- the same code has come to this
pub record SameCode (a b : Activation) (out : Outcome) : Type 0 where
  pub at : b.at ≡ a.at
  pub tree : b.tree ≡ a.tree
  pub code : IsCode b
  pub outcome : IsOutcome (length (arc_value b.tree).stmts) out

-- ---- throws

-- a throw leads to the handler of the innermost `try`, or out
abbrev pub LeadsOut : List (Context CodeValue) → Value → Outcome → Activation → Type 0
LeadsOut cs v o.On now = caught_in {S = Limit} cs (value_of v) ≡ On (comes.Goes (code_rest now))
LeadsOut cs v o.Done now = ⊥
LeadsOut cs v (o.Returns u) now = ⊥
LeadsOut cs v (o.Thrown u) now = (caught_in {S = Limit} cs (value_of v) ≡ On (comes.Leaves (value_of v))) × (u ≡ v)
LeadsOut cs v (o.Calls f vs d) now = ⊥
LeadsOut cs v (o.Waits u purpose) now = ⊥

-- nothing but its levels has changed
pub record ThrewTo {I : Type 0} (w : Inside I) (v : Value) (out : Outcome) (after : Inside I) : Type 0 where
  pub rest : after ≡ with_code w after.code.now
  pub same : SameCode w.code.now after.code.now out
  pub leads : LeadsOut (code_contexts w.code.now) v out after.code.now

abbrev pub Threw : {I : Type 0} → Inside I → Value → Result Outcome Stop → Inside I → Type 0
Threw w v (Ok out) after = ThrewTo w v out after
Threw w v (Err (stops.Limit limit)) after = ⊥
Threw w v (Err stops.Memory) after = Unit {0}

-- ---- turns

module _ {I S : Type 0} (seen : I → S) (modules : S → Modules ℕ) (linked : S → ℕ → Bool) (fits : Outer ℕ S → Type 0)
    (begins : Importing ℕ S) where
  -- what was linked keeps its tree
  abbrev pub TreesStay : Inside I → Inside I → Type 0
  TreesStay w after = (m : ℕ) → linked (seen w.imports.now) m ≡ true → (modules (seen after.imports.now)).tree m
      ≡ (modules (seen w.imports.now)).tree m

  -- this may be rewritten, in a body or in a function
  pub record IsReadyFor (w : Inside I) (kind : Kind) (rest : Rest CodeValue) : Type 0 where
    pub state : FitsState modules linked fits (state_in seen w)
    pub home : linked (seen w.imports.now) w.code.now.at.0 ≡ true
    pub holds : HoldsRest (Knows modules linked (seen w.imports.now)) ⊥ kind rest
    pub made : HasScopes seen modules linked fits begins w
    pub tree : (modules (seen w.imports.now)).tree w.code.now.at.0 ≡ (arc_value w.code.now.tree).items
    pub sets : SetsRest (IsNameOf (arc_value w.code.now.tree).items) rest

  abbrev pub MayTurn : Inside I → Rest CodeValue → Type 0
  MayTurn w rest = (kind : Kind) × IsReadyFor w kind rest

  abbrev pub TurnsTo : Inside I → Rest CodeValue → RewrittenBody CodeValue Limit → Inside I → Type 0
  TurnsTo w rest move after = Turns nat_eq modules begins w.code.now.at.0 (state_in seen w) rest move (state_in seen after)

  -- what remains comes to this outcome, or nothing remains
  abbrev pub Moved : Inside I → Rest CodeValue → Outcome → Inside I → Type 0
  Moved w rest o.On after = TurnsTo w rest (move_of o.On after.code.now) after
  Moved w rest o.Done after = (rest ≡ end) × (state_in seen after ≡ state_in seen w)
  Moved w rest (o.Returns v) after = TurnsTo w rest (move_of (o.Returns v) after.code.now) after
  Moved w rest (o.Thrown v) after = TurnsTo w rest (move_of (o.Thrown v) after.code.now) after
  Moved w rest (o.Calls f vs d) after = TurnsTo w rest (move_of (o.Calls f vs d) after.code.now) after
  Moved w rest (o.Waits v purpose) after = TurnsTo w rest (move_of (o.Waits v purpose) after.code.now) after

  pub record Keeps (w after : Inside I) : Type 0 where
    pub made : HasScopes seen modules linked fits begins after
    pub trees : TreesStay w after
    pub scopes : HaveSameScopes (scopes_of w.envs.now) (scopes_of after.envs.now)
    pub loans : SameLoans w after

  pub record Came (w : Inside I) (rest : Rest CodeValue) (out : Outcome) (after : Inside I) : Type 0 where
    pub moved : Moved w rest out after
    pub same : SameCode w.code.now after.code.now out
    pub keeps : Keeps w after

  pub record Halted (w : Inside I) (rest : Rest CodeValue) (limit : Limit) (after : Inside I) : Type 0 where
    pub turns : TurnsTo w rest (On (comes.Stops limit)) after
    pub keeps : Keeps w after

  -- where memory ran out, nothing is said
  abbrev pub Turned : Inside I → Rest CodeValue → Result Outcome Stop → Inside I → Type 0
  Turned w rest (Ok out) after = Came w rest out after
  Turned w rest (Err (stops.Limit limit)) after = Halted w rest limit after
  Turned w rest (Err stops.Memory) after = Unit {0}
