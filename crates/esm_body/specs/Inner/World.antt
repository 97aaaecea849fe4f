-- Code under way as a world of expressions: each call on it is one of the definitions, where it is ready for it.
use Rattle.std.specs.Prelude.{◌≡◌, ℕ, nat_eq, Bool, true, List, [], ◌∷◌, Result, Ok, Err, ⊤}
use Rattle.esm_base.specs.declared.limits.Limit.{Limit}
use Rattle.esm_values.specs.Value.{Value}
use Rattle.esm_values.specs.Acts.{Act, AnswerTo}
use Rattle.esm_values.specs.Acts.{Act as act}
use Rattle.esm_promise.specs.Outer.{Outer}
use Rattle.esm_env.specs.Modules.{Modules}
use Rattle.esm_env.specs.Calls.{scopes_of}
use Rattle.esm_env.specs.Faithful.{AreScopesOf}
use Rattle.esm_rewriting.specs.State.{State, Importing}
use Rattle.esm_rewriting.specs.Acts.{Inner, Performs}
use Rattle.esm_rewriting.specs.Fits.{FitsState, HoldScopes, Knows}
use Rattle.esm_body.specs.View.{state_of}
use Rattle.esm_body.specs.Inner.Stack.{scopes_round}
use Rattle.esm_rewriting.specs.declared.stop.Stop.{Stop}
use Rattle.esm_rewriting.specs.declared.stop.Stop.TheVariants as stops
use Rattle.esm_body.specs.declared.inside.Inside.{Inside}
use Rattle.esm_body.specs.declared.work.Activation.{Activation}

-- what code under way reads and writes
abbrev pub state_in : {I S : Type 0} → (I → S) → Inside I → State ℕ S
state_in seen w = state_of w.engine.now (scopes_of w.envs.now) w.promises.now w.errors.now (seen w.imports.now)

abbrev pub inner_of : {I S : Type 0} → (I → S) → Inside I → Inner ℕ S
inner_of seen w = record { scopes = scopes_round w.code.now.levels.items; state = state_in seen w }

-- it holds this code
abbrev pub with_code : {I : Type 0} → Inside I → Activation → Inside I
with_code w a = record w { code = record w.code { now = a } }

-- the URL that is given of the module in which the code stands written
abbrev pub url_inside : {I : Type 0} → (I → ℕ → List ℕ) → Inside I → List ℕ
url_inside urls w = urls w.imports.now w.code.now.at.0

-- it holds the same code still, the same cells of modules and bodies at their awaits, and the same loans
pub record IsSame {I : Type 0} (w after : Inside I) : Type 0 where
  pub now : after.code.now ≡ w.code.now
  pub code : after.code.ghost_name ≡ w.code.ghost_name
  pub alloc : after.alloc ≡ w.alloc
  pub engine : after.engine.ghost_name ≡ w.engine.ghost_name
  pub standing : after.engine.now.standing ≡ w.engine.now.standing
  pub errors : after.errors.ghost_name ≡ w.errors.ghost_name
  pub envs : after.envs ≡ w.envs
  pub promises : after.promises.ghost_name ≡ w.promises.ghost_name
  pub imports : after.imports.ghost_name ≡ w.imports.ghost_name

abbrev pub AllKnown : {V : Type 0} → (V → Type 0) → List V → Type 0
AllKnown Knows [] = ⊤
AllKnown Knows (v ∷ vs) = Knows v × AllKnown Knows vs

-- the values that are handed in are known
abbrev pub KnowsAct : {V : Type 0} → (V → Type 0) → Act V → Type 0
KnowsAct Knows (act.Read x) = ⊤
KnowsAct Knows (act.Member v x) = Knows v
KnowsAct Knows (act.Display v) = Knows v
KnowsAct Knows (act.Print vs) = AllKnown Knows vs
KnowsAct Knows (act.Fault kind message) = ⊤
KnowsAct Knows (act.Step n) = ⊤
KnowsAct Knows (act.Import v) = Knows v

-- whether a call may find that memory has run out: a step takes none
abbrev pub MayLackMemory : {V : Type 0} → Act V → Type 0
MayLackMemory (act.Read x) = ⊤
MayLackMemory (act.Member v x) = ⊤
MayLackMemory (act.Display v) = ⊤
MayLackMemory (act.Print vs) = ⊤
MayLackMemory (act.Fault kind message) = ⊤
MayLackMemory (act.Step n) = ⊥
MayLackMemory (act.Import v) = ⊤

-- seen is what contracts see of the importer
module _ {I S : Type 0} (seen : I → S) (modules : S → Modules ℕ) (linked : S → ℕ → Bool) (fits : Outer ℕ S → Type 0)
    (begins : Importing ℕ S) where
  abbrev pub HasScopes : Inside I → Type 0
  HasScopes w = AreScopesOf (modules (seen w.imports.now)) (linked (seen w.imports.now)) (scopes_of w.envs.now)

  -- its state fits, and what it reads was made
  pub record CodeIsWhole (w : Inside I) : Type 0 where
    pub state : FitsState modules linked fits (state_in seen w)
    pub scopes : HoldScopes (Knows modules linked (seen w.imports.now)) (scopes_round w.code.now.levels.items)
    pub home : linked (seen w.imports.now) w.code.now.at.0 ≡ true
    pub made : HasScopes w

  abbrev pub Answers : (w : Inside I) → (a : Act (Value ℕ)) → Result (AnswerTo a) Limit → Inside I → Type 0
  Answers w a r after = IsSame w after × (CodeIsWhole w → KnowsAct (Knows modules linked (seen w.imports.now)) a
      → Performs nat_eq modules begins w.code.now.at.0 (inner_of seen w) a r (inner_of seen after) × HasScopes after)

  -- each call is one of the definitions, but where memory ran out
  abbrev pub ActsInside : Inside I → (a : Act (Value ℕ)) → Result (AnswerTo a) Stop → Inside I → Type 0
  ActsInside w a (Ok answer) after = Answers w a (Ok answer) after
  ActsInside w a (Err (stops.Limit limit)) after = Answers w a (Err limit) after
  ActsInside w a (Err stops.Memory) after = MayLackMemory a
