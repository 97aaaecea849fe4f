-- Bodies that go on: what is asked, where a segment ends, and what follows its end.
use Rattle.std.specs.Prelude.{◌≡◌, ℕ, nat_eq, Bool, true, List, [], ◌∷◌, ◌++◌, length, Some, Result, Ok, Err, ⊤}
use Rattle.std.specs.Arc.{arc_value}
use Rattle.esm_values.specs.Code.{CodeValue, value_of}
use Rattle.esm_values.specs.declared.value.PromiseId.{PromiseId}
use Rattle.esm_values.specs.declared.value.Value.{Value}
use Rattle.esm_values.specs.declared.value.Ran.{Ran}
use Rattle.esm_values.specs.Code.{ran_of}
use Rattle.esm_values.specs.Plans.{Rewritten as comes}
use Rattle.esm_promise.specs.Promises.{Settled}
use Rattle.esm_promise.specs.Outer.{Outer}
use Rattle.esm_env.specs.Declarations.{body_of}
use Rattle.esm_env.specs.Modules.{Modules}
use Rattle.esm_env.specs.Scopes.{Scopes, scope_in}
use Rattle.esm_env.specs.declared.scope.ModuleScope.{ModuleScope}
use Rattle.esm_rewriting.specs.Rest.{Rest, whole, fill_rest}
use Rattle.esm_rewriting.specs.State.{State, Importing}
use Rattle.esm_rewriting.specs.Bodies.{given_by, segment_end, body_end}
use Rattle.esm_rewriting.specs.BodyRewriting.{On}
use Rattle.esm_rewriting.specs.Segment.{Segment}
use Rattle.esm_rewriting.specs.Segment.{Ended as ends}
use Rattle.esm_rewriting.specs.Fits.{FitsRun}
use Rattle.esm_env.specs.Faithful.{AreScopesOf}
use Rattle.esm_body.specs.Inner.Calls.{Remains}
use Rattle.esm_rewriting.specs.Chains.{Comes}
use Rattle.esm_body.specs.Inner.Running.{EndBelongs, IsEnded, ended_of}
use Rattle.esm_body.specs.Code.{Belongs, standing_rest, IsCode}
use Rattle.esm_body.specs.Inner.Turn.{SameCode, code_rest, used}
use Rattle.esm_body.specs.Inner.World.{state_in, with_code}
use Rattle.esm_body.specs.declared.ends.Halt.{Halt}
use Rattle.esm_body.specs.declared.inside.Inside.{Inside}
use Rattle.esm_rewriting.specs.declared.stop.Stop.{Stop}
use Rattle.esm_rewriting.specs.declared.stop.Stop.TheVariants as stops
use Rattle.esm_body.specs.declared.segment.Ended.{Ended}
use Rattle.esm_body.specs.declared.segment.Ended.TheVariants as e
use Rattle.esm_body.specs.declared.turn.Outcome.{Outcome}
use Rattle.esm_body.specs.declared.turn.Outcome.TheVariants as o
use Rattle.esm_body.specs.declared.work.Activation.{Activation}
use Rattle.esm_body.specs.declared.work.Standing.{Standing}
use Rattle.esm_body.specs.declared.work.Use.{Use}

abbrev pub HasScopeOf : Scopes → ℕ → Type 0
HasScopeOf e m = (s : ModuleScope) × (scope_in e m ≡ Some s)

-- the body of the module with this scope, from its start
abbrev pub IsBegun : Scopes → ℕ → Activation → Type 0
IsBegun e m a = (s : ModuleScope) × (scope_in e m ≡ Some s) × Remains (arc_value s.tree) m (whole (body_of (arc_value s.tree).items)) a

-- what remains behind an await
abbrev pub behind_rest : Activation → Use → Settled CodeValue → Rest CodeValue
behind_rest a purpose how = fill_rest (given_by how) (standing_rest a purpose)

-- ---- segments

module _ {S : Type 0} (modules : S → Modules ℕ) (linked : S → ℕ → Bool) (fits : Outer ℕ S → Type 0) where
  -- this remains of a body, which may go on
  pub record FitsBody (w : State ℕ S) (e : Scopes) (a : Activation) (rest : Rest CodeValue) (awaits : Bool) : Type 0 where
    pub run : FitsRun modules linked fits w a.at.0 awaits rest []
    pub made : AreScopesOf (modules w.outer.imports) (linked w.outer.imports) e
    pub belongs : Belongs modules w.outer.imports a rest

  abbrev pub MayGoOn : State ℕ S → Scopes → Activation → Rest CodeValue → Type 0
  MayGoOn w e a rest = (awaits : Bool) × FitsBody w e a rest awaits

module _ {S : Type 0} (modules : S → Modules ℕ) (linked : S → ℕ → Bool) (begins : Importing ℕ S) where
  -- the body has come to the end of a segment
  pub record Halts (w : State ℕ S) (a : Activation) (rest : Rest CodeValue) (halt : Halt) (after : State ℕ S) (e : Scopes) : Type 0 where
    pub runs : Segment nat_eq modules begins w a.at.0 rest [] (ended_of halt.ended halt.body) after
    pub at : halt.body.at ≡ a.at
    pub code : IsCode halt.body
    pub ended : IsEnded (length (arc_value halt.body.tree).stmts) halt.ended
    pub belongs : EndBelongs modules after.outer.imports halt.ended halt.body
    pub made : AreScopesOf (modules after.outer.imports) (linked after.outer.imports) e
    pub trees : (m : ℕ) → linked w.outer.imports m ≡ true
        → (modules after.outer.imports).tree m ≡ (modules w.outer.imports).tree m

  -- or a limit was passed; where memory ran out, nothing is said
  abbrev pub WentOn : State ℕ S → Activation → Rest CodeValue → Result Halt Stop → State ℕ S → Scopes → Type 0
  WentOn w a rest (Ok halt) after e = Halts w a rest halt after e
  WentOn w a rest (Err (stops.Limit limit)) after e = Segment nat_eq modules begins w a.at.0 rest [] (ends.Stopped limit) after
  WentOn w a rest (Err stops.Memory) after e = Unit {0}

-- ---- what an await is given

-- nothing but the code has changed, of which this remains now
pub record GoesOnWith {I : Type 0} (w : Inside I) (rest : Rest CodeValue) (after : Inside I) : Type 0 where
  pub others : after ≡ with_code w after.code.now
  pub same : SameCode w.code.now after.code.now o.On
  pub left : code_rest after.code.now ≡ rest

abbrev pub GivesUse : {I : Type 0} → Inside I → Use → Value → Result Outcome Stop → Inside I → Type 0
GivesUse w purpose v (Ok o.On) after = GoesOnWith w (used w.code.now purpose v) after
GivesUse w purpose v (Ok o.Done) after = ⊥
GivesUse w purpose v (Ok (o.Returns u)) after = ⊥
GivesUse w purpose v (Ok (o.Thrown u)) after = ⊥
GivesUse w purpose v (Ok (o.Calls f vs d)) after = ⊥
GivesUse w purpose v (Ok (o.Waits u p)) after = ⊥
GivesUse w purpose v (Err (stops.Limit limit)) after = ⊥
GivesUse w purpose v (Err stops.Memory) after = Unit {0}

module _ {I S : Type 0} (seen : I → S) (modules : S → Modules ℕ) (begins : Importing ℕ S) where
  -- what remains comes to this outcome, and the state stays
  abbrev pub MovesOn : Inside I → Rest CodeValue → Outcome → Activation → Type 0
  MovesOn w rest o.On now =
      Comes nat_eq modules begins w.code.now.at.0 (state_in seen w) rest (On (comes.Goes (code_rest now))) (state_in seen w)
  MovesOn w rest o.Done now = ⊥
  MovesOn w rest (o.Returns v) now = ⊥
  MovesOn w rest (o.Thrown v) now =
      Comes nat_eq modules begins w.code.now.at.0 (state_in seen w) rest (On (comes.Leaves (value_of v))) (state_in seen w)
  MovesOn w rest (o.Calls f vs d) now = ⊥
  MovesOn w rest (o.Waits v p) now = ⊥

  pub record CameTo (w : Inside I) (rest : Rest CodeValue) (out : Outcome) (after : Inside I) : Type 0 where
    pub others : after ≡ with_code w after.code.now
    pub same : SameCode w.code.now after.code.now out
    pub moves : MovesOn w rest out after.code.now

  abbrev pub GivenBy : Inside I → Rest CodeValue → Result Outcome Stop → Inside I → Type 0
  GivenBy w rest (Ok out) after = CameTo w rest out after
  GivenBy w rest (Err (stops.Limit limit)) after = ⊥
  GivenBy w rest (Err stops.Memory) after = Unit {0}

-- ---- ends

-- what follows the end of a segment of a body that awaits
abbrev pub EndsSegment : {I : Type 0} → (ℕ → List ℕ) → ℕ → ℕ → Halt → State ℕ I → Result (Unit {0}) Stop → State ℕ I → Type 0
EndsSegment url m done halt w (Ok u) after = segment_end url m done (ended_of halt.ended halt.body) w ≡ (Ok tt, after)
EndsSegment url m done halt w (Err (stops.Limit limit)) after =
    segment_end url m done (ended_of halt.ended halt.body) w ≡ (Err limit, after)
EndsSegment url m done halt w (Err stops.Memory) after = Unit {0}

-- the bodies at their awaits then
abbrev pub StandsBehind : List Standing → PromiseId → Ended → Activation → List Standing → Type 0
StandsBehind ss done e.Normal body new = new ≡ ss
StandsBehind ss done (e.Thrown v) body new = new ≡ ss
StandsBehind ss done (e.Awaits v purpose) body new = new ≡ ss ++ record { done = done; body = body; purpose = purpose } ∷ []

-- it stands at no await
abbrev pub IsFinal : Ended → Type 0
IsFinal e.Normal = ⊤
IsFinal (e.Thrown v) = ⊤
IsFinal (e.Awaits v purpose) = ⊥

-- what follows the end of a body that doesn't await
abbrev pub EndsBody : {I : Type 0} → (ℕ → List ℕ) → ℕ → Ended → Activation → State ℕ I → Result Ran Stop → State ℕ I → Type 0
EndsBody url m ended now w (Ok how) after = body_end url m (ended_of ended now) w ≡ Some (Ok (ran_of how), after)
EndsBody url m ended now w (Err (stops.Limit limit)) after = body_end url m (ended_of ended now) w ≡ Some (Err limit, after)
EndsBody url m ended now w (Err stops.Memory) after = Unit {0}
