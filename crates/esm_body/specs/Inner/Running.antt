-- A body under way, and what follows its outcomes: it goes on, with the value of a function that it called, or its segment ends.
use Rattle.std.specs.Prelude.{◌≡◌, ◌<◌, ◌≤◌, ℕ, nat_eq, Bool, true, [], length, Option, Some, Result, Ok, Err, ⊤}
use Rattle.std.specs.Arc.{arc_value}
use Rattle.esm_base.specs.declared.limits.TheConstants.{MAX_STEPS}
use Rattle.esm_values.specs.Code.{CodeValue, value_of, values_of, func_value}
use Rattle.esm_expr_eval.specs.Terms.{Term, fill}
use Rattle.esm_expr_eval.specs.Terms.Term.{Val, Fails}
use Rattle.esm_expr_eval.specs.Machine.{rest_of}
use Rattle.esm_promise.specs.Outer.{Outer}
use Rattle.esm_env.specs.Modules.{Modules}
use Rattle.esm_rewriting.specs.Rest.{Rest}
use Rattle.esm_rewriting.specs.Rest.{Part as parts}
use Rattle.esm_rewriting.specs.State.{State, Importing}
use Rattle.esm_rewriting.specs.Segment.{Next, Over, Segment, next_by}
use Rattle.esm_rewriting.specs.Segment.{Ended as ended}
use Rattle.esm_rewriting.specs.Fits.{FitsRun, Knows}
use Rattle.esm_rewriting.specs.Chains.{EndsSo, IsFitNext}
use Rattle.esm_rewriting.specs.Sets.{IsNameOf, SetsMove}
use Rattle.esm_row_machine.specs.Outside.{AllKnown}
use Rattle.esm_row_machine.specs.declared.rows.Rows.{Rows}
use Rattle.esm_body.specs.Code.{in_front_of, standing_rest, awaited_by, use_of, Belongs, IsCode, IsUse}
use Rattle.esm_body.specs.Inner.Functions.{AreRowsOf, steps_of}
use Rattle.esm_body.specs.Inner.Turn.{IsCalling, Keeps, Came, code_rest, move_of}
use Rattle.esm_body.specs.Inner.World.{state_in, HasScopes}
use Rattle.esm_body.specs.declared.inside.Inside.{Inside}
use Rattle.esm_rewriting.specs.declared.stop.Stop.{Stop}
use Rattle.esm_rewriting.specs.declared.stop.Stop.TheVariants as stops
use Rattle.esm_body.specs.declared.segment.Ended.{Ended}
use Rattle.esm_body.specs.declared.segment.Ended.TheVariants as e
use Rattle.esm_body.specs.declared.segment.Place.{Place}
use Rattle.esm_body.specs.declared.segment.Place.TheVariants as p
use Rattle.esm_body.specs.declared.segment.Next.{Next as CodeNext}
use Rattle.esm_body.specs.declared.segment.Next.TheVariants as n
use Rattle.esm_body.specs.declared.turn.Outcome.{Outcome}
use Rattle.esm_body.specs.declared.turn.Outcome.TheVariants as o
use Rattle.esm_body.specs.declared.work.Activation.{Activation}
use Rattle.esm_body.specs.declared.work.Doing.{Doing}

-- this stands for the call of the expression from now on
abbrev pub doing_filled : Activation → Doing → Term CodeValue → Rest CodeValue
doing_filled a d given =
    in_front_of a (parts.Does (awaited_by (arc_value a.tree).stmts d.awaits (use_of (arc_value a.tree).stmts d.purpose))
    (fill given (rest_of d.frame)))

abbrev pub place_rest : Activation → Place → Rest CodeValue
place_rest now p.Turn = code_rest now
place_rest now (p.Gives d v) = doing_filled now d.value (Val (value_of v))
place_rest now (p.Throws d v) = doing_filled now d.value (Fails (value_of v))

abbrev pub IsPlace : ℕ → Place → Type 0
IsPlace n p.Turn = ⊤
IsPlace n (p.Gives d v) = IsCalling n d.value
IsPlace n (p.Throws d v) = IsCalling n d.value

abbrev pub ended_of : Ended → Activation → ended ℕ
ended_of e.Normal now = ended.Normal
ended_of (e.Thrown v) now = ended.Thrown (value_of v)
ended_of (e.Awaits v purpose) now = ended.Awaiting (value_of v) (standing_rest now purpose)

abbrev pub IsEnded : ℕ → Ended → Type 0
IsEnded n e.Normal = ⊤
IsEnded n (e.Thrown v) = ⊤
IsEnded n (e.Awaits v purpose) = IsUse n purpose

-- ---- over the modules that are there

module _ {S : Type 0} (modules : S → Modules ℕ) where
  -- a body that stands at an await is its module's
  abbrev pub EndBelongs : S → Ended → Activation → Type 0
  EndBelongs i e.Normal now = ⊤
  EndBelongs i (e.Thrown v) now = ⊤
  EndBelongs i (e.Awaits v purpose) now = Belongs modules i now (standing_rest now purpose)

-- ---- what runs

module _ {I S : Type 0} (seen : I → S) (modules : S → Modules ℕ) (linked : S → ℕ → Bool) (fits : Outer ℕ S → Type 0)
    (begins : Importing ℕ S) where
  -- each row is that of a function of a linked module
  abbrev pub HasRows : Inside I → Rows → Type 0
  HasRows w rows = AreRowsOf modules linked (seen w.imports.now) rows

  -- this runs
  pub record Running (w : Inside I) (awaits : Bool) (rest : Rest CodeValue) : Type 0 where
    pub run : FitsRun modules linked fits (state_in seen w) w.code.now.at.0 awaits rest []
    pub made : HasScopes seen modules linked fits begins w
    pub belongs : Belongs modules (seen w.imports.now) w.code.now rest

  abbrev pub MayRun : Inside I → Rest CodeValue → Type 0
  MayRun w rest = (awaits : Bool) × Running w awaits rest

  abbrev pub next_of : Inside I → Outcome → Option (Next ℕ S)
  next_of w out = next_by nat_eq modules begins w.code.now.at.0 [] (move_of out w.code.now) (state_in seen w)

  -- what follows an outcome
  abbrev pub next_after : Inside I → Outcome → Option (Next ℕ S)
  next_after w o.On = next_of w o.On
  next_after w o.Done = Some (Over ended.Normal (state_in seen w))
  next_after w (o.Returns v) = next_of w (o.Returns v)
  next_after w (o.Thrown v) = next_of w (o.Thrown v)
  next_after w (o.Calls f vs d) = next_of w (o.Calls f vs d)
  next_after w (o.Waits v purpose) = next_of w (o.Waits v purpose)

  -- what follows an outcome of a body ends so
  abbrev pub EndsBehind : Inside I → Outcome → ended ℕ → State ℕ S → Type 0
  EndsBehind w out how after = EndsSo nat_eq modules begins (next_after w out) how after

  abbrev pub SegmentOf : Inside I → Rest CodeValue → ended ℕ → State ℕ S → Type 0
  SegmentOf w rest how after = Segment nat_eq modules begins (state_in seen w) w.code.now.at.0 rest [] how after

  -- what was linked is linked still
  abbrev pub LinksStay : Inside I → Inside I → Type 0
  LinksStay w after = (m : ℕ) → linked (seen w.imports.now) m ≡ true → linked (seen after.imports.now) m ≡ true

  -- code goes on here, behind the code before
  pub record GoesOn (w : Inside I) (spot : Place) (after : Inside I) : Type 0 where
    pub code : IsCode after.code.now
    pub place : IsPlace (length (arc_value after.code.now.tree).stmts) spot
    pub run : MayRun after (place_rest after.code.now spot)
    pub keeps : Keeps seen modules linked fits begins w after
    pub links : LinksStay w after
    pub body : after.code.now.at ≡ w.code.now.at

  -- the segment has ended
  pub record IsOver (w : Inside I) (end : Ended) (after : Inside I) : Type 0 where
    pub code : IsCode after.code.now
    pub ended : IsEnded (length (arc_value after.code.now.tree).stmts) end
    pub belongs : EndBelongs modules (seen after.imports.now) end after.code.now
    pub keeps : Keeps seen modules linked fits begins w after
    pub body : after.code.now.at ≡ w.code.now.at

  -- ---- what follows an outcome

  -- nothing has changed; or a function has run, which takes steps
  abbrev pub Passes : Inside I → Outcome → Place → Inside I → Type 0
  Passes w o.On spot after = (spot ≡ p.Turn) × (after ≡ w)
  Passes w o.Done spot after = ⊥
  Passes w (o.Returns v) spot after = ⊥
  Passes w (o.Thrown v) spot after = ⊥
  Passes w (o.Calls f vs d) spot after = (steps_of w ≤ steps_of after) × (steps_of w ≤ MAX_STEPS → steps_of after ≤ MAX_STEPS)
  Passes w (o.Waits v purpose) spot after = ⊥

  -- what follows an outcome; where memory ran out, nothing is said. Where code that goes on comes to an end, what follows does
  abbrev pub Followed : Inside I → Outcome → Result CodeNext Stop → Inside I → Type 0
  Followed w out (Ok (n.Goes spot)) after =
      ((how : ended ℕ) (end : State ℕ S) → SegmentOf after (place_rest after.code.now spot) how end → EndsBehind w out how end)
      × Passes w out spot after × GoesOn w spot after
  Followed w out (Ok (n.Over how)) after = EndsBehind w out (ended_of how after.code.now) (state_in seen after) × IsOver w how after
  Followed w out (Err (stops.Limit limit)) after =
      EndsBehind w out (ended.Stopped limit) (state_in seen after) × Keeps seen modules linked fits begins w after
  Followed w out (Err stops.Memory) after = Unit {0}

  -- what is called is known, with its values
  abbrev pub KnowsCall : Inside I → Outcome → Type 0
  KnowsCall w o.On = ⊤
  KnowsCall w o.Done = ⊤
  KnowsCall w (o.Returns v) = ⊤
  KnowsCall w (o.Thrown v) = ⊤
  KnowsCall w (o.Calls f vs d) = Knows modules linked (seen w.imports.now) (func_value f)
      × AllKnown (Knows modules linked (seen w.imports.now)) (values_of vs.items)
  KnowsCall w (o.Waits v purpose) = ⊤

  -- what follows fits
  pub record FollowsFit (w : Inside I) (awaits : Bool) (out : Outcome) : Type 0 where
    pub next : IsFitNext modules linked fits awaits (next_after w out)
    pub known : KnowsCall w out
    pub made : HasScopes seen modules linked fits begins w
    pub tree : (modules (seen w.imports.now)).tree w.code.now.at.0 ≡ (arc_value w.code.now.tree).items
    pub sets : SetsMove (IsNameOf (arc_value w.code.now.tree).items) (move_of out w.code.now)

  abbrev pub MayFollow : Inside I → Outcome → Type 0
  MayFollow w out = (awaits : Bool) × FollowsFit w awaits out

  -- ---- from one turn to the next

  -- a segment of what there is now is one of what there was
  abbrev pub LeadsOn : Inside I → Rest CodeValue → Place → Inside I → Type 0
  LeadsOn w rest spot after =
      (how : ended ℕ) (end : State ℕ S) → SegmentOf after (place_rest after.code.now spot) how end → SegmentOf w rest how end

  -- a turn has come to an outcome, which was passed
  abbrev pub Turns : Inside I → Rest CodeValue → Place → Inside I → Type 0
  Turns w rest spot after =
      (mid : Inside I) × ((out : Outcome) × (Came seen modules linked fits begins w rest out mid × Passes mid out spot after))

  -- one turn, and what follows it; where memory ran out, nothing is said
  abbrev pub Went : Inside I → Rest CodeValue → Result CodeNext Stop → Inside I → Type 0
  Went w rest (Ok (n.Goes spot)) after = LeadsOn w rest spot after × Turns w rest spot after × GoesOn w spot after
  Went w rest (Ok (n.Over how)) after = SegmentOf w rest (ended_of how after.code.now) (state_in seen after) × IsOver w how after
  Went w rest (Err (stops.Limit limit)) after =
      SegmentOf w rest (ended.Stopped limit) (state_in seen after) × Keeps seen modules linked fits begins w after
  Went w rest (Err stops.Memory) after = Unit {0}

  -- a step was taken, and no more than may be
  abbrev pub TookStep : Inside I → Inside I → Type 0
  TookStep w after = (steps_of w < steps_of after) × (steps_of after ≤ MAX_STEPS)

  -- turns up to one that took a step, or up to the end
  abbrev pub Stepped : Inside I → Rest CodeValue → Result CodeNext Stop → Inside I → Type 0
  Stepped w rest (Ok (n.Goes spot)) after = LeadsOn w rest spot after × GoesOn w spot after × TookStep w after
  Stepped w rest (Ok (n.Over end)) after = SegmentOf w rest (ended_of end after.code.now) (state_in seen after) × IsOver w end after
  Stepped w rest (Err (stops.Limit limit)) after =
      SegmentOf w rest (ended.Stopped limit) (state_in seen after) × Keeps seen modules linked fits begins w after
  Stepped w rest (Err stops.Memory) after = Unit {0}

  -- a segment: turns up to the end
  abbrev pub Ran : Inside I → Rest CodeValue → Result Ended Stop → Inside I → Type 0
  Ran w rest (Ok end) after = SegmentOf w rest (ended_of end after.code.now) (state_in seen after) × IsOver w end after
  Ran w rest (Err (stops.Limit limit)) after =
      SegmentOf w rest (ended.Stopped limit) (state_in seen after) × Keeps seen modules linked fits begins w after
  Ran w rest (Err stops.Memory) after = Unit {0}

  -- a segment of a body, from an outcome on
  abbrev pub RanBehind : Inside I → Outcome → Result Ended Stop → Inside I → Type 0
  RanBehind w out (Ok end) after = EndsBehind w out (ended_of end after.code.now) (state_in seen after) × IsOver w end after
  RanBehind w out (Err (stops.Limit limit)) after =
      EndsBehind w out (ended.Stopped limit) (state_in seen after) × Keeps seen modules linked fits begins w after
  RanBehind w out (Err stops.Memory) after = Unit {0}
