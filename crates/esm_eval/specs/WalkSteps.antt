-- What the single steps of a walk say: those of the trait Desk; and where an evaluation may begin.
use Rattle.std.specs.Prelude.{◌≡◌, ◌<◌, ◌≤◌, ◌||◌, ℕ, Bool, true, nat_eq, List, Option, Some, None, Result, Ok, Err, ⊤}
use Rattle.esm_base.specs.Lists.{is_in}
use Rattle.esm_values.specs.Code.{CodeValue, value_of}
use Rattle.esm_values.specs.declared.value.Value.{Value}
use Rattle.esm_eval.specs.Nodes.{was_entered}
use Rattle.esm_eval.specs.Evaluation.{phase, root_of, error_of, wait_on, add_wait}
use Rattle.esm_eval.specs.Evaluate.{Ends, Throws, Stops, Leaves, fail}
use Rattle.esm_eval.specs.Calls.{CodeEvaluation, CodeCalls, numbered}
use Rattle.esm_eval.specs.declared.walk.Cut.{Cut}
use Rattle.esm_eval.specs.declared.walk.Cut.TheVariants as cuts

-- an evaluation has entered x
abbrev pub is_entered : {W : Type 0} → CodeEvaluation W → W → ℕ → Bool
is_entered E w x = was_entered (phase E w x)

-- and each of these
abbrev pub AllEntered : {W : Type 0} → CodeEvaluation W → W → List ℕ → Type 0
AllEntered E w xs = (y : ℕ) → is_in nat_eq xs y ≡ true → is_entered E w y ≡ true

module _ {W : Type 0} (knows : W → CodeValue → Type 0) where
  -- what was known is known still
  abbrev pub StillKnows : W → W → Type 0
  StillKnows w v = (u : CodeValue) → knows w u → knows v u

  -- an error, where there is one, is known
  abbrev pub KnowsError : W → Option Value → Type 0
  KnowsError w None = ⊤
  KnowsError w (Some e) = knows w (value_of e)

module _ {W : Type 0} (fits : W → Type 0) (knows : W → CodeValue → Type 0) where
  -- what a part of a walk leaves fits, and what it throws is known. After a stop or want of memory nothing is said
  abbrev pub LeavesFit : {A S : Type 0} → Result A (Cut S) → W → Type 0
  LeavesFit (Ok a) v = fits v
  LeavesFit (Err (cuts.Thrown e)) v = fits v × knows v (value_of e)
  LeavesFit (Err (cuts.Stopped why)) v = ⊤
  LeavesFit (Err cuts.Memory) v = ⊤

module _ {W : Type 0} (E : CodeEvaluation W) (linked : W → ℕ → Bool) (left : W → ℕ) where
  -- the modules that are linked stay so, with their targets; what was entered stays so, and no more are left to enter
  pub record IsSteadyStep (w v : W) : Type 0 where
    pub same : (y : ℕ) → linked w y ≡ true → E.targets v y ≡ E.targets w y
    pub grows : (y : ℕ) → linked w y ≡ true → linked v y ≡ true
    pub stays : (y : ℕ) → is_entered E w y ≡ true → is_entered E v y ≡ true
    pub less : left v ≤ left w

  -- so does a step that enters no module
  pub record Keeps (w v : W) : Type 0 where
    pub steady : IsSteadyStep w v
    pub phases : (y : ℕ) → is_entered E v y ≡ is_entered E w y

  -- and one that enters x
  pub record Opens (w : W) (x : ℕ) (v : W) : Type 0 where
    pub steady : IsSteadyStep w v
    pub fewer : left v < left w
    pub phases : (y : ℕ) → is_entered E v y ≡ (nat_eq y x || is_entered E w y)

  -- these modules are linked and have targets among them alone, and x is one of them
  pub record Within (modules : List ℕ) (w : W) (x : ℕ) : Type 0 where
    pub short : (y : ℕ) → is_in nat_eq modules y ≡ true → linked w y ≡ true
    pub whole : (y t : ℕ) → is_in nat_eq modules y ≡ true → is_in nat_eq (E.targets w y) t ≡ true → is_in nat_eq modules t ≡ true
    pub inside : is_in nat_eq modules x ≡ true

  -- an evaluation may begin at m: so does its root, and finitely many modules have been entered
  pub record IsWhole (modules : List ℕ) (w : W) (m : ℕ) : Type 0 where
    pub within : Within modules w (root_of (numbered E) w m)
    pub closed : List ℕ
    pub closed_is : (y : ℕ) → is_in nat_eq closed y ≡ is_entered E w y

  module _ {S : Type 0} (acts : CodeCalls W S) where
    -- the target t of a request of x was visited: its error cuts the walk, or x waits for it where it has to
    abbrev pub PassesBy : W → List ℕ → ℕ → ℕ → Result (Unit {0}) (Cut S) → W → Type 0
    PassesBy w opened x t (Ok u) v =
        (error_of (numbered E) w t ≡ None) × (v ≡ add_wait (numbered E) w x (wait_on (numbered E) w t)) × Keeps w v
    PassesBy w opened x t (Err (cuts.Thrown e)) v =
        (error_of (numbered E) w t ≡ Some (value_of e)) × (v ≡ fail (numbered E) w (value_of e) opened)
    PassesBy w opened x t (Err (cuts.Stopped why)) v = ⊥
    PassesBy w opened x t (Err cuts.Memory) v = Unit {0}

    -- x is left, and what is open fails where its body throws
    abbrev pub LeavesBy : W → List ℕ → ℕ → Result (Unit {0}) (Cut S) → W → Type 0
    LeavesBy w opened x (Ok u) v = Leaves (numbered E) acts w x Ends v × Keeps w v
    LeavesBy w opened x (Err (cuts.Thrown e)) v =
        (mid : W) × Leaves (numbered E) acts w x (Throws (value_of e)) mid × (v ≡ fail (numbered E) mid (value_of e) opened)
    LeavesBy w opened x (Err (cuts.Stopped why)) v = Leaves (numbered E) acts w x (Stops why) v
    LeavesBy w opened x (Err cuts.Memory) v = Unit {0}
