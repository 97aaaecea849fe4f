-- What evaluation keeps of modules. ECMA-262, Cyclic Module Records. Modules have names of any kind N, bodies throw values of any kind V.
use Rattle.std.specs.Prelude.{ℕ, Bool, true, false, List, [], Option, None, Result}
use Rattle.esm_values.specs.Ran.{Ran}

-- how far the evaluation of a module has come. The standard's seven values of [[Status]] are read off thus: a module that no evaluation
-- has entered is new, unlinked, linking or linked, as loading and linking say; evaluating, evaluating-async and evaluated are the rest
pub data Phase : Type 0 where
  NotEntered : Phase
  Evaluating : Phase
  EvaluatingAsync : Phase
  Evaluated : Phase

-- the fields of a module record that evaluation writes
pub record Node (N V : Type 0) : Type 0 where
  -- [[Status]]
  pub phase : Phase
  -- [[EvaluationError]]
  pub error : Option V
  -- [[CycleRoot]]
  pub cycle_root : Option N
  -- [[TopLevelCapability]]: the id of the promise that Evaluate gives
  pub promise : Option ℕ
  -- [[AsyncEvaluationOrder]] is done. Where it is a number, the module stands in the list of stamps; else it is unset
  pub done : Bool
  -- a module for each request that makes this one wait. [[PendingAsyncDependencies]] is the number of those that aren't done
  pub waits : List N
  -- [[AsyncParentModules]]: a module for each request that waits for this one
  pub waiters : List N

-- a module of which evaluation has written nothing
abbrev pub untouched : {N V : Type 0} → Node N V
untouched = record {
  phase = NotEntered;
  error = None;
  cycle_root = None;
  promise = None;
  done = false;
  waits = [];
  waiters = [];
}

abbrev pub was_entered : Phase → Bool
was_entered NotEntered = false
was_entered _ = true

-- the calls for a body: one that awaits is started, with the id of the promise that its end settles; any other runs to its end
pub data Call (N : Type 0) : Type 0 where
  Start : (m : N) (end : ℕ) → Call N
  Run : (m : N) → Call N

-- what a call answers: a start nothing, since the promise tells the end
abbrev pub CallAnswer : {N : Type 0} → Type 0 → Call N → Type 0
CallAnswer V (Start m end) = Unit {0}
CallAnswer V (Run m) = Ran V

abbrev pub module_of : {N : Type 0} → Call N → N
module_of (Start m end) = m
module_of (Run m) = m

-- what the calls for bodies do, as a relation: a call in a world comes to this answer, or stops for a reason S, and leaves that world
abbrev pub BodyCalls : Type 0 → Type 0 → Type 0 → Type 0 → Type 1
BodyCalls N V W S = W → (c : Call N) → Result (CallAnswer V c) S → W → Type 0
