-- What holds wherever a call for a body is stopped, holds wherever an evaluation is.
use Rattle.std.proofs.Common.{ℕ, List}
use Rattle.std.specs.Prelude.{Result, Ok, Err}
use Rattle.esm_realm.specs.Walk.{Mark}
use Rattle.esm_eval.specs.Nodes.{Call, BodyCalls}
use Rattle.esm_eval.specs.Evaluation.{Evaluation}
use Rattle.esm_eval.specs.Evaluate.{WalkEnd, Ends, Throws, Stops, ExecutesAsync, Executes, Leaves, Marks, EvaluatesRoot, Evaluates}
use Rattle.esm_eval.specs.Evaluate.Marks.{done, enters, passes, pass_throws, stays, component, leave_throws, leave_stops}
use Rattle.esm_eval.specs.BodyEnd.{GoOn, Fulfills}

module _ {N V W S : Type 0} (E : Evaluation N V W) (acts : BodyCalls N V W S) (P : W → Type 0) where
  pub record StopsCall : Type 0 where
    pub call : {v w : W} {c : Call N} {why : S} → acts v c (Err why) w → P w

  abbrev OfEnd : WalkEnd V S → W → Type 0
  OfEnd Ends w = Unit {0}
  OfEnd (Throws v) w = Unit {0}
  OfEnd (Stops why) w = P w

  -- told of an answer
  abbrev pub OfAnswer : {A : Type 0} → Result A S → W → Type 0
  OfAnswer (Ok a) w = Unit {0}
  OfAnswer (Err why) w = P w

  module _ (k : StopsCall) where
    starts_stop : {v w : W} {m : N} {end : WalkEnd V S} → ExecutesAsync E acts v m end w → OfEnd end w
    starts_stop (ExecutesAsync.starts p) = tt
    starts_stop (ExecutesAsync.stops why p) = k.call p

    runs_stop : {v w : W} {m : N} {end : WalkEnd V S} → Executes E acts v m end w → OfEnd end w
    runs_stop (Executes.ends p) = tt
    runs_stop (Executes.throws v p) = tt
    runs_stop (Executes.stops why p) = k.call p

    leaves_stop : {v : W} {m : N} {end : WalkEnd V S} {w : W} → Leaves E acts v m end w → OfEnd end w
    leaves_stop (Leaves.runs n o p) = runs_stop p
    leaves_stop (Leaves.starts n o p) = starts_stop p
    leaves_stop (Leaves.waiting n) = tt

    marks_stop : {to : N → List N} {v : W} {opened : List N} {ms : List (Mark N)} {end : WalkEnd V S} {w : W} → Marks E acts to v opened ms end w → OfEnd end w
    marks_stop done = tt
    marks_stop (enters p) = marks_stop p
    marks_stop (passes t n p) = marks_stop p
    marks_stop (pass_throws u t n) = tt
    marks_stop (stays l c p) = marks_stop p
    marks_stop (component l c p) = marks_stop p
    marks_stop (leave_throws u l) = tt
    marks_stop (leave_stops why l) = leaves_stop l

    root_stop : {v : W} {m : N} {a : Result ℕ S} {w : W} → EvaluatesRoot E acts v m a w → OfAnswer a w
    root_stop (EvaluatesRoot.kept p h) = tt
    root_stop (EvaluatesRoot.thrown u h e) = tt
    root_stop (EvaluatesRoot.walks h e p) = tt
    root_stop (EvaluatesRoot.throws u h e p) = tt
    root_stop (EvaluatesRoot.stops why h e p) = marks_stop p.leads

    pub evaluates_stop : (v : W) (m : N) {w : W} {a : Result ℕ S} → Evaluates E acts v m a w → OfAnswer a w
    evaluates_stop v m p = root_stop p

    go_on_stop : {v w : W} {xs : List N} {a : Result (Unit {0}) S} → GoOn E acts v xs a w → OfAnswer a w
    go_on_stop GoOn.none = tt
    go_on_stop (GoOn.skips h p) = go_on_stop p
    go_on_stop (GoOn.starts n o s p) = go_on_stop p
    go_on_stop (GoOn.runs n o s p) = go_on_stop p
    go_on_stop (GoOn.throws v n o s r p) = go_on_stop p
    go_on_stop (GoOn.start_stops why n o s) = starts_stop s
    go_on_stop (GoOn.run_stops why n o s) = runs_stop s

    pub fulfills_stop : {v w : W} {m : N} {a : Result (Unit {0}) S} → Fulfills E acts v m a w → OfAnswer a w
    fulfills_stop (Fulfills.over h) = tt
    fulfills_stop (Fulfills.goes_on n r p) = go_on_stop p
