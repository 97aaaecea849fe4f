-- Where a call for a body tells the reason that has stopped the world, or none, an evaluation does.
use Rattle.std.proofs.Common.{◌≡◌, ℕ, List, Option, Some, None, ◌∙◌}
use Rattle.std.specs.Prelude.{Result, Ok, Err}
use Rattle.esm_realm.specs.Walk.{Mark}
use Rattle.esm_realm.specs.Components.{opened_from}
use Rattle.esm_eval.specs.Nodes.{Call, CallAnswer, BodyCalls}
use Rattle.esm_eval.specs.Evaluation.{Evaluation}
use Rattle.esm_eval.specs.Evaluate.{WalkEnd, Ends, Throws, Stops, ExecutesAsync, Executes, Leaves, Marks, EvaluatesRoot, Evaluates}
use Rattle.esm_eval.specs.Evaluate.Marks.{done, enters, passes, pass_throws, stays, component, leave_throws, leave_stops}
use Rattle.esm_eval.specs.BodyEnd.{GoOn, Fulfills, Rejects}
use Rattle.esm_world.proofs.EvalKeeps.{Lasts, close_keeps, fail_keeps, wait_keeps, keep_keeps, settle_keeps, finish_keeps, rejects_keeps}

-- the reason that was told
abbrev pub why_by : {S A : Type 0} → Result A S → Option S
why_by (Ok a) = None
why_by (Err why) = Some why

-- the reason that has stopped a world
module _ {N V W S : Type 0} (E : Evaluation N V W) (acts : BodyCalls N V W S) (at : W → Option S) where
  abbrev IsLive : W → Type 0
  IsLive w = at w ≡ None

  abbrev Same : W → W → Type 0
  Same v w = at w ≡ at v

  abbrev NoCall : BodyCalls N V W S
  NoCall w c r v = ⊥

  -- no write stops the world, and a call tells what has
  pub record LivesOn : Type 0 where
    pub writes : Lasts E NoCall Same
    pub call : {v w : W} {c : Call N} {r : Result (CallAnswer V c) S} → acts v c r w → IsLive v → at w ≡ why_by r

  abbrev OfEnd : WalkEnd V S → W → Type 0
  OfEnd Ends w = IsLive w
  OfEnd (Throws v) w = IsLive w
  OfEnd (Stops why) w = at w ≡ Some why

  module _ (k : LivesOn) where
    starts_live : {v w : W} {m : N} {end : WalkEnd V S} → ExecutesAsync E acts v m end w → IsLive v → OfEnd end w
    starts_live {v} {m = m} (ExecutesAsync.starts p) l = k.call p (k.writes.make_body v m ∙ l)
    starts_live {v} {m = m} (ExecutesAsync.stops why p) l = k.call p (k.writes.make_body v m ∙ l)

    runs_live : {v w : W} {m : N} {end : WalkEnd V S} → Executes E acts v m end w → IsLive v → OfEnd end w
    runs_live (Executes.ends p) l = k.call p l
    runs_live (Executes.throws v p) l = k.call p l
    runs_live (Executes.stops why p) l = k.call p l

    leaves_live : {v : W} {m : N} {end : WalkEnd V S} {w : W} → Leaves E acts v m end w → IsLive v → OfEnd end w
    leaves_live (Leaves.runs n o p) l = runs_live p l
    leaves_live {v} {m = m} (Leaves.starts n o p) l = starts_live p (k.writes.stamp v m ∙ l)
    leaves_live {v} {m = m} (Leaves.waiting n) l = k.writes.stamp v m ∙ l

    marks_live : {to : N → List N} {v : W} {opened : List N} {ms : List (Mark N)} {end : WalkEnd V S} {w : W} → Marks E acts to v opened ms end w → IsLive v → OfEnd end w
    marks_live done l = l
    marks_live (enters p) l = marks_live p (k.writes.put _ _ _ ∙ l)
    marks_live {v = v} (passes {x = x} t n p) l = marks_live p (wait_keeps E NoCall Same k.writes v x _ ∙ l)
    marks_live {v = v} {opened = o} (pass_throws u t n) l = fail_keeps E NoCall Same k.writes v u o ∙ l
    marks_live (stays q c p) l = marks_live p (leaves_live q l)
    marks_live {opened = o} (component {mid = mid} {x = x} q c p) l = marks_live p (close_keeps E NoCall Same k.writes mid x (opened_from E.same o x) ∙ leaves_live q l)
    marks_live {opened = o} (leave_throws {mid = mid} u q) l = fail_keeps E NoCall Same k.writes mid u o ∙ leaves_live q l
    marks_live (leave_stops why q) l = leaves_live q l

    kept_live : (v : W) (m : N) → IsLive v → IsLive (Rattle.esm_eval.specs.Evaluate.keep E v m)
    kept_live v m l = keep_keeps E NoCall Same k.writes v m ∙ l

    root_live : {v : W} {m : N} {a : Result ℕ S} {w : W} → EvaluatesRoot E acts v m a w → IsLive v → at w ≡ why_by a
    root_live (EvaluatesRoot.kept p h) l = l
    root_live {v} {m = m} (EvaluatesRoot.thrown u h e) l = k.writes.reject _ _ _ ∙ kept_live v m l
    root_live {v} {m = m} (EvaluatesRoot.walks {after = after} h e p) l = settle_keeps E NoCall Same k.writes after _ _ ∙ marks_live p.leads (kept_live v m l)
    root_live {v} {m = m} (EvaluatesRoot.throws u h e p) l = k.writes.reject _ _ _ ∙ marks_live p.leads (kept_live v m l)
    root_live {v} {m = m} (EvaluatesRoot.stops why h e p) l = marks_live p.leads (kept_live v m l)

    pub evaluates_live : (v : W) (m : N) {w : W} {a : Result ℕ S} → Evaluates E acts v m a w → IsLive v → at w ≡ why_by a
    evaluates_live v m p l = root_live p l

    pub rejects_live : {v w : W} {m : N} {e : V} → Rejects E v m e w → at w ≡ at v
    rejects_live p = rejects_keeps E NoCall Same k.writes p

    goes_on_live : {v w : W} {xs : List N} {a : Result (Unit {0}) S} → GoOn E acts v xs a w → IsLive v → at w ≡ why_by a
    goes_on_live GoOn.none l = l
    goes_on_live (GoOn.skips h p) l = goes_on_live p l
    goes_on_live (GoOn.starts n o s p) l = goes_on_live p (starts_live s l)
    goes_on_live (GoOn.runs {mid = mid} {x = x} n o s p) l = goes_on_live p (finish_keeps E NoCall Same k.writes mid x ∙ runs_live s l)
    goes_on_live (GoOn.throws v n o s r p) l = goes_on_live p (rejects_live r ∙ runs_live s l)
    goes_on_live (GoOn.start_stops why n o s) l = starts_live s l
    goes_on_live (GoOn.run_stops why n o s) l = runs_live s l

    pub fulfills_live : {v w : W} {m : N} {a : Result (Unit {0}) S} → Fulfills E acts v m a w → IsLive v → at w ≡ why_by a
    fulfills_live (Fulfills.over h) l = l
    fulfills_live {v} {m = m} (Fulfills.goes_on n r p) l = goes_on_live p (finish_keeps E NoCall Same k.writes v m ∙ l)
