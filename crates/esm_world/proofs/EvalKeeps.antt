-- What each write and each call for a body keeps, evaluation keeps.
use Rattle.std.proofs.Common.{ℕ, List, [], ◌∷◌, Option, Some, None}
use Rattle.std.specs.Prelude.{Result, ◌++◌}
use Rattle.esm_realm.specs.Walk.{Mark}
use Rattle.esm_realm.specs.Components.{opened_from}
use Rattle.esm_eval.specs.Nodes.{Phase, NotEntered, Evaluating, EvaluatingAsync, Evaluated, Node, Call, CallAnswer, BodyCalls}
use Rattle.esm_eval.specs.Evaluation.{Evaluation, fulfill_kept, reject_kept, add_wait, put_wait, is_stamped}
use Rattle.esm_eval.specs.Evaluate.{WalkEnd, ExecutesAsync, Executes, Leaves, Marks, EvaluatesRoot, Evaluates, close, fail, keep, fulfill_by, closed_phase}
use Rattle.esm_eval.specs.Evaluate.Marks.{done, enters, passes, pass_throws, stays, component, leave_throws, leave_stops}
use Rattle.esm_eval.specs.BodyEnd.{Rejects, RejectsAll, GoOn, Fulfills, finish, refuse}

-- a relation that stays, goes on, and holds of each write and each call
pub record Lasts {N V W S : Type 0} (E : Evaluation N V W) (acts : BodyCalls N V W S) (Keep : W → W → Type 0) : Type 0 where
  pub same : (w : W) → Keep w w
  pub on : {u v w : W} → Keep u v → Keep v w → Keep u w
  pub put : (w : W) (x : N) (n : Node N V) → Keep w (E.put w x n)
  pub stamp : (w : W) (x : N) → Keep w (E.add_stamp w x)
  pub make : (w : W) → Keep w (E.make_promise w)
  pub make_body : (w : W) (x : N) → Keep w (E.make_body_promise w x)
  pub fulfill : (w : W) (p : ℕ) → Keep w (E.fulfill w p)
  pub reject : (w : W) (p : ℕ) (v : V) → Keep w (E.reject w p v)
  pub call : {v w : W} {c : Call N} {r : Result (CallAnswer V c) S} → acts v c r w → Keep v w

module _ {N V W S : Type 0} (E : Evaluation N V W) (acts : BodyCalls N V W S) (Keep : W → W → Type 0) (k : Lasts E acts Keep) where
  starts_keeps : {v w : W} {m : N} {end : WalkEnd V S} → ExecutesAsync E acts v m end w → Keep v w
  starts_keeps (ExecutesAsync.starts p) = k.on (k.make_body _ _) (k.call p)
  starts_keeps (ExecutesAsync.stops why p) = k.on (k.make_body _ _) (k.call p)

  runs_keeps : {v w : W} {m : N} {end : WalkEnd V S} → Executes E acts v m end w → Keep v w
  runs_keeps (Executes.ends p) = k.call p
  runs_keeps (Executes.throws v p) = k.call p
  runs_keeps (Executes.stops why p) = k.call p

  leaves_keeps : {v : W} {m : N} {end : WalkEnd V S} {w : W} → Leaves E acts v m end w → Keep v w
  leaves_keeps (Leaves.runs n o p) = runs_keeps p
  leaves_keeps (Leaves.starts n o p) = k.on (k.stamp _ _) (starts_keeps p)
  leaves_keeps (Leaves.waiting n) = k.stamp _ _

  abbrev closed : W → N → N → Node N V
  closed w x y = record (E.node w y) { phase = closed_phase E (is_stamped E w y); cycle_root = Some x }

  pub close_keeps : (w : W) (x : N) (ys : List N) → Keep w (close E w x ys)
  close_keeps w x [] = k.same w
  close_keeps w x (y ∷ ys) = k.on (k.put w y (closed w x y)) (close_keeps (E.put w y (closed w x y)) x ys)

  pub fail_keeps : (w : W) (v : V) (ys : List N) → Keep w (fail E w v ys)
  fail_keeps w v [] = k.same w
  fail_keeps w v (y ∷ ys) = k.on (k.put w y (record (E.node w y) { phase = Evaluated; error = Some v })) (fail_keeps (E.put w y (record (E.node w y) { phase = Evaluated; error = Some v })) v ys)

  pub wait_keeps : (w : W) (x : N) (y : Option N) → Keep w (add_wait E w x y)
  wait_keeps w x None = k.same w
  wait_keeps w x (Some y) = k.on (k.put w x (record (E.node w x) { waits = (E.node w x).waits ++ y ∷ [] })) (k.put (put_wait E w x y) y _)

  marks_keeps : {to : N → List N} {v : W} {opened : List N} {ms : List (Mark N)} {end : WalkEnd V S} {w : W} → Marks E acts to v opened ms end w → Keep v w
  marks_keeps {v = v} done = k.same v
  marks_keeps (enters p) = k.on (k.put _ _ _) (marks_keeps p)
  marks_keeps {v = v} (passes {x = x} t n p) = k.on (wait_keeps v x _) (marks_keeps p)
  marks_keeps {v = v} {opened = o} (pass_throws u t n) = fail_keeps v u o
  marks_keeps (stays l c p) = k.on (leaves_keeps l) (marks_keeps p)
  marks_keeps {opened = o} (component {mid = mid} {x = x} l c p) = k.on (leaves_keeps l) (k.on (close_keeps mid x (opened_from E.same o x)) (marks_keeps p))
  marks_keeps {opened = o} (leave_throws {mid = mid} u l) = k.on (leaves_keeps l) (fail_keeps mid u o)
  marks_keeps (leave_stops why l) = leaves_keeps l

  pub keep_keeps : (w : W) (m : N) → Keep w (keep E w m)
  keep_keeps w m = k.on (k.make w) (k.put _ _ _)

  pub settle_keeps : (w : W) (p : ℕ) (h : Phase) → Keep w (fulfill_by E w p h)
  settle_keeps w p NotEntered = k.same w
  settle_keeps w p Evaluating = k.same w
  settle_keeps w p EvaluatingAsync = k.same w
  settle_keeps w p Evaluated = k.fulfill w p

  root_keeps : {v : W} {m : N} {a : Result ℕ S} {w : W} → EvaluatesRoot E acts v m a w → Keep v w
  root_keeps {v} (EvaluatesRoot.kept p h) = k.same v
  root_keeps {v} {m = m} (EvaluatesRoot.thrown u h e) = k.on (keep_keeps v m) (k.reject _ _ _)
  root_keeps {v} {m = m} (EvaluatesRoot.walks {after = after} h e p) = k.on (keep_keeps v m) (k.on (marks_keeps p.leads) (settle_keeps after _ _))
  root_keeps {v} {m = m} (EvaluatesRoot.throws u h e p) = k.on (keep_keeps v m) (k.on (marks_keeps p.leads) (k.reject _ _ _))
  root_keeps {v} {m = m} (EvaluatesRoot.stops why h e p) = k.on (keep_keeps v m) (marks_keeps p.leads)

  pub evaluates_keeps : (v : W) (m : N) {w : W} {a : Result ℕ S} → Evaluates E acts v m a w → Keep v w
  evaluates_keeps v m p = root_keeps p

  fulfill_keeps : (w : W) (p : Option ℕ) → Keep w (fulfill_kept E w p)
  fulfill_keeps w None = k.same w
  fulfill_keeps w (Some p) = k.fulfill w p

  reject_keeps : (w : W) (p : Option ℕ) (v : V) → Keep w (reject_kept E w p v)
  reject_keeps w None v = k.same w
  reject_keeps w (Some p) v = k.reject w p v

  pub finish_keeps : (w : W) (x : N) → Keep w (finish E w x)
  finish_keeps w x = k.on (k.put _ _ _) (fulfill_keeps _ (E.node w x).promise)

  refuse_keeps : (w : W) (x : N) (v : V) → Keep w (refuse E w x v)
  refuse_keeps w x v = k.on (k.put _ _ _) (reject_keeps _ (E.node w x).promise v)

  mutual
    pub rejects_keeps : {u w : W} {x : N} {v : V} → Rejects E u x v w → Keep u w
    rejects_keeps {u} (Rejects.over h) = k.same u
    rejects_keeps {u} {x = x} {v = v} (Rejects.rejects n p) = k.on (refuse_keeps u x v) (rejects_all_keeps p)

    rejects_all_keeps : {u w : W} {xs : List N} {v : V} → RejectsAll E u xs v w → Keep u w
    rejects_all_keeps {u} RejectsAll.none = k.same u
    rejects_all_keeps (RejectsAll.next p q) = k.on (rejects_keeps p) (rejects_all_keeps q)

  takes_keeps : {v w : W} {xs : List N} {a : Result (Unit {0}) S} → GoOn E acts v xs a w → Keep v w
  takes_keeps {v} GoOn.none = k.same v
  takes_keeps (GoOn.skips h p) = takes_keeps p
  takes_keeps (GoOn.starts n o s p) = k.on (starts_keeps s) (takes_keeps p)
  takes_keeps (GoOn.runs {mid = mid} {x = x} n o s p) = k.on (runs_keeps s) (k.on (finish_keeps mid x) (takes_keeps p))
  takes_keeps (GoOn.throws v n o s r p) = k.on (runs_keeps s) (k.on (rejects_keeps r) (takes_keeps p))
  takes_keeps (GoOn.start_stops why n o s) = starts_keeps s
  takes_keeps (GoOn.run_stops why n o s) = runs_keeps s

  pub fulfills_keeps : {v w : W} {m : N} {a : Result (Unit {0}) S} → Fulfills E acts v m a w → Keep v w
  fulfills_keeps {v} (Fulfills.over h) = k.same v
  fulfills_keeps {v} {m = m} (Fulfills.goes_on n r p) = k.on (finish_keeps v m) (takes_keeps p)
