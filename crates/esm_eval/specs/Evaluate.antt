-- Evaluating a module and all that it reaches. ECMA-262, Evaluate and InnerModuleEvaluation, mark by mark of the walk.
-- A call for a body is one step of `acts`. A stop has a reason S, as a limit.
use Rattle.std.specs.Prelude.{◌≡◌, ℕ, Bool, true, false, List, [], ◌∷◌, ◌++◌, slice_get, Some, None, Result, Ok, Err}
use Rattle.esm_realm.specs.Walk.{Mark, Enter, Pass, Leave, IsWalkOf}
use Rattle.esm_base.specs.Lists.{is_in}
use Rattle.esm_realm.specs.Components.{closes, opened_before, opened_from}
use Rattle.esm_values.specs.Ran.Ran.{Normal, Thrown}
use Rattle.esm_eval.specs.Nodes.{Phase, Evaluating, EvaluatingAsync, Evaluated, was_entered, Start, Run, BodyCalls}
use Rattle.esm_eval.specs.Evaluation.{Evaluation, phase, waits, is_stamped, root_of, error_of, wait_on, add_wait}

-- ECMA-262, Completion Records: a part of an evaluation ends normally or throws. own: or a call for a body stops everything
pub data WalkEnd (V S : Type 0) : Type 0 where
  Ends : WalkEnd V S
  Throws : (v : V) → WalkEnd V S
  Stops : (why : S) → WalkEnd V S

module _ {N V W : Type 0} (E : Evaluation N V W) where
  abbrev pub enter : W → N → W
  enter w x = E.put w x (record (E.node w x) { phase = Evaluating })

  abbrev pub closed_phase : Bool → Phase
  closed_phase true = EvaluatingAsync
  closed_phase false = Evaluated

  -- these modules are taken off the stack, and their cycle root is x
  abbrev pub close : W → N → List N → W
  close w x [] = w
  close w x (y ∷ ys) = close (E.put w y (record (E.node w y) { phase = closed_phase (is_stamped E w y); cycle_root = Some x })) x ys

  -- Evaluate, where it throws: the modules of the stack, whose components haven't closed, are Evaluated with the error.
  -- own: they get no cycle root, and keep the waits and the order that they have
  abbrev pub fail : W → V → List N → W
  fail w v [] = w
  fail w v (y ∷ ys) = fail (E.put w y (record (E.node w y) { phase = Evaluated; error = Some v })) v ys

  -- m keeps a new promise
  abbrev pub keep : W → N → W
  keep w m = E.put (E.make_promise w) m (record (E.node w m) { promise = Some (E.next_promise w) })

  -- the new promise is fulfilled at once where the module is Evaluated
  abbrev pub fulfill_by : W → ℕ → Phase → W
  fulfill_by w p Evaluated = E.fulfill w p
  fulfill_by w p _ = w

module _ {N V W S : Type 0} (E : Evaluation N V W) (acts : BodyCalls N V W S) where
  -- ExecuteAsyncModule: the promise is made before the body begins
  pub data ExecutesAsync : W → N → WalkEnd V S → W → Type 0 where
    starts : {w after : W} {m : N} → acts (E.make_body_promise w m) (Start m (E.next_promise w)) (Ok tt) after
        → ExecutesAsync w m Ends after
    stops : {w after : W} {m : N} (why : S) → acts (E.make_body_promise w m) (Start m (E.next_promise w)) (Err why) after
        → ExecutesAsync w m (Stops why) after

  -- ExecuteModule without a capability
  pub data Executes : W → N → WalkEnd V S → W → Type 0 where
    ends : {w after : W} {m : N} → acts w (Run m) (Ok Normal) after → Executes w m Ends after
    throws : {w after : W} {m : N} (v : V) → acts w (Run m) (Ok (Thrown v)) after → Executes w m (Throws v) after
    stops : {w after : W} {m : N} (why : S) → acts w (Run m) (Err why) after → Executes w m (Stops why) after

  -- where x is left: it gets the next order where it waits or awaits, and its body begins where it waits for nothing
  pub data Leaves : W → N → WalkEnd V S → W → Type 0 where
    runs : {w after : W} {x : N} {end : WalkEnd V S} → waits E w x ≡ [] → E.awaits w x ≡ false
        → Executes w x end after → Leaves w x end after
    starts : {w after : W} {x : N} {end : WalkEnd V S} → waits E w x ≡ [] → E.awaits w x ≡ true
        → ExecutesAsync (E.add_stamp w x) x end after → Leaves w x end after
    waiting : {w : W} {x y : N} {ys : List N} → waits E w x ≡ y ∷ ys → Leaves w x Ends (E.add_stamp w x)

  -- Marks to w opened marks end after: with these modules on the stack, the marks of the walk end so. A throw or a stop cuts the walk
  pub data Marks (to : N → List N) : W → List N → List (Mark N) → WalkEnd V S → W → Type 0 where
    done : {w : W} → Marks to w [] [] Ends w
    enters : {w after : W} {x : N} {opened : List N} {ms : List (Mark N)} {end : WalkEnd V S}
        → Marks to (enter E w x) (opened ++ x ∷ []) ms end after → Marks to w opened (Enter x ∷ ms) end after
    passes : {w after : W} {x t : N} {i : ℕ} {opened : List N} {ms : List (Mark N)} {end : WalkEnd V S}
        → slice_get (to x) i ≡ Some t → error_of E w t ≡ None → Marks to (add_wait E w x (wait_on E w t)) opened ms end after
        → Marks to w opened (Pass x i ∷ ms) end after
    pass_throws : {w : W} {x t : N} {i : ℕ} {opened : List N} {ms : List (Mark N)} (v : V)
        → slice_get (to x) i ≡ Some t → error_of E w t ≡ Some v
        → Marks to w opened (Pass x i ∷ ms) (Throws v) (fail E w v opened)
    stays : {w mid after : W} {x : N} {opened : List N} {ms : List (Mark N)} {end : WalkEnd V S}
        → Leaves w x Ends mid → closes E.same to opened x ≡ false → Marks to mid opened ms end after
        → Marks to w opened (Leave x ∷ ms) end after
    component : {w mid after : W} {x : N} {opened : List N} {ms : List (Mark N)} {end : WalkEnd V S}
        → Leaves w x Ends mid → closes E.same to opened x ≡ true
        → Marks to (close E mid x (opened_from E.same opened x)) (opened_before E.same opened x) ms end after
        → Marks to w opened (Leave x ∷ ms) end after
    -- the body throws before the component of x closes, also where x is its root
    leave_throws : {w mid : W} {x : N} {opened : List N} {ms : List (Mark N)} (v : V)
        → Leaves w x (Throws v) mid → Marks to w opened (Leave x ∷ ms) (Throws v) (fail E mid v opened)
    leave_stops : {w mid : W} {x : N} {opened : List N} {ms : List (Mark N)} (why : S)
        → Leaves w x (Stops why) mid → Marks to w opened (Leave x ∷ ms) (Stops why) mid

  -- the walk from m over the modules that no evaluation has entered in w, and what its marks come to from `start` on
  pub record Walks (w : W) (m : N) (start : W) (end : WalkEnd V S) (after : W) : Type 0 where
    pub closed : List N
    pub closed_is : (x : N) → is_in E.same closed x ≡ was_entered (phase E w x)
    pub marks : List (Mark N)
    pub walk : IsWalkOf E.same (E.targets w) closed m marks
    pub leads : Marks (E.targets w) start [] marks end after

  -- Evaluate(m), where m stands for its cycle. The answer is the promise that m keeps
  pub data EvaluatesRoot : W → N → Result ℕ S → W → Type 0 where
    kept : {w : W} {m : N} (p : ℕ) → (E.node w m).promise ≡ Some p → EvaluatesRoot w m (Ok p) w
    thrown : {w : W} {m : N} (v : V) → (E.node w m).promise ≡ None → (E.node w m).error ≡ Some v
        → EvaluatesRoot w m (Ok (E.next_promise w)) (E.reject (keep E w m) (E.next_promise w) v)
    walks : {w after : W} {m : N} → (E.node w m).promise ≡ None → (E.node w m).error ≡ None
        → Walks w m (keep E w m) Ends after
        → EvaluatesRoot w m (Ok (E.next_promise w)) (fulfill_by E after (E.next_promise w) (phase E after m))
    throws : {w after : W} {m : N} (v : V) → (E.node w m).promise ≡ None → (E.node w m).error ≡ None
        → Walks w m (keep E w m) (Throws v) after
        → EvaluatesRoot w m (Ok (E.next_promise w)) (E.reject after (E.next_promise w) v)
    stops : {w after : W} {m : N} (why : S) → (E.node w m).promise ≡ None → (E.node w m).error ≡ None
        → Walks w m (keep E w m) (Stops why) after
        → EvaluatesRoot w m (Err why) after

  -- Evaluate: the cycle root takes the place of a module that has one.
  -- own: a module without one, as a throw in a cycle leaves it, stands for itself
  abbrev pub Evaluates : W → N → Result ℕ S → W → Type 0
  Evaluates w m answer after = EvaluatesRoot w (root_of E w m) answer after
