-- What follows the end of a body that awaits.
-- ECMA-262, AsyncModuleExecutionFulfilled, AsyncModuleExecutionRejected and GatherAvailableAncestors.
use Rattle.std.specs.Prelude.{◌≡◌, ◌≢◌, true, false, List, [], ◌∷◌, Some, None, Result, Ok, Err}
use Rattle.esm_eval.specs.Nodes.{EvaluatingAsync, Evaluated, BodyCalls}
use Rattle.esm_eval.specs.Evaluation.{Evaluation, phase, waits, waiters, is_done, is_stamped, root_of, fulfill_kept, reject_kept}
use Rattle.esm_eval.specs.Evaluate.{Ends, Throws, Stops, ExecutesAsync, Executes}

module _ {N V W : Type 0} (E : Evaluation N V W) where
  -- GatherAvailableAncestors, as the least set of modules that can go on: each has an order, its body hasn't begun,
  -- its cycle root has no error, and each module that it waits for is done, or can go on itself and doesn't await
  mutual
    pub data IsReady (w : W) : N → Type 0 where
      ready : {x : N} → is_stamped E w x ≡ true → phase E w x ≡ EvaluatingAsync → E.begun w x ≡ false
          → (E.node w (root_of E w x)).error ≡ None → AreOver w (waits E w x) → IsReady w x

    pub data AreOver (w : W) : List N → Type 0 where
      none : AreOver w []
      done : {y : N} {ys : List N} → is_done E w y ≡ true → AreOver w ys → AreOver w (y ∷ ys)
      joins : {y : N} {ys : List N} → E.awaits w y ≡ false → IsReady w y → AreOver w ys → AreOver w (y ∷ ys)

  -- of these modules those that are ready, in the same order
  pub data ReadyAmong (w : W) : List N → List N → Type 0 where
    none : ReadyAmong w [] []
    kept : {x : N} {xs ys : List N} → IsReady w x → ReadyAmong w xs ys → ReadyAmong w (x ∷ xs) (x ∷ ys)
    dropped : {x : N} {xs ys : List N} → ¬ (IsReady w x) → ReadyAmong w xs ys → ReadyAmong w (x ∷ xs) ys

  -- the module is done, without an error
  abbrev pub finish : W → N → W
  finish w x = fulfill_kept E (E.put w x (record (E.node w x) { phase = Evaluated; done = true })) (E.node w x).promise

  -- the module is done, with an error. own: its promise is rejected before the modules that wait for it, and not behind them
  abbrev pub refuse : W → N → V → W
  refuse w x v = reject_kept E (E.put w x (record (E.node w x) { phase = Evaluated; error = Some v; done = true })) (E.node w x).promise v

  -- AsyncModuleExecutionRejected: the module gets the error, and then each that waits for it, in order
  mutual
    pub data Rejects : W → N → V → W → Type 0 where
      over : {w : W} {x : N} {v : V} → phase E w x ≡ Evaluated → Rejects w x v w
      rejects : {w after : W} {x : N} {v : V} → phase E w x ≢ Evaluated → RejectsAll (refuse w x v) (waiters E w x) v after
          → Rejects w x v after

    pub data RejectsAll : W → List N → V → W → Type 0 where
      none : {w : W} {v : V} → RejectsAll w [] v w
      next : {w mid after : W} {x : N} {xs : List N} {v : V} → Rejects w x v mid → RejectsAll mid xs v after
          → RejectsAll w (x ∷ xs) v after

module _ {N V W S : Type 0} (E : Evaluation N V W) (acts : BodyCalls N V W S) where
  -- the modules that are ready, in turn. One that was rejected meanwhile is skipped, one that awaits is started, any other runs
  pub data GoOn : W → List N → Result (Unit {0}) S → W → Type 0 where
    none : {w : W} → GoOn w [] (Ok tt) w
    skips : {w after : W} {x : N} {xs : List N} {end : Result (Unit {0}) S} → phase E w x ≡ Evaluated → GoOn w xs end after
        → GoOn w (x ∷ xs) end after
    starts : {w mid after : W} {x : N} {xs : List N} {end : Result (Unit {0}) S} → phase E w x ≢ Evaluated → E.awaits w x ≡ true
        → ExecutesAsync E acts w x Ends mid → GoOn mid xs end after → GoOn w (x ∷ xs) end after
    start_stops : {w after : W} {x : N} {xs : List N} (why : S) → phase E w x ≢ Evaluated → E.awaits w x ≡ true
        → ExecutesAsync E acts w x (Stops why) after → GoOn w (x ∷ xs) (Err why) after
    runs : {w mid after : W} {x : N} {xs : List N} {end : Result (Unit {0}) S} → phase E w x ≢ Evaluated → E.awaits w x ≡ false
        → Executes E acts w x Ends mid → GoOn (finish E mid x) xs end after → GoOn w (x ∷ xs) end after
    throws : {w mid late after : W} {x : N} {xs : List N} {end : Result (Unit {0}) S} (v : V) → phase E w x ≢ Evaluated
        → E.awaits w x ≡ false → Executes E acts w x (Throws v) mid → Rejects E mid x v late → GoOn late xs end after
        → GoOn w (x ∷ xs) end after
    run_stops : {w after : W} {x : N} {xs : List N} (why : S) → phase E w x ≢ Evaluated → E.awaits w x ≡ false
        → Executes E acts w x (Stops why) after → GoOn w (x ∷ xs) (Err why) after

  -- AsyncModuleExecutionFulfilled: the module is done, and those that are ready then go on, in their order of asynchronous evaluation
  pub data Fulfills : W → N → Result (Unit {0}) S → W → Type 0 where
    over : {w : W} {m : N} → phase E w m ≡ Evaluated → Fulfills w m (Ok tt) w
    goes_on : {w after : W} {m : N} {xs : List N} {end : Result (Unit {0}) S} → phase E w m ≢ Evaluated
        → ReadyAmong E (finish E w m) (E.stamps (finish E w m)) xs → GoOn (finish E w m) xs end after → Fulfills w m end after
