-- The steps of a rejection, and of the modules that go on.
use mathlib.Core.Bool.{true≢false}
use Rattle.std.proofs.Common.{◌≡◌, ℕ, ◌+◌, ◌≤◌, Bool, true, false, List, ◌∷◌, Some, Result, Ok, Err, length, drop, subst, sym}
use Rattle.std.specs.Prelude.{slice_get}
use Rattle.std.proofs.Math.ListN.{drop_of_length-le}
use Rattle.esm_values.specs.Code.{CodeValue}
use Rattle.esm_eval.specs.Evaluation.{waiters}
use Rattle.esm_eval.specs.BodyEnd.{Rejects, RejectsAll, ReadyAmong, Fulfills, GoOn, finish, refuse}
use Rattle.esm_eval.specs.Calls.{CodeEvaluation, CodeCalls, FulfillsAs, numbered}
use Rattle.esm_eval.specs.Inner.Ends.{GoesOn, IsEndOf}
use Rattle.esm_eval.specs.EndSteps.{Says, IsEvaluated, Begins, Runs}
use Rattle.esm_values.specs.Code.{value_of}
use Rattle.esm_values.specs.declared.value.Ran.{Ran}
use Rattle.esm_values.specs.declared.value.Ran.TheVariants as r
use Rattle.esm_eval.specs.declared.walk.EvalEnd.{EvalEnd}
use Rattle.esm_eval.specs.declared.walk.EvalEnd.TheVariants as ends
use Rattle.esm_eval.proofs.Inner.Steps.{drop_at}

pub says : {P : Type 0} (b : Bool) → Says b P → b ≡ true → P
says true h e = h
says false h e = absurd (true≢false (sym e))

pub denies : {P : Type 0} (b : Bool) → Says b P → b ≡ false → P → ⊥
denies true h e = absurd (true≢false e)
denies false h e = h

module _ {W S : Type 0} (E : CodeEvaluation W) (acts : CodeCalls W S) where
  pub given : (w u after : W) (x : ℕ) (v : CodeValue) → (IsEvaluated E w x → ⊥) → u ≡ refuse (numbered E) w x v → RejectsAll (numbered E) u (waiters E w x) v after → Rejects (numbered E) w x v after
  given w u after x v n e q = Rejects.rejects n (subst (λ s. RejectsAll (numbered E) s (waiters E w x) v after) e q)

  pub one_more : (w u after : W) (ws : List ℕ) (i y : ℕ) (v : CodeValue) → slice_get ws i ≡ Some y → Rejects (numbered E) w y v u → RejectsAll (numbered E) u (drop (i + 1) ws) v after → RejectsAll (numbered E) w (drop i ws) v after
  one_more w u after ws i y v at r q = subst (λ ys. RejectsAll (numbered E) w ys v after) (sym (drop_at ws i y at)) (RejectsAll.next r q)

  pub no_more : (w : W) (ws : List ℕ) (i : ℕ) (v : CodeValue) → length ws ≤ i → RejectsAll (numbered E) w (drop i ws) v w
  no_more w ws i v le = subst (λ ys. RejectsAll (numbered E) w ys v w) (sym (drop_of_length-le ws le)) RejectsAll.none

  pub goes_on : (w u after : W) (m : ℕ) (xs : List ℕ) (end : Result (Unit {0}) S) → (IsEvaluated E w m → ⊥) → u ≡ finish (numbered E) w m → ReadyAmong (numbered E) u (E.stamps u) xs → GoOn (numbered E) acts u xs end after → Fulfills (numbered E) acts w m end after
  goes_on w u after m xs end n e r q = Fulfills.goes_on n (subst (λ s. ReadyAmong (numbered E) s (E.stamps s) xs) e r) (subst (λ s. GoOn (numbered E) acts s xs end after) e q)

  module _ (w : W) (xs : List ℕ) (i x : ℕ) (at : slice_get xs i ≡ Some x) where
    taken : (end : Result (Unit {0}) S) (after : W) → GoOn (numbered E) acts w (x ∷ drop (i + 1) xs) end after → GoOn (numbered E) acts w (drop i xs) end after
    taken end after q = subst (λ ys. GoOn (numbered E) acts w ys end after) (sym (drop_at xs i x at)) q

    pub skips : (end : Result (Unit {0}) S) (after : W) → IsEvaluated E w x → GoOn (numbered E) acts w (drop (i + 1) xs) end after → GoOn (numbered E) acts w (drop i xs) end after
    skips end after e q = taken end after (GoOn.skips e q)

  pub all_taken : (w : W) (xs : List ℕ) (i : ℕ) → length xs ≤ i → GoOn (numbered E) acts w (drop i xs) (Ok tt) w
  all_taken w xs i le = subst (λ ys. GoOn (numbered E) acts w ys (Ok tt) w) (sym (drop_of_length-le xs le)) GoOn.none

  pub step_on : (w v : W) (xs : List ℕ) (i x : ℕ) → slice_get xs i ≡ Some x → GoesOn E acts w x (Ok tt) v → (end : Result (Unit {0}) S) (after : W) → GoOn (numbered E) acts v (drop (i + 1) xs) end after → GoOn (numbered E) acts w (drop i xs) end after
  step_on w v xs i x at g end after q = subst (λ ys. GoOn (numbered E) acts w ys end after) (sym (drop_at xs i x at)) (g (drop (i + 1) xs) end after q)

  -- a call for a body stops in place x of those that are ready
  pub stops_at : (w : W) (m : ℕ) (now v : W) (xs : List ℕ) (i x : ℕ) → slice_get xs i ≡ Some x → (end : EvalEnd S) → GoesOn E acts now x (Err end) v
      → ((end : Result (Unit {0}) S) (after : W) → GoOn (numbered E) acts now (drop i xs) end after → Fulfills (numbered E) acts w m end after) → FulfillsAs (numbered E) acts w m (Err end) v
  stops_at w m now v xs i x at (ends.Stopped why) g completes = completes (Err why) v (subst (λ ys. GoOn (numbered E) acts now ys (Err why) v) (sym (drop_at xs i x at)) (g (drop (i + 1) xs)))
  stops_at w m now v xs i x at ends.Memory g completes = tt

  -- the ways in which a module that is ready goes on
  module _ (w : W) (x : ℕ) (n : IsEvaluated E w x → ⊥) where
    pub began : (r : Result (Unit {0}) (EvalEnd S)) (v : W) → E.awaits w x ≡ true → Begins E acts w x r v → GoesOn E acts w x r v
    began (Ok u) v a s = λ xs end after q. GoOn.starts n a s q
    began (Err (ends.Stopped why)) v a s = λ xs. GoOn.start_stops why n a s
    began (Err ends.Memory) v a s = tt

    pub stopped : (end : EvalEnd S) (v : W) → E.awaits w x ≡ false → Runs E acts w x (Err end) v → GoesOn E acts w x (Err end) v
    stopped (ends.Stopped why) v a s = λ xs. GoOn.run_stops why n a s
    stopped ends.Memory v a s = tt

    pub ran : (ran : Ran) (mid : W) (r : Result (Unit {0}) (EvalEnd S)) (v : W) → E.awaits w x ≡ false → Runs E acts w x (Ok ran) mid → IsEndOf E mid x ran r v → GoesOn E acts w x r v
    ran r.Normal mid (Ok u) v a s e = λ xs end after q. GoOn.runs n a s (subst (λ s. GoOn (numbered E) acts s xs end after) e q)
    ran (r.Thrown t) mid (Ok u) v a s e = λ xs end after q. GoOn.throws (value_of t) n a s e q
    ran r.Normal mid (Err (ends.Stopped why)) v a s e = absurd e
    ran (r.Thrown t) mid (Err (ends.Stopped why)) v a s e = absurd e
    ran r.Normal mid (Err ends.Memory) v a s e = tt
    ran (r.Thrown t) mid (Err ends.Memory) v a s e = tt
