-- Which modules are ready, as a test, and what gathering them comes to.
use Rattle.std.specs.Prelude.{◌≡◌, ◌<◌, ◌||◌, ◌&&◌, ℕ, not, Bool, true, false, List, [], ◌∷◌, slice_get, Option, Some, None}
use Rattle.esm_base.specs.Lists.{EachOnce, is_in}
use Rattle.esm_eval.specs.Nodes.{Phase, NotEntered, Evaluating, EvaluatingAsync, Evaluated}
use Rattle.esm_eval.specs.Evaluation.{Evaluation, phase, waits, waiters, is_done, is_stamped, root_of}
use Rattle.esm_eval.specs.BodyEnd.{IsReady}

abbrev pub is_async : Phase → Bool
is_async EvaluatingAsync = true
is_async NotEntered = false
is_async Evaluating = false
is_async Evaluated = false

abbrev pub no_error : {V : Type 0} → Option V → Bool
no_error None = true
no_error (Some v) = false

-- what stands at this place of the list stands before it too
abbrev pub RepeatsAt : {N : Type 0} → List N → ℕ → Type 0
RepeatsAt xs i = (j : ℕ) × (j < i) × (slice_get xs j ≡ slice_get xs i)

-- a set of modules is a test
module _ {N V W : Type 0} (E : Evaluation N V W) (w : W) where
  -- y is done, or one of those that are known to be ready and doesn't await
  abbrev pub one_over : (N → Bool) → N → Bool
  one_over known y = is_done E w y || (not (E.awaits w y) && known y)

  abbrev pub over : (N → Bool) → List N → Bool
  over known [] = true
  over known (y ∷ ys) = one_over known y && over known ys

  -- x is ready where these are
  abbrev pub ready_by : (N → Bool) → N → Bool
  ready_by known x = is_stamped E w x && (is_async (phase E w x) && (not (E.begun w x)
      && (no_error (E.node w (root_of E w x)).error && over known (waits E w x))))

  abbrev pub AreReady : (N → Bool) → Type 0
  AreReady known = (y : N) → known y ≡ true → IsReady E w y

  -- what gathering rests on: a module that waits is among the waiters of what it waits for, and no module has two orders
  pub record IsJoined : Type 0 where
    pub joined : (x y : N) → is_in E.same (waits E w x) y ≡ true → is_in E.same (waiters E w y) x ≡ true
    pub distinct : EachOnce E.same (E.stamps w)

  -- of those that wait for y none is missing that is ready where these are
  abbrev pub Shut : N → (N → Bool) → Type 0
  Shut y known = (x : N) → is_in E.same (waiters E w y) x ≡ true → ready_by known x ≡ true → known x ≡ true

  -- nor of those that wait for one that was added and doesn't await
  abbrev pub Closed : (N → Bool) → (N → Bool) → Type 0
  Closed known after = (z : N) → after z ≡ true → known z ≡ false → E.awaits w z ≡ false → Shut z after

  -- where the waiters of y are gathered
  pub record Gathered (y : N) (known after : N → Bool) : Type 0 where
    pub grows : (x : N) → known x ≡ true → after x ≡ true
    pub sound : AreReady after
    pub closed : Closed known after
    pub shut : Shut y after

  -- all that are ready, and no others
  pub record AreAllReady (known : N → Bool) : Type 0 where
    pub sound : AreReady known
    pub whole : (x : N) → IsReady E w x → known x ≡ true
