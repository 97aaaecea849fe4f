-- What holds of evaluation between two of its calls.
use Rattle.std.specs.Prelude.{◌≡◌, ◌≢◌, true, false, [], None}
use Rattle.esm_base.specs.Lists.{is_in}
use Rattle.esm_eval.specs.Nodes.{NotEntered, Evaluating, EvaluatingAsync}
use Rattle.esm_eval.specs.Evaluation.{Evaluation, phase, waits, waiters, is_done, is_stamped, root_of}

module _ {N V W : Type 0} (E : Evaluation N V W) where
  -- a module for which x waits isn't done
  abbrev pub HasOpenWait : W → N → Type 0
  HasOpenWait w x = (y : N) × (is_in E.same (waits E w x) y ≡ true) × (is_done E w y ≡ false)

  pub record IsBetweenCalls (w : W) : Type 0 where
    -- no walk is under way
    pub idle : (x : N) → phase E w x ≢ Evaluating
    -- a module that no evaluation has entered has no order, isn't done and waits for nothing
    pub unstamped : (x : N) → phase E w x ≡ NotEntered → is_stamped E w x ≡ false
    pub undone : (x : N) → phase E w x ≡ NotEntered → is_done E w x ≡ false
    pub free : (x : N) → phase E w x ≡ NotEntered → waits E w x ≡ []
    pub stamped : (x : N) → phase E w x ≡ EvaluatingAsync → is_stamped E w x ≡ true
    -- a module that waits is among the waiters of what it waits for
    pub joined : (x y : N) → is_in E.same (waits E w x) y ≡ true → is_in E.same (waiters E w y) x ≡ true
    -- a module that still waits has a wait that isn't done
    pub waiting : (x : N) → phase E w x ≡ EvaluatingAsync → E.begun w x ≡ false → (E.node w (root_of E w x)).error ≡ None
        → HasOpenWait w x

  -- nothing of w was evaluated
  pub record IsOpening (w : W) : Type 0 where
    pub phases : (x : N) → phase E w x ≡ NotEntered
    pub free : (x : N) → waits E w x ≡ []
    pub undone : (x : N) → is_done E w x ≡ false
    pub stamps : E.stamps w ≡ []
