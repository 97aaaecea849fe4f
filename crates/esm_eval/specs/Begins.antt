-- No body begins twice.
use Rattle.std.specs.Prelude.{◌≡◌, ◌⊎◌, true, false, Result}
use Rattle.esm_base.specs.Lists.{EachOnce}
use Rattle.esm_eval.specs.Nodes.{NotEntered, Call, CallAnswer, BodyCalls, module_of}
use Rattle.esm_eval.specs.Evaluation.{Evaluation, phase}
use Rattle.esm_eval.specs.Waiting.{IsBetweenCalls}

module _ {N V W S : Type 0} (E : Evaluation N V W) (acts : BodyCalls N V W S) where
  -- a call for a body that hasn't begun
  abbrev pub First : BodyCalls N V W S
  First w c r v = (E.begun w (module_of c) ≡ false) × acts w c r v

  -- a call for a body begins no other
  pub record BeginsOne : Type 0 where
    pub call : (w v : W) (c : Call N) (r : Result (CallAnswer V c) S) → acts w c r v
        → (x : N) → E.begun v x ≡ true → (E.begun w x ≡ true) ⊎ (x ≡ module_of c)

-- between two calls a body that has begun is of a module that an evaluation has entered, and no module has two orders
pub record HaveBegunOnce {N V W : Type 0} (E : Evaluation N V W) (w : W) : Type 0 where
  pub between : IsBetweenCalls E w
  pub unbegun : (x : N) → phase E w x ≡ NotEntered → E.begun w x ≡ false
  pub distinct : EachOnce E.same (E.stamps w)
