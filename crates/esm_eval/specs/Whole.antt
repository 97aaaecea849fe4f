-- Over nodes, promises and bodies an evaluation may begin at each module that is linked.
use Rattle.std.specs.Prelude.{◌≡◌, ℕ, Bool, true, nat_eq, List}
use Rattle.esm_base.specs.Lists.{is_in}
use Rattle.esm_values.specs.Code.{CodeValue}
use Rattle.esm_eval.specs.Host.{HostFits, Outside, evaluation}
use Rattle.esm_eval.specs.Counts.{unentered}
use Rattle.esm_eval.specs.WalkSteps.{IsWhole}
use Rattle.esm_eval.specs.declared.host.EvalHost.{EvalHost}

module _ {B : Type 0} (targets : B → ℕ → List ℕ) (awaits begun linked : B → ℕ → Bool) (knows : B → CodeValue → Type 0)
    (fits : Outside B → Type 0) where
  -- the targets of linked modules are linked
  abbrev pub AreClosed : B → Type 0
  AreClosed b = (x t : ℕ) → linked b x ≡ true → is_in nat_eq (targets b x) t ≡ true → linked b t ≡ true

  -- some modules, m among them, are as `evaluate` asks for
  abbrev pub MayEvaluate : EvalHost B → ℕ → Type 0
  MayEvaluate w m = (modules : List ℕ)
      × IsWhole (evaluation targets awaits begun) (λ v. linked v.bodies) (λ v. unentered v.nodes) modules w m

  abbrev pub HostsMayEvaluate : Type 0
  HostsMayEvaluate = (w : EvalHost B) (m : ℕ) → HostFits fits linked knows w → AreClosed w.bodies → linked w.bodies m ≡ true
      → MayEvaluate w m
