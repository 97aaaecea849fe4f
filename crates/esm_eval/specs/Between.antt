-- What holds between two calls of evaluation holds on, whatever else is done, as long as evaluation has come as far.
use Rattle.std.specs.Prelude.{◌≡◌, ℕ, Bool, false, List}
use Rattle.esm_eval.specs.Evaluation.{Evaluation, IsAsFar}
use Rattle.esm_eval.specs.Begins.{HaveBegunOnce}
use Rattle.esm_eval.specs.Table.{no_nodes, with_one}
use Rattle.esm_eval.specs.Host.{evaluation}
use Rattle.esm_eval.specs.declared.host.EvalHost.{EvalHost}

-- in any world
abbrev pub StaysBetween : {N V W : Type 0} → Evaluation N V W → Type 0
StaysBetween {N} {V} {W} E = (w v : W) → IsAsFar E w v → HaveBegunOnce E w → HaveBegunOnce E v

module _ {B : Type 0} (targets : B → ℕ → List ℕ) (awaits begun : B → ℕ → Bool) where
  -- the same bodies have begun
  abbrev pub BegunAlike : B → B → Type 0
  BegunAlike b c = (x : ℕ) → begun c x ≡ begun b x

  -- over nodes, promises and bodies, whatever is done to promises and modules
  pub record HostsStayBetween : Type 0 where
    -- where there is no node and no body has begun
    pub opens : (w : EvalHost B) → w.nodes ≡ no_nodes → ((x : ℕ) → begun w.bodies x ≡ false)
        → HaveBegunOnce (evaluation targets awaits begun) w
    -- where the nodes are the same
    pub same : (w v : EvalHost B) → v.nodes ≡ w.nodes → BegunAlike w.bodies v.bodies
        → HaveBegunOnce (evaluation targets awaits begun) w → HaveBegunOnce (evaluation targets awaits begun) v
    -- where there is a node more
    pub one_more : (w v : EvalHost B) → v.nodes ≡ with_one w.nodes → BegunAlike w.bodies v.bodies
        → HaveBegunOnce (evaluation targets awaits begun) w → HaveBegunOnce (evaluation targets awaits begun) v
