-- Between two calls a module that waits has a wait that isn't done.
use Rattle.std.proofs.Common.{◌≡◌, true, [], ap, sym, ◌∙◌}
use Rattle.esm_base.specs.Lists.{is_in}
use Rattle.esm_eval.specs.Nodes.{BodyCalls}
use Rattle.esm_eval.specs.Evaluation.{Evaluation}
use Rattle.esm_eval.specs.Waiting.{IsBetweenCalls, IsOpening}
use Rattle.esm_eval.specs.Laws.{WaitsStayOpen}
use Rattle.esm_eval.proofs.Amid.{in_like}
use Rattle.esm_eval.proofs.WalkKeeps.{evaluates_keep}
use Rattle.esm_eval.proofs.EndsKeep.{rejects_keep, fulfills_keep}

module _ {N V W S : Type 0} (E : Evaluation N V W) (acts : BodyCalls N V W S) where
  pub opens : (w : W) → IsOpening E w → IsBetweenCalls E w
  opens w o = record {
    idle = λ x h. let k = sym (o.phases x) ∙ h in cc;
    unstamped = λ x h. ap (λ xs. is_in E.same xs x) o.stamps;
    undone = λ x h. o.undone x;
    free = λ x h. o.free x;
    stamped = λ x h. let k = sym (o.phases x) ∙ h in cc;
    joined = λ x y h. let k : is_in E.same [] y ≡ true = in_like E y (o.free x) h in cc;
    waiting = λ x h b e. let k = sym (o.phases x) ∙ h in cc;
  }

  pub waits_stay_open : WaitsStayOpen E acts
  waits_stay_open lawful steady = record {
    opening = opens;
    evaluates = λ w after m p. evaluates_keep E acts lawful steady w after m p;
    fulfills = λ w after m. fulfills_keep E acts lawful steady w after m;
    rejects = λ w after m v. rejects_keep E lawful w after m v;
  }
