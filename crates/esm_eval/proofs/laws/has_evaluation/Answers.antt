use Rattle.esm_eval.proofs.HasEvaluation.{has_evaluation}
use Rattle.esm_eval.proofs.laws.has_evaluation.Goals as goal

pub returns : goal.returns
returns g c = has_evaluation _ _ _ _ _
