use Rattle.esm_eval.proofs.OneEvaluation.{one_evaluation}
use Rattle.esm_eval.proofs.laws.one_evaluation.Goals as goal

pub returns : goal.returns
returns g c = one_evaluation _ _
