use Rattle.esm_values.specs.Plans.{Follows as follows}
use Rattle.esm_values.specs.Code.{value_of}
use Rattle.esm_expr_eval.proofs.sums.throws.Goals as goal

pub returns-in-Ok : goal.returns-in-Ok
returns-in-Ok g c = λ rest. follows.asks (value_of c.in-Ok.error) c.in-Ok.ensures follows.ends

pub returns-in-Err : goal.returns-in-Err
returns-in-Err g c = λ rest. follows.stops c.in-Err.ensures
