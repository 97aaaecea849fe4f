use Rattle.esm_values.specs.Code.{value_of}
use Rattle.esm_values.specs.Plans.{Follows as follows}
use Rattle.esm_expr_eval.specs.Terms.Term.{Val}
use Rattle.esm_expr_eval.proofs.Steps.{error_ends}
use Rattle.esm_expr_eval.proofs.frame.error_on.Goals as goal

pub returns-in-Ok-Value : goal.returns-in-Ok-Value
returns-in-Ok-Value g c =
    let made = rw c.in-Ok-Value.field-0-is at c.in-Ok-Value.ensures in
    follows.asks tt c.in-Ok.ensures (made (λ u. Val u))

pub returns-in-Ok-Thrown : goal.returns-in-Ok-Thrown
returns-in-Ok-Thrown g c =
    let made = rw c.in-Ok-Thrown.field-0-is at c.in-Ok-Thrown.ensures in
    follows.asks tt c.in-Ok.ensures (made (λ u. Val u))

pub returns-in-Err-error_from : goal.returns-in-Err-error_from
returns-in-Err-error_from g c = error_ends g.W.World.url_of g.W.World.acts _ _ _ (value_of c.args.value.now) c.in-Err-error_from.end c.in-Ok.ensures c.in-Err-error_from.ensures

pub returns-in-Err : goal.returns-in-Err
returns-in-Err g c = follows.stops c.in-Err.ensures
