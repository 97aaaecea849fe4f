use Rattle.esm_values.specs.Plans.{Follows as follows}
use Rattle.esm_expr_eval.proofs.Joins.{shows}
use Rattle.esm_expr_eval.proofs.sums.error_from.Goals as goal

pub returns-in-Ok : goal.returns-in-Ok
returns-in-Ok g c =
    let made = rw c.as_str-in-Ok.ensures at c.error_with-in-Ok.ensures in
    rw c.in-Error.is (shows g.W.World.url_of g.W.World.acts _ _ _ _ c.in-Ok.text _ (rw c.in-Error.is at c.in-Ok.ensures) made)

pub returns-in-Err : goal.returns-in-Err
returns-in-Err g c = rw c.in-Error.is (λ rest. follows.stops (rw c.in-Error.is at c.in-Err.ensures))

pub returns-in-Func : goal.returns-in-Func
returns-in-Func g c = rw c.in-Func.is c.throws.ensures

pub returns-in-Namespace : goal.returns-in-Namespace
returns-in-Namespace g c = rw c.in-Namespace.is c.throws-in-Namespace.ensures

pub returns-in-Promise : goal.returns-in-Promise
returns-in-Promise g c = rw c.in-Promise.is c.throws-in-Promise.ensures
