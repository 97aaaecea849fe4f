use Rattle.esm_values.specs.Plans.{Follows as follows}
use Rattle.esm_expr_eval.proofs.frame.print.Goals as goal

pub returns-in-Ok-print : goal.returns-in-Ok-print
returns-in-Ok-print g c = follows.asks tt c.in-Ok.ensures (follows.asks tt c.in-Ok-print.ensures follows.ends)

pub returns-in-Err-print : goal.returns-in-Err-print
returns-in-Err-print g c = follows.asks tt c.in-Ok.ensures (follows.stops c.in-Err-print.ensures)

pub returns-in-Err : goal.returns-in-Err
returns-in-Err g c = follows.stops c.in-Err.ensures
