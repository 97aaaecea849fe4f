use Rattle.esm_values.specs.Code.{value_of}
use Rattle.esm_values.specs.Plans.{Follows as follows}
use Rattle.esm_expr_eval.proofs.frame.import_on.Goals as goal

pub returns-in-Ok-import : goal.returns-in-Ok-import
returns-in-Ok-import g c = follows.asks tt c.in-Ok.ensures (follows.asks (value_of c.in-Ok-import.promise) c.in-Ok-import.ensures follows.ends)

pub returns-in-Err-import : goal.returns-in-Err-import
returns-in-Err-import g c = follows.asks tt c.in-Ok.ensures (follows.stops c.in-Err-import.ensures)

pub returns-in-Err : goal.returns-in-Err
returns-in-Err g c = follows.stops c.in-Err.ensures
