use Rattle.esm_env.specs.Placed.{names_of}
use Rattle.esm_rows.proofs.Owned.{first_none, first_some}
use Rattle.esm_rows.proofs.owns.own_first.Goals as goal

pub returns-in-Some : goal.returns-in-Some
returns-in-Some c = λ fs h. first_some (names_of c.args.scope.now) c.in-Some.row c.own_row.result c.own_row.ensures fs (rw c.in-Some.is at h)

pub returns-in-None : goal.returns-in-None
returns-in-None c = λ fs h. first_none (names_of c.args.scope.now) fs (rw c.in-None.is at h)
