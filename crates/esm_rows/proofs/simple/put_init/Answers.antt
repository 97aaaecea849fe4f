use Rattle.std.proofs.Common.{refl}
use Rattle.esm_rows.specs.Rows.{Operation as o}
use Rattle.esm_rows.proofs.simple.put_init.Goals as goal

pub returns-in-Absent : goal.returns-in-Absent
returns-in-Absent c = λ row told. rw c.in-Absent.is (c.put.ensures row o.Undefined told refl)

pub returns-in-Plain : goal.returns-in-Plain
returns-in-Plain c = λ row told. rw c.in-Plain.is (c.put_expr.ensures row told)

pub returns-in-Awaited : goal.returns-in-Awaited
returns-in-Awaited c = λ row told. rw c.in-Awaited.is (c.put_await.ensures row told)
