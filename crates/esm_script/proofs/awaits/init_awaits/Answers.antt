use Rattle.std.proofs.Common.{refl}
use Rattle.esm_ast.specs.Entries.{init_awaits}
use Rattle.esm_script.proofs.awaits.init_awaits.Goals as goal

pub returns-in-Absent : goal.returns-in-Absent
unfolding init_awaits
returns-in-Absent c = λ exprs. rw c.in-Absent.is refl

pub returns-in-Plain : goal.returns-in-Plain
unfolding init_awaits
returns-in-Plain c = λ exprs. rw c.in-Plain.is refl

pub returns-in-Awaited : goal.returns-in-Awaited
unfolding init_awaits
returns-in-Awaited c = λ exprs. rw c.in-Awaited.is refl
