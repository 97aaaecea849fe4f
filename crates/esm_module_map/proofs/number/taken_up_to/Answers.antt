use Rattle.esm_module_map.proofs.Firsts.{taken_firsts, taken_past}
use Rattle.esm_module_map.proofs.number.taken_up_to.Goals as goal

pub returns-then-place-from-clause-none : goal.returns-then-place-from-clause-none
returns-then-place-from-clause-none c = λ numbers caller none. taken_past caller numbers c.args.from c.args.place c.if-place-from.true none

pub returns-else-place-from-clause-none : goal.returns-else-place-from-clause-none
returns-else-place-from-clause-none c = λ numbers caller none. taken_firsts caller numbers c.args.from c.args.place none
