use Rattle.esm_env.specs.declared.scope.Wrote.TheVariants as wrote
use Rattle.esm_body.proofs.NamesWritten.{throws_as}
use Rattle.esm_body.proofs.writes.throw_wrote.Goals as goal

pub returns-in-Unset : goal.returns-in-Unset
returns-in-Unset c = rw c.in-Unset.is (throws_as c.args.name.now _ _ wrote.Unset c.args.errors.now c.refuse.result c.refuse.new.errors (λ o h. h) c.refuse.ensures)

pub returns-in-Constant : goal.returns-in-Constant
returns-in-Constant c = rw c.in-Constant.is (throws_as c.args.name.now _ _ wrote.Constant c.args.errors.now c.refuse-in-Constant.result c.refuse-in-Constant.new.errors (λ o h. h) c.refuse-in-Constant.ensures)

pub returns-in-Undeclared : goal.returns-in-Undeclared
returns-in-Undeclared c = rw c.in-Undeclared.is (throws_as c.args.name.now _ _ wrote.Undeclared c.args.errors.now c.refuse-in-Undeclared.result c.refuse-in-Undeclared.new.errors (λ o h. h) c.refuse-in-Undeclared.ensures)
