use Rattle.std.proofs.Common.{subst, sym}
use Rattle.esm_env.specs.Placed.{names_of}
use Rattle.esm_rows.specs.Making.{IsTold}
use Rattle.esm_rows.proofs.owns.own_op.Goals as goal

pub returns-in-Name : goal.returns-in-Name
returns-in-Name c = λ p told.
    let name = subst (λ q. IsTold (names_of c.args.scope.now) c.args.texts.now q p) c.in-Name.is told in
    subst (λ q. IsTold (names_of c.args.scope.now) c.args.texts.now c.own_name.result q) (sym name.2) (c.own_name.ensures name.0 name.1)
