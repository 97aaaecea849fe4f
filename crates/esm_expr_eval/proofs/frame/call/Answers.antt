use Rattle.std.proofs.Common.{refl, sym, ap}
use Rattle.esm_values.specs.Plans.{Follows as follows}
use Rattle.esm_values.specs.Code.{value_of, values_of}
use Rattle.esm_values.specs.Operators.{look_of, is_func}
use Rattle.esm_expr_eval.proofs.Steps.{enters_function, enters_other}
use Rattle.esm_expr_eval.proofs.frame.call.Goals as goal

pub returns-then-is_pushed : goal.returns-then-is_pushed
returns-then-is_pushed g c =
    let function = c.in-Some.ensures in
    (function, refl, c.if-is_pushed.ensures refl, λ ls. follows.asks tt c.in-Ok.ensures (enters_function g.W.World.url_of g.W.World.acts _ (value_of c.args.callee) (values_of c.args.values.items) ls _ (ap (λ v. is_func (look_of v)) (sym function))))

pub returns-in-Ok-fault : goal.returns-in-Ok-fault
returns-in-Ok-fault g c =
    λ ls. follows.asks tt c.in-Ok.ensures (enters_other g.W.World.url_of g.W.World.acts _ _ (value_of c.args.callee) (values_of c.args.values.items) ls _ _ c.in-None.ensures (follows.asks _ c.in-Ok-fault.ensures follows.ends))

pub returns-in-Ok : goal.returns-in-Ok
returns-in-Ok g c =
    λ ls. follows.asks tt c.in-Ok.ensures (enters_other g.W.World.url_of g.W.World.acts _ _ (value_of c.args.callee) (values_of c.args.values.items) ls _ _ c.in-None.ensures (follows.stops c.in-Err-fault.ensures))

pub returns : goal.returns
returns g c = λ ls. follows.stops c.in-Err.ensures
