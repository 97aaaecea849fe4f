use Rattle.std.proofs.Common.{◌-◌, length, refl, arith}
use Rattle.esm_row_machine.proofs.Splitting.{index_get, callee_is, callee_none}
use Rattle.esm_row_machine.proofs.calls.callee.Goals as goal

pub returns-then-arguments-there : goal.returns-then-arguments-there
returns-then-arguments-there c =
    let vs = c.args.operands.now in
    let place = length vs - c.args.arguments - 1 in
    callee_is vs c.args.arguments place c.if-arguments-there.true refl c.index-operands-place.result (index_get vs place c.index-operands-place.result (omega (arith, c.if-arguments-there.true)) c.index-operands-place.is)
    c.function_of.result c.function_of.ensures

pub returns-else-arguments-there : goal.returns-else-arguments-there
returns-else-arguments-there c = callee_none c.args.operands.now c.args.arguments c.if-arguments-there.false
