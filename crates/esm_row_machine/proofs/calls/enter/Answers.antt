use Rattle.std.proofs.Common.{◌-◌, ap, refl, ◌∙◌, arith}
use Rattle.esm_row_machine.proofs.Entered.{slice_is, entered}
use Rattle.esm_row_machine.proofs.calls.enter.Goals as goal

pub returns-in_ok-begin_any : goal.returns-in_ok-begin_any
returns-in_ok-begin_any c =
    let s = c.args.machine.now in
    let long = c.len-there.ensures ∙ s.operands.ok.0 in
    entered s c.args.function c.args.row.now c.args.arguments (c.len-there.result - c.args.arguments) (omega (arith, c.if-arguments-there.true, long)) (ap (λ n. n - c.args.arguments) long)
    _ (slice_is c.deref.result.now s.operands.items (c.len-there.result - c.args.arguments) c.deref.ensures.value) c.pass_any.new.names.items c.in_ok-pass_any.ensures
    (record s { operands = c.take_callee.new.operands; names = c.begin_any.new.names }) c.take_callee.ensures c.in_ok-begin_any.ensures refl refl
    _ refl refl (c.len-left.ensures ∙ c.args.row.now.ops.ok.0) (c.len-names.ensures ∙ s.names.ok.0) refl (c.len-handlers.ensures ∙ s.handlers.ok.0)
