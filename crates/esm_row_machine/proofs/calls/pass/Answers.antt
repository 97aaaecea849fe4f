use Rattle.esm_row_machine.proofs.Passed.{pass_starts, pass_goes, pass_ends}
use Rattle.esm_row_machine.proofs.calls.pass.Goals as goal

pub passing-init : goal.passing-init
passing-init c = pass_starts c.args.parameters c.args.values.now c.args.names.now.items

pub passing-preserved : goal.passing-preserved
passing-preserved c = rw c.in_ok-push.ensures.items (pass_goes c.args.parameters c.args.values.now c.args.names.now.items c.passing.place c.passing.names.items _ c.passing-test.true c.in_ok-value.ensures c.passing.invariant)

pub returns : goal.returns
returns c = pass_ends c.args.parameters c.args.values.now c.args.names.now.items c.passing.place c.passing.names.items c.passing-test.false c.passing.invariant
