use Rattle.esm_rewriting.proofs.Arguments.{argument_missing}
use Rattle.esm_row_machine.proofs.calls.argument.Goals as goal

pub returns-else-place-values : goal.returns-else-place-values
returns-else-place-values c = argument_missing c.args.values.now c.args.place c.if-place-values.false
