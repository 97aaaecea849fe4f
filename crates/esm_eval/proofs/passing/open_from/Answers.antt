use Rattle.std.proofs.Common.{get_or}
use Rattle.std.proofs.lemmas.Option.{slice_get-get_or}
use Rattle.esm_eval.proofs.Inner.Passing as passing
use Rattle.esm_eval.proofs.passing.open_from.Goals as goal

pub loop-place-init : goal.loop-place-init
loop-place-init c = λ p. p

pub loop-place-preserved : goal.loop-place-preserved
loop-place-preserved c = passing.passed_next c.args.nodes.now c.args.waits.now c.args.from c.loop-place.place (get_or c.args.waits.now c.loop-place.place 0) c.is_done.result (slice_get-get_or c.args.waits.now c.loop-place.place 0 c.loop-place-test.true) c.is_done.ensures c.if-is_done.true c.loop-place.invariant

pub returns-in-loop-place-clause-passed : goal.returns-in-loop-place-clause-passed
returns-in-loop-place-clause-passed c = c.loop-place.invariant

pub returns-clause-passed : goal.returns-clause-passed
returns-clause-passed c = passing.passed_all c.args.nodes.now c.args.waits.now c.args.from c.loop-place.place c.loop-place-test.false c.loop-place.invariant
