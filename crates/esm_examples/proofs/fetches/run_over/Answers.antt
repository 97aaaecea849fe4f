use Rattle.std.proofs.Common.{rules, arith}
use Rattle.esm_machine.specs.Machine.{state_of}
use Rattle.esm_examples.proofs.DriveLemmas.{driven_new, few_fetched}
use Rattle.esm_examples.proofs.fetches.run_over.Goals as goal

pub loop-fetched-init : goal.loop-fetched-init
loop-fetched-init c = driven_new c.args.map c.args.entry.now c.args.files.now (state_of c.in_ok-machine.machine) c.new-fetched.result.items c.in_ok-machine.ensures (search rules)

pub loop-fetched-smaller : goal.loop-fetched-smaller
loop-fetched-smaller c =
    let few = few_fetched c.deliveries.ensures.few c.has_standard_run.ensures _ _ _ (state_of c.loop-fetched.machine) c.loop-fetched.fetched.items _ c.loop-fetched.invariant (rw c.in-Some.is at c.in_ok-found.ensures) in
    omega (arith, few, c.in_ok-take_turn.ensures.more)

pub loop-fetched-preserved : goal.loop-fetched-preserved
loop-fetched-preserved c = c.in_ok-take_turn.ensures.driven _ _ c.loop-fetched.invariant

pub returns-in_default : goal.returns-in_default
returns-in_default c = c.ended.ensures _ _ _ c.loop-fetched.invariant
