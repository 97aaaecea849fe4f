use Rattle.esm_machine.specs.Machine.{state_of}
use Rattle.esm_examples.proofs.DriveLemmas.{driven_more}
use Rattle.esm_examples.proofs.fetches.take_turn.Goals as goal

pub returns-clause-driven : goal.returns-clause-driven
returns-clause-driven c =
    λ maps entry driven.
    driven_more maps entry c.args.files.now (state_of c.args.machine.now) (state_of c.hand_over.new.machine) c.args.fetched.now.items c.push.new.self.items c.args.url _
    c.in_ok-hand_over.ensures c.in_ok-outcome.ensures c.in_ok-push.ensures.items driven
