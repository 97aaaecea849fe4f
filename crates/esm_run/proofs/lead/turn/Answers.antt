use Rattle.std.proofs.Common.{subst}
use Rattle.std.specs.Prelude.{IfSome}
use Rattle.esm_ast.specs.Outcome.{outcome_view}
use Rattle.esm_loads.specs.Arrival.{AreResolved}
use Rattle.esm_machine.specs.Machine.{state_of}
use Rattle.esm_machine.specs.Represents.{maps_of}
use Rattle.esm_run.proofs.EndLemmas.{may_take, live_of}
use Rattle.esm_run.proofs.lead.turn.Goals as goal

pub deliver_resolved-requires-clause-may : goal.deliver_resolved-requires-clause-may
deliver_resolved-requires-clause-may c = may_take (state_of c.args.machine.now) _ c.requires.asked

pub deliver_resolved-requires-clause-targets : goal.deliver_resolved-requires-clause-targets
deliver_resolved-requires-clause-targets c = λ live.
    let m = state_of c.args.machine.now in
    subst (λ o. IfSome o (AreResolved (maps_of m) c.args.url.now (outcome_view c.args.posted.now.outcome))) c.in-Some.is (c.requires.targets live)

pub deliver-requires : goal.deliver-requires
deliver-requires c = may_take (state_of c.args.machine.now) _ c.requires.asked

pub returns-in-Some : goal.returns-in-Some
returns-in-Some c = c.deliver_resolved.ensures.turn (live_of (state_of c.args.machine.now) _ c.requires.asked)

pub returns-in-None : goal.returns-in-None
returns-in-None c = c.deliver.ensures.turn (live_of (state_of c.args.machine.now) _ c.requires.asked)
