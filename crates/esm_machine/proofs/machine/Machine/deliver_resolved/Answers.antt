use Rattle.std.proofs.Common.{Ok, Err, Some, refl, subst, sym, ◌∙◌}
use Rattle.esm_ast.specs.Outcome.{outcome_view}
use Rattle.esm_loads.specs.Arrival.{AreResolved}
use Rattle.esm_machine.specs.Machine.{MachineParts, state_of}
use Rattle.esm_machine.specs.Represents.{maps_of}
use Rattle.esm_machine.proofs.Told.{may_at, stopped_at, takes_at, viewed}
use Rattle.esm_machine.proofs.machine.Machine.deliver_resolved.Goals as goal

pub run_turn-requires-clause-sound : goal.run_turn-requires-clause-sound
run_turn-requires-clause-sound c =
    let kept = rw c.in-None.is at c.self.invariant in
    kept.0

pub run_turn-requires-clause-open : goal.run_turn-requires-clause-open
run_turn-requires-clause-open c =
    may_at c.self.inside.parts c.self.inside.stopped c.args.self.now c.self.view_is c.args.url.now c.in-None.is c.requires.may

pub run_turn-requires-clause-answered : goal.run_turn-requires-clause-answered
run_turn-requires-clause-answered c =
    let kept = rw c.in-None.is at c.self.invariant in
    kept.1

pub run_turn-requires-clause-targets : goal.run_turn-requires-clause-targets
run_turn-requires-clause-targets c =
    subst (λ (m : MachineParts). AreResolved (maps_of (state_of m)) c.args.url.now (outcome_view c.args.outcome.now) c.args.targets.now) (sym c.self.view_is)
    (c.requires.targets (sym (stopped_at c.self.inside.parts c.self.inside.stopped c.args.self.now c.self.view_is) ∙ c.in-None.is))

pub returns-in-Ok-clause-turn : goal.returns-in-Ok-clause-turn
returns-in-Ok-clause-turn c = λ e.
    takes_at c.self.inside.parts c.self.inside.stopped c.args.self.now c.self.view_is (viewed c.run_turn.new.parts c.self.inside.stopped) c.args.url.now (outcome_view c.args.outcome.now)
    (Ok tt) c.in-None.is c.in-None.is c.requires.may c.in-Ok.ensures.tree c.in-Ok.ensures.turn

pub returns-in-Err-clause-turn : goal.returns-in-Err-clause-turn
returns-in-Err-clause-turn c = λ e.
    takes_at c.self.inside.parts c.self.inside.stopped c.args.self.now c.self.view_is (viewed c.run_turn.new.parts (Some c.in-Err.end)) c.args.url.now (outcome_view c.args.outcome.now)
    (Err c.in-Err.end) c.in-None.is refl c.requires.may c.in-Err.ensures.tree c.in-Err.ensures.turn
