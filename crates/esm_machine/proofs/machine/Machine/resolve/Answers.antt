-- The parts of a machine that hasn't stopped are sound, and its import map is that of the store.
use Rattle.std.proofs.Common.{ap, subst, sym, ◌∙◌}
use Rattle.std.specs.Prelude.{IfOk}
use Rattle.esm_ast.specs.Outcome.{outcome_view}
use Rattle.esm_loads.specs.Arrival.{AreResolved}
use Rattle.esm_machine.specs.Inner.Between.{IsBetweenTurns}
use Rattle.esm_machine.specs.Machine.{MachineParts, state_of}
use Rattle.esm_machine.specs.Represents.{maps_of}
use Rattle.esm_machine.proofs.Arriving.{maps_seen}
use Rattle.esm_machine.proofs.Told.{may_at, stopped_at}
use Rattle.esm_machine.proofs.machine.Machine.resolve.Goals as goal

pub resolve-requires-clause-whole : goal.resolve-requires-clause-whole
resolve-requires-clause-whole c =
    let live = stopped_at c.self.inside.parts c.self.inside.stopped c.args.self.now c.self.view_is ∙ c.requires.live in
    let kept = subst (λ o. IsBetweenTurns o c.self.inside.parts) live c.self.invariant in
    kept.0.order.whole

pub resolve-requires-clause-open : goal.resolve-requires-clause-open
resolve-requires-clause-open c =
    let live = stopped_at c.self.inside.parts c.self.inside.stopped c.args.self.now c.self.view_is ∙ c.requires.live in
    may_at c.self.inside.parts c.self.inside.stopped c.args.self.now c.self.view_is c.args.url.now live c.requires.may

pub returns : goal.returns
returns c =
    subst (λ m. IfOk c.resolve.result (AreResolved m c.args.url.now (outcome_view c.args.outcome.now)))
    (sym (maps_seen c.self.inside.parts.host.bodies.imports) ∙ ap (λ (m : MachineParts). maps_of (state_of m)) c.self.view_is) c.resolve.ensures
