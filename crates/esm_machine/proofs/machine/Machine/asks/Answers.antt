use Rattle.std.proofs.Common.{[], Some, None, refl}
use Rattle.esm_machine.specs.Machine.{state_of}
use Rattle.esm_machine.proofs.Told.{asks_at, asks_told}
use Rattle.esm_machine.proofs.machine.Machine.asks.Goals as goal

pub returns-in-None-clause-open : goal.returns-in-None-clause-open
returns-in-None-clause-open c =
    let kept = rw c.in-None.is at c.self.invariant in
    asks_at c.self.inside.parts c.self.inside.stopped c.args.self.now c.self.view_is None _ c.in-None.is (c.asks-asks.ensures.«open» kept.0.order.whole)

pub returns-in-None-clause-standard : goal.returns-in-None-clause-standard
returns-in-None-clause-standard c =
    let kept = rw c.in-None.is at c.self.invariant in
    asks_told (state_of c.args.self.now) _ (asks_at c.self.inside.parts c.self.inside.stopped c.args.self.now c.self.view_is None _ c.in-None.is (c.asks-asks.ensures.«open» kept.0.order.whole))

pub returns-in-Some-clause-open : goal.returns-in-Some-clause-open
returns-in-Some-clause-open c =
    asks_at c.self.inside.parts c.self.inside.stopped c.args.self.now c.self.view_is (Some c.in-Some.field-0) [] c.in-Some.is refl

pub returns-in-Some-clause-standard : goal.returns-in-Some-clause-standard
returns-in-Some-clause-standard c =
    asks_told (state_of c.args.self.now) [] (asks_at c.self.inside.parts c.self.inside.stopped c.args.self.now c.self.view_is (Some c.in-Some.field-0) [] c.in-Some.is refl)

pub returns-in-None-clause-usable : goal.returns-in-None-clause-usable
returns-in-None-clause-usable c =
    let kept = rw c.in-None.is at c.self.invariant in
    c.asks-asks.ensures.usable kept.0.order.whole
