use Rattle.std.proofs.Common.{Some, None, refl}
use Rattle.esm_machine.proofs.Told.{open_told}
use Rattle.esm_machine.proofs.machine.Machine.is_open.Goals as goal

pub returns-in-None : goal.returns-in-None
returns-in-None c =
    let kept = rw c.in-None.is at c.self.invariant in
    open_told c.self.inside.parts c.self.inside.stopped c.args.self.now c.self.view_is None c.args.url.now _ c.in-None.is (c.is_open.ensures kept.0.order.whole)

pub returns-in-Some : goal.returns-in-Some
returns-in-Some c = open_told c.self.inside.parts c.self.inside.stopped c.args.self.now c.self.view_is (Some c.in-Some.field-0) c.args.url.now _ c.in-Some.is refl
