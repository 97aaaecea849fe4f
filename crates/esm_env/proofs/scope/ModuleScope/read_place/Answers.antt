use Rattle.std.proofs.Common.{ap, arith}
use Rattle.std.specs.Prelude.{Some, None, length}
use Rattle.esm_values.specs.Code.{value_of}
use Rattle.esm_env.proofs.OwnLemmas.{read_slot, placed_below}
use Rattle.esm_env.proofs.scope.ModuleScope.read_place.Goals as goal

pub returns-in-Some : goal.returns-in-Some
returns-in-Some c = λ x e. read_slot c.args.self.now.slots.items x c.args.place (Some (value_of c.in-Some.value.now)) (λ d. rw c.as_slice-slots.ensures.value at (c.in-Some.ensures d)) e

pub returns-in-None : goal.returns-in-None
returns-in-None c = λ x e. read_slot c.args.self.now.slots.items x c.args.place None (λ d. rw c.as_slice-slots.ensures.value at (c.in-None.ensures d)) e

pub returns-else-place-slots : goal.returns-else-place-slots
returns-else-place-slots c = λ x e.
    let below = placed_below c.args.self.now.slots.items x c.args.place e in
    absurd (omega (arith, below, c.if-place-slots.false, ap length c.as_slice-slots.ensures.value))
