use Rattle.std.proofs.Common.{ap, ◌∙◌, arith}
use Rattle.esm_env.proofs.OwnLemmas.{placed_below, placed_name}
use Rattle.esm_env.specs.declared.slots.Slot.{Slot}
use Rattle.esm_env.proofs.scope.ModuleScope.name_at.Goals as goal

pub returns-then-place-len : goal.returns-then-place-len
returns-then-place-len c = λ x e. c.as_str.ensures.value ∙ ap (λ (s : Slot). s.name) c.index.ensures ∙ placed_name c.args.self.now.slots.items x c.args.place _ e

pub returns-else-place-len : goal.returns-else-place-len
returns-else-place-len c = λ x e.
    let below = placed_below c.args.self.now.slots.items x c.args.place e in
    absurd (omega (arith, below, c.if-place-len.false, c.len.ensures, c.args.self.now.slots.ok.0))
