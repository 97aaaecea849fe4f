use Rattle.std.proofs.Common.{ap, ◌∙◌}
use Rattle.esm_values.specs.Errors.{fault, make_error}
use Rattle.esm_values.specs.Value.{Error}
use Rattle.esm_values.specs.declared.errors.FaultKind.TheVariants as kinds
use Rattle.esm_machine.specs.Inner.Parts.{parts_with_errors}
use Rattle.esm_machine.proofs.linking.fault_error.Goals as goal

pub returns-clause-value : goal.returns-clause-value
returns-clause-value c = ap (λ id. Error id) c.in_ok-error.ensures.id

pub returns-clause-made : goal.returns-clause-made
returns-clause-made c =
    let p = c.args.parts.now in
    ap (λ es. parts_with_errors p es) (c.in_ok-error.ensures.ok
    ∙ ap (λ text. make_error p.host.bodies.errors (fault kinds.SyntaxError text)) c.as_str.ensures.value
    ∙ ap (λ f. make_error p.host.bodies.errors f) c.in_ok-text.ensures)
