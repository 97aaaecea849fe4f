use Rattle.std.proofs.Common.{ap, ◌∙◌}
use Rattle.esm_values.specs.Errors.{make_error, fault}
use Rattle.esm_values.specs.declared.errors.FaultKind.TheVariants.{SyntaxError}
use Rattle.esm_loads.proofs.Places.{on_ok}
use Rattle.esm_loads.proofs.ArrivedEntry.{parse_printed}
use Rattle.esm_loads.proofs.arriving.parse_fault.Goals as goal

pub returns-clause-ok : goal.returns-clause-ok
returns-clause-ok c = on_ok c.make.result _ _ c.make.ensures.ok (λ e. e ∙ ap (λ m. make_error c.args.errors.now (fault SyntaxError m)) (c.as_str.ensures.value ∙ c.in_ok-message.ensures.ok ∙ parse_printed c.args.url.now _ _ c.description-description.ensures))
