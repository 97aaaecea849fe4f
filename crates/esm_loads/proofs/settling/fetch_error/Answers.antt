use Rattle.std.proofs.Common.{ap, ◌∙◌}
use Rattle.esm_values.specs.Errors.{make_error, fault}
use Rattle.esm_values.specs.declared.errors.FaultKind.TheVariants.{TypeError}
use Rattle.esm_loads.proofs.Places.{on_ok}
use Rattle.esm_loads.proofs.settling.fetch_error.Goals as goal

pub returns-clause-ok : goal.returns-clause-ok
returns-clause-ok c = on_ok c.make.result _ _ c.make.ensures.ok (λ e. e ∙ ap (λ m. make_error c.args.errors.now (fault TypeError m)) (c.as_str.ensures.value ∙ c.in_ok-message.ensures.ok))
