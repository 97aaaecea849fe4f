-- The promise is rejected with a new error.
use Rattle.std.proofs.Common.{ap, ◌∙◌}
use Rattle.esm_values.specs.Errors.{make_error, fault}
use Rattle.esm_values.specs.declared.errors.FaultKind.TheVariants.{TypeError}
use Rattle.esm_loads.specs.UrlTable.{specifier_error}
use Rattle.esm_loads.proofs.HostFacts.{rejected_new}
use Rattle.esm_loads.proofs.importing.refuse.Goals as goal

pub returns : goal.returns
returns c named l =
    let made = c.in_ok-error.ensures.ok ∙ ap (λ m. make_error c.args.errors.now (fault TypeError m)) (c.as_str.ensures.value ∙ c.in_ok-message.ensures) in
    rejected_new named c.args.promises.now c.reject_with.new.promises c.args.errors.now c.make.new.self l c.args.promise.0 c.in_ok-error.error.0 (specifier_error c.args.referrer.now c.args.specifier.now c.args.fault) made c.in_ok-error.ensures.id c.reject_with.ensures
