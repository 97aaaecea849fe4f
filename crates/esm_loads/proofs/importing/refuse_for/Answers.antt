-- The fault is that of the end.
use Rattle.std.proofs.Common.{◌≡◌, sym, subst, ◌∙◌}
use Rattle.esm_base.specs.declared.end.End.TheVariants as ends
use Rattle.esm_specifier.specs.declared.fault.SpecFault.{SpecFault}
use Rattle.esm_loads.specs.UrlTable.{specifier_error}
use Rattle.esm_loads.specs.Host.{reject_new}
use Rattle.esm_loads.specs.Hosted.{host_of}
use Rattle.esm_loads.proofs.importing.refuse_for.Goals as goal

same_fault : (f g : SpecFault) → ends.Fault f ≡ ends.Fault g → f ≡ g
same_fault f g e = cc

pub returns-in-Ok-clause-refuses : goal.returns-in-Ok-clause-refuses
returns-in-Ok-clause-refuses c named l f e =
    subst (λ f. host_of named c.refuse.new.promises c.refuse.new.errors l ≡ reject_new (host_of named c.args.promises.now c.args.errors.now l) c.args.promise.0 (specifier_error c.args.referrer.now c.args.specifier.now f))
    (same_fault c.in-Fault.fault f (sym c.in-Fault.is ∙ e)) (c.in-Ok.ensures named l)
