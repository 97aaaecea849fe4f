use Rattle.std.proofs.Common.{refl, subst, sym}
use Rattle.std.specs.Prelude.{Ok}
use Rattle.esm_machine.specs.Inner.Leads.{TakesEntry}
use Rattle.esm_machine.specs.declared.parts.EntryState.TheVariants as states
use Rattle.esm_machine.proofs.jobs.take_entry.Goals as goal

pub returns-in-Evaluates : goal.returns-in-Evaluates
returns-in-Evaluates c = subst (λ l. TakesEntry c.args.parts.now l c.then.result c.then.new.parts) (sym c.in-Evaluates.is) c.then.ensures

pub returns-in-Fault : goal.returns-in-Fault
returns-in-Fault c =
    subst (λ l. TakesEntry c.args.parts.now l (Ok tt) (record c.args.parts.now { entry = states.Failed c.in-Fault.value })) (sym c.in-Fault.is) refl
