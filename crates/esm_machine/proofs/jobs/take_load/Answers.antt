use Rattle.std.proofs.Common.{subst, sym}
use Rattle.std.specs.Prelude.{Ok}
use Rattle.esm_machine.specs.Inner.Leads.{MayTakeLoad, TakesLoad}
use Rattle.esm_machine.proofs.jobs.take_load.Goals as goal

pub returns-in-Evaluates : goal.returns-in-Evaluates
returns-in-Evaluates c = subst (λ l. TakesLoad c.args.parts.now c.args.load l c.then.result c.then.new.parts) (sym c.in-Evaluates.is) c.then.ensures

pub settle_import-requires : goal.settle_import-requires
settle_import-requires c = subst (λ l. MayTakeLoad c.args.parts.now c.args.load l) c.in-Fault.is c.requires

pub returns-in-Fault : goal.returns-in-Fault
returns-in-Fault c = subst (λ l. TakesLoad c.args.parts.now c.args.load l (Ok tt) c.settle_import.new.parts) (sym c.in-Fault.is) c.settle_import.ensures
