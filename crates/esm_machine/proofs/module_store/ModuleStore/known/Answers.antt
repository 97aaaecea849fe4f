use Rattle.std.proofs.Common.{subst}
use Rattle.esm_machine.specs.ModuleStore.{Imported}
use Rattle.esm_machine.specs.Kept.{IsKept}
use Rattle.esm_machine.proofs.module_store.ModuleStore.known.Goals as goal

pub returns : goal.returns
returns c = subst (λ (i : Imported). IsKept i) c.self.view_is c.self.invariant.kept
