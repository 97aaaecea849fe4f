use Rattle.esm_machine.proofs.module_store.ModuleStore.run_out.Goals as goal

pub invariant_of-self : goal.invariant_of-self
invariant_of-self c = record { kept = record { sound = c.self.invariant.kept.sound; known = tt }; flags = tt }
