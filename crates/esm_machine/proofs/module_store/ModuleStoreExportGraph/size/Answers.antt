use Rattle.esm_machine.proofs.module_store.ModuleStoreExportGraph.size.Goals as goal

pub count_of-requires : goal.count_of-requires
count_of-requires c = c.self.invariant.kept.sound.few

pub count_of-requires-in-Stopped : goal.count_of-requires-in-Stopped
count_of-requires-in-Stopped c = c.self.invariant.kept.sound.few
