use Rattle.std.proofs.Common.{◌≡◌, None}
use Rattle.esm_loads.specs.Arrival.{next}
use Rattle.esm_machine.specs.ModuleStore.{seen_of}
use Rattle.esm_machine_tests.specs.Fresh.{IsFresh}
use Rattle.esm_machine_tests.proofs.store.load_all.Given as goal

abbrev pub invariant-loop-round : goal.invariant-loop-round
invariant-loop-round l = record {
  fresh : IsFresh l.store;
  answered : next (seen_of l.store).loading ≡ None;
}
