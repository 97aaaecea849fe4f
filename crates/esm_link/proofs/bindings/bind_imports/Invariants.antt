use Rattle.std.proofs.Common.{Option, drop, ℕ}
use Rattle.esm_link.specs.Faults.{FaultAt, ImportFault}
use Rattle.esm_link.specs.Inner.Graph.{modules_in, AreIndexes}
use Rattle.esm_link.proofs.Imports.{BindsOn}
use Rattle.esm_link.proofs.bindings.bind_imports.Given as goal

-- what is left decides, and with what is left each is bound
abbrev pub invariant-loop-i : goal.invariant-loop-i
invariant-loop-i l = record {
  fault : (f : Option (FaultAt ℕ)) → ImportFault (modules_in l.graph) l.x.0 (drop l.i l.imports) f → ImportFault (modules_in l.graph) l.x.0 l.imports f;
  each : BindsOn (modules_in l.graph) l.x.0 l.imports l.bound.items l.i;
  indexes : AreIndexes (modules_in l.graph) l.indexes;
}
