use Rattle.std.proofs.Common.{Option, drop, ℕ}
use Rattle.esm_link.specs.Faults.{FaultAt, ExportFault}
use Rattle.esm_link.specs.Inner.Graph.{modules_in, AreIndexes}
use Rattle.esm_link.proofs.fault.export_fault.Given as goal

-- what is left decides
abbrev pub invariant-loop-i : goal.invariant-loop-i
invariant-loop-i l = record {
  fault : (f : Option (FaultAt ℕ)) → ExportFault (modules_in l.graph) l.x.0 (drop l.i l.exports) f → ExportFault (modules_in l.graph) l.x.0 l.exports f;
  indexes : AreIndexes (modules_in l.graph) l.indexes;
}
