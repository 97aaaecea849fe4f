use Rattle.std.proofs.Common.{◌≡◌, length}
use Rattle.esm_ports.specs.Sink.{WroteBefore}
use Rattle.esm_ports.proofs.PutLemmas.{LeadsOn}
use Rattle.esm_ports.proofs.put.put_all.Given as goal

abbrev pub invariant-loop-rest : goal.invariant-loop-rest
invariant-loop-rest g l = record {
  wrote : WroteBefore l.rest l.bytes (g.K.Sink.written l.initial.out) (g.K.Sink.written l.out);
  same : g.K.Sink.faults l.out ≡ g.K.Sink.faults l.initial.out;
  calls : LeadsOn g.K.Sink.write_gives l.rest l.out l.bytes l.initial.out;
}

abbrev pub decreases-loop-rest : goal.decreases-loop-rest
decreases-loop-rest g l = length l.rest
