use Rattle.std.proofs.Common.{ap, refl, false}
use Rattle.esm_record.specs.Delivered.{deliveries_of}
use Rattle.esm_run.specs.Written.{change_of}
use Rattle.esm_run.proofs.GeneratedLemmas.{generated_none, generated_run}
use Rattle.esm_run.proofs.ReportLemmas.{ended_if}
use Rattle.esm_run.proofs.generated.run_generated.Goals as goal

pub returns-in_default-clause-run : goal.returns-in_default-clause-run
returns-in_default-clause-run g c = generated_none c.has_standard_run.ensures c.args.generation.now _ _ (change_of g.K.Sink.written g.K.Sink.faults c.args.out.now c.args.out.now) refl (ap deliveries_of c.new.ensures.items) (refl, refl)

pub end_generated-status-requires-clause-ended : goal.end_generated-status-requires-clause-ended
end_generated-status-requires-clause-ended g c = ended_if _ c.empty-map.result c.in-Ok.prepared.entry false c.run_graph-machine.result.machine (deliveries_of c.run_graph-machine.result.taken.items) c.run_graph-machine.ensures.ends

pub returns-clause-run : goal.returns-clause-run
returns-clause-run g c = generated_run c.has_standard_run.ensures c.args.generation.now c.empty-map.result c.in-Ok.prepared.entry c.run_graph-machine.result.machine (deliveries_of c.run_graph-machine.result.taken.items) c.end_generated-status.result
    (change_of g.K.Sink.written g.K.Sink.faults c.args.out.now c.end_generated-status.new.out) c.in-Ok.prepared.sources.items c.run_graph-machine.result.sources.items
    c.empty-map.ensures c.in-Ok.ensures.entry c.run_graph-machine.ensures c.in-Ok.ensures.holds c.end_generated-status.ensures
