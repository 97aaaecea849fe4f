use Rattle.std.proofs.Common.{refl, subst}
use Rattle.esm_run.specs.Inner.Endings.{EndsRun}
use Rattle.esm_run.specs.Written.{change_of}
use Rattle.esm_run.proofs.ReportLemmas.{unended}
use Rattle.esm_run.proofs.top.end_command.Goals as goal

pub returns-in-Ok : goal.returns-in-Ok
returns-in-Ok g c = subst (λ front. EndsRun c.args.machine front c.end_run.result (change_of g.K.Sink.written g.K.Sink.faults c.args.out.now c.end_run.new.out)) c.in-Ok.ensures c.end_run.ensures

pub returns-in-Err : goal.returns-in-Err
returns-in-Err g c = unended c.args.machine _ (change_of g.K.Sink.written g.K.Sink.faults c.args.out.now c.args.out.now) (refl, refl)
