use Rattle.std.proofs.Common.{sym, subst, refl}
use Rattle.esm_run.specs.Inner.Generating.{EndsGenerated}
use Rattle.esm_run.specs.Written.{change_of}
use Rattle.esm_run.proofs.GeneratedLemmas.{unsummed}
use Rattle.esm_run.proofs.generated.end_generated.Goals as goal

pub returns-in-Some : goal.returns-in-Some
returns-in-Some g c = subst (λ machine. EndsGenerated machine c.args.count c.write_summary.result (change_of g.K.Sink.written g.K.Sink.faults c.args.out.now c.write_summary.new.out)) (sym c.in-Some.is) c.write_summary.ensures

pub returns-in-None : goal.returns-in-None
returns-in-None g c = unsummed c.args.machine.now c.args.count (change_of g.K.Sink.written g.K.Sink.faults c.args.out.now c.args.out.now) (refl, refl)
