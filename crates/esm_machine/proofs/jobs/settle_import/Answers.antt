use Rattle.esm_promise.specs.Code.{settled_of}
use Rattle.esm_machine.proofs.LoadJobs.{settles_import}
use Rattle.esm_machine.proofs.jobs.settle_import.Goals as goal

pub returns : goal.returns
returns c = settles_import c.args.parts.now c.args.load c.in-Some.promise.0 (settled_of c.args.how) c.settle.new.self c.in-Some.ensures c.settle.ensures
