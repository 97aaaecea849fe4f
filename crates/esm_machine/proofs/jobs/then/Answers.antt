use Rattle.std.proofs.Common.{ap}
use Rattle.esm_machine.specs.Inner.Parts.{parts_with_promises}
use Rattle.esm_machine.proofs.jobs.then.Goals as goal

pub returns-in-Ok : goal.returns-in-Ok
returns-in-Ok c = ap (λ ps. parts_with_promises c.args.parts.now ps) c.in-Ok.ensures.ok
