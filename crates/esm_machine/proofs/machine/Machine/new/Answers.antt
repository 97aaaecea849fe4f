use Rattle.std.specs.Arc.{arc_value}
use Rattle.esm_machine.proofs.OpenedParts.{opens_run}
use Rattle.esm_machine.proofs.machine.Machine.new.Goals as goal

pub returns-clause-represents : goal.returns-clause-represents
returns-clause-represents c = opens_run c.in_ok-parts.parts (arc_value c.args.map) c.args.entry c.args.trace c.in_ok-parts.ensures.opens
