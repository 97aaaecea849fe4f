use Rattle.esm_machine.specs.Machine.{state_of}
use Rattle.esm_machine.proofs.Told.{stopped_at, stopped_told}
use Rattle.esm_machine.proofs.machine.Machine.stopped.Goals as goal

pub returns-clause-state : goal.returns-clause-state
returns-clause-state c = stopped_at c.self.inside.parts c.self.inside.stopped c.args.self.now c.self.view_is

pub returns-clause-standard : goal.returns-clause-standard
returns-clause-standard c =
    stopped_told (state_of c.args.self.now) c.self.inside.stopped (stopped_at c.self.inside.parts c.self.inside.stopped c.args.self.now c.self.view_is)
