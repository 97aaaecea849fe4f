use Rattle.std.proofs.Common.{◌∙◌}
use Rattle.esm_machine.specs.Machine.{state_of}
use Rattle.esm_machine.proofs.Told.{log_at, log_told}
use Rattle.esm_machine.proofs.machine.Machine.log.Goals as goal

pub returns-clause-state : goal.returns-clause-state
returns-clause-state c = c.as_bytes.ensures.value ∙ c.log.ensures ∙ log_at c.self.inside.parts c.self.inside.stopped c.args.self.now c.self.view_is

pub returns-clause-standard : goal.returns-clause-standard
returns-clause-standard c =
    log_told (state_of c.args.self.now) _ (c.as_bytes.ensures.value ∙ c.log.ensures ∙ log_at c.self.inside.parts c.self.inside.stopped c.args.self.now c.self.view_is)
