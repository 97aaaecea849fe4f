use Rattle.std.proofs.Common.{Vec, Global, ℕ, ap, ◌∙◌}
use Rattle.esm_machine.specs.Machine.{state_of}
use Rattle.esm_machine.proofs.Told.{log_at, log_told}
use Rattle.esm_machine.proofs.machine.Machine.into_log.Goals as goal

pub returns-clause-state : goal.returns-clause-state
returns-clause-state c = ap (λ (v : Vec ℕ Global). v.items) c.into_bytes.ensures.value ∙ c.into_log.ensures ∙ log_at c.self.inside.parts c.self.inside.stopped c.args.self c.self.view_is

pub returns-clause-standard : goal.returns-clause-standard
returns-clause-standard c =
    log_told (state_of c.args.self) _ (ap (λ (v : Vec ℕ Global). v.items) c.into_bytes.ensures.value ∙ c.into_log.ensures ∙ log_at c.self.inside.parts c.self.inside.stopped c.args.self c.self.view_is)
