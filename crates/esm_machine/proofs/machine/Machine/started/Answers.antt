use Rattle.std.proofs.Common.{◌∙◌, ap, length}
use Rattle.esm_rewriting.specs.Keeps.{started}
use Rattle.esm_machine.specs.Machine.{state_of}
use Rattle.esm_machine.proofs.Told.{starts_at, starts_told}
use Rattle.esm_machine.proofs.machine.Machine.started.Goals as goal

pub returns-clause-state : goal.returns-clause-state
returns-clause-state c = c.starts_in.ensures ∙ ap (λ es. length (started es)) c.events.ensures ∙ starts_at c.self.inside.parts c.self.inside.stopped c.args.self.now c.self.view_is

pub returns-clause-standard : goal.returns-clause-standard
returns-clause-standard c =
    starts_told (state_of c.args.self.now) _ (c.starts_in.ensures ∙ ap (λ es. length (started es)) c.events.ensures ∙ starts_at c.self.inside.parts c.self.inside.stopped c.args.self.now c.self.view_is)
