use Rattle.std.proofs.Common.{subst, ◌<◌}
use Rattle.esm_ports.specs.Asks.{failed_count}
use Rattle.esm_ports.proofs.AnswerLemmas.{failed-more}
use Rattle.esm_ports.proofs.file_source.FileSourceSource.fetch.Goals as goal

pub returns-clause-failed : goal.returns-clause-failed
returns-clause-failed g c failed =
    subst (λ asked. failed_count asked < failed_count c.note.new.self) c.self.view_is
    (failed-more c.self.inside.asked c.note.new.self c.in_ok-copy.copy c.note.result c.note.ensures.asked failed)
