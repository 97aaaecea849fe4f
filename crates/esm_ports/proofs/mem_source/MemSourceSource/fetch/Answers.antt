use Rattle.std.proofs.Common.{subst, ◌<◌}
use Rattle.esm_ports.specs.Asks.{failed_count}
use Rattle.esm_ports.specs.MemSources.{SourcePlan}
use Rattle.esm_ports.proofs.AnswerLemmas.{failed-more}
use Rattle.esm_ports.proofs.mem_source.MemSourceSource.fetch.Goals as goal

pub returns-clause-failed : goal.returns-clause-failed
returns-clause-failed c failed =
    subst (λ (s : SourcePlan). failed_count s.asked < failed_count c.note.new.self) c.self.view_is
    (failed-more c.self.inside.asked c.note.new.self c.in_ok-copy.copy c.note.result c.note.ensures.asked failed)
