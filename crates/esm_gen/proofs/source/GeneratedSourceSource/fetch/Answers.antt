use Rattle.esm_ports.proofs.AnswerLemmas.{stays-sure}
use Rattle.esm_gen.proofs.source.GeneratedSourceSource.fetch.Goals as goal

pub invariant_of-self : goal.invariant_of-self
invariant_of-self c = record {
  sure = stays-sure c.args.self.now.asked c.note.new.self c.in_ok-copy.copy c.body_at-answer.result c.note.result
      c.note.ensures.asked c.note.ensures.answer c.body_at-answer.ensures.sure c.args.self.now.sure;
}
