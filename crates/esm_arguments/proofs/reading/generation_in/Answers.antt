use Rattle.std.proofs.Common.{ap, true, false, ◌∙◌}
use Rattle.esm_arguments.specs.Commands.{generation_said}
use Rattle.esm_arguments.proofs.Words.{generation_words}
use Rattle.esm_arguments.proofs.reading.generation_in.Goals as goal

pub returns-then-ne : goal.returns-then-ne
returns-then-ne c = generation_words c.args.words.now c.first-item.result _ true c.in-len1-up.len_at_least c.first-item.is c.as_str.ensures.value c.if-ne.ensures

pub returns-in-Some : goal.returns-in-Some
returns-in-Some c =
    let said = rw c.in-Some.is at c.in_ok-said-in-len1-up.ensures in
    c.read_generated.ensures ∙ ap generation_said said
    ∙ generation_words c.args.words.now c.first-item.result _ false c.in-len1-up.len_at_least c.first-item.is c.as_str.ensures.value c.if-ne.ensures

pub returns-in-None : goal.returns-in-None
returns-in-None c =
    let said = rw c.in-None.is at c.in_ok-said-in-len1-up.ensures in
    ap generation_said said
    ∙ generation_words c.args.words.now c.first-item.result _ false c.in-len1-up.len_at_least c.first-item.is c.as_str.ensures.value c.if-ne.ensures
