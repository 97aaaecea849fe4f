use Rattle.std.proofs.Common.{ap, true, false, ◌∙◌}
use Rattle.std.proofs.lemmas.Result.{IfOk-weaker}
use Rattle.esm_arguments.specs.Commands.{command_said}
use Rattle.esm_arguments.proofs.Words.{command_words}
use Rattle.esm_arguments.proofs.reading.command_in.Goals as goal

pub returns-then-ne : goal.returns-then-ne
returns-then-ne c = command_words c.args.words.now c.first-item.result _ true c.in-len1-up.len_at_least c.first-item.is c.as_str.ensures.value c.args.many c.if-ne.ensures

pub returns-in-Some : goal.returns-in-Some
returns-in-Some c =
    let said = rw c.in-Some.is at c.in_ok-said-in-len1-up.ensures in
    let rest = command_words c.args.words.now c.first-item.result _ false c.in-len1-up.len_at_least c.first-item.is c.as_str.ensures.value c.args.many c.if-ne.ensures in
    IfOk-weaker c.read_said.result _ _ (λ found is. is ∙ ap (command_said c.args.many) said ∙ rest) c.read_said.ensures

pub returns-in-None : goal.returns-in-None
returns-in-None c =
    let said = rw c.in-None.is at c.in_ok-said-in-len1-up.ensures in
    ap (command_said c.args.many) said
    ∙ command_words c.args.words.now c.first-item.result _ false c.in-len1-up.len_at_least c.first-item.is c.as_str.ensures.value c.args.many c.if-ne.ensures
