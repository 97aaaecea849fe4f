use Rattle.std.proofs.Common.{ap, true, false, ◌∙◌, map, string_bytes}
use Rattle.std.specs.Prelude.{Some, None}
use Rattle.esm_arguments.specs.Inner.Code.{said_of}
use Rattle.esm_arguments.specs.Said.{said_on}
use Rattle.esm_arguments.proofs.Words.{more_said, last_said}
use Rattle.esm_arguments.proofs.said.said_by.Goals as goal

pub loop-word-init : goal.loop-word-init
loop-word-init c = ap (λ said. said_on (Some said) (map string_bytes c.args.words.now)) c.nothing-said.ensures

pub loop-word-preserved : goal.loop-word-preserved
loop-word-preserved c =
    let told = rw c.in-Some.is at c.in_ok-found.ensures in
    more_said c.args.words.now c.loop-word.word-index c.word-item.result _ (said_of c.loop-word.said) (Some (said_of c.in-Some.more)) c.loop-word-test.true c.word-item.is c.as_str.ensures.value told ∙ c.loop-word.invariant

pub returns-in-None : goal.returns-in-None
returns-in-None c =
    let told = rw c.in-None.is at c.in_ok-found.ensures in
    more_said c.args.words.now c.loop-word.word-index c.word-item.result _ (said_of c.loop-word.said) None c.loop-word-test.true c.word-item.is c.as_str.ensures.value told ∙ c.loop-word.invariant

pub returns-then-is_some : goal.returns-then-is_some
returns-then-is_some c = last_said c.args.words.now c.loop-word.word-index c.loop-word.said true c.loop-word-test.false c.if-is_some.ensures ∙ c.loop-word.invariant

pub returns : goal.returns
returns c = last_said c.args.words.now c.loop-word.word-index c.loop-word.said false c.loop-word-test.false c.if-is_some.ensures ∙ c.loop-word.invariant
