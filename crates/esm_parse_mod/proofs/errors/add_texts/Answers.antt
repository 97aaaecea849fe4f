use Rattle.std.proofs.Common.{◌∙◌, ◌++◌, ◌∷◌, [], ap, refl}
use Rattle.esm_parse_mod.specs.Inner.Names.{texts}
use Rattle.esm_parse_mod.proofs.NamesLemmas.{at_is, past, texts_push, gathered, all_gathered}
use Rattle.esm_parse_mod.proofs.errors.add_texts.Goals as goal

pub loop-text-init : goal.loop-text-init
loop-text-init c = refl

pub loop-text-preserved : goal.loop-text-preserved
loop-text-preserved c =
    let l = c.loop-text in
    let all = c.args.added.now in
    let e = at_is all l.text-index _ c.loop-text-test.true c.text-item.is in
    l.invariant ∙ gathered _ _ (c.text-item.result ∷ []) _ _ (ap texts c.in_ok-push.ensures.items ∙ texts_push _ _ ∙ ap (λ t. texts l.names.items ++ t ∷ []) c.as_str.ensures.value) e

pub returns : goal.returns
returns c =
    let l = c.loop-text in
    all_gathered (texts c.args.names.now.items) _ c.args.added.now _ l.invariant (past c.args.added.now l.text-index c.loop-text-test.false)
