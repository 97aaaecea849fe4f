use Rattle.std.proofs.Common.{◌∙◌, ◌++◌, ◌∷◌, [], ap, refl}
use Rattle.esm_parse_mod.specs.Inner.Names.{texts, binding_names}
use Rattle.esm_parse_mod.proofs.NamesLemmas.{at_is, past, texts_push, gathered, all_gathered}
use Rattle.esm_parse_mod.proofs.errors.add_bindings.Goals as goal

pub loop-binding-init : goal.loop-binding-init
loop-binding-init c = refl

pub loop-binding-preserved : goal.loop-binding-preserved
unfolding binding_names
loop-binding-preserved c =
    let l = c.loop-binding in
    let e = at_is c.args.bindings.now l.binding-index _ c.loop-binding-test.true c.binding-item.is in
    l.invariant ∙ gathered _ _ (c.binding-item.result.name ∷ []) _ _ (ap texts c.in_ok-push.ensures.items ∙ texts_push _ _ ∙ ap (λ t. texts l.names.items ++ t ∷ []) c.as_str.ensures.value) (ap binding_names e)

pub returns : goal.returns
unfolding binding_names
returns c =
    let l = c.loop-binding in
    all_gathered (texts c.args.names.now.items) _ (binding_names c.args.bindings.now) _ l.invariant (ap binding_names (past c.args.bindings.now l.binding-index c.loop-binding-test.false))
