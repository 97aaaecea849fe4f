use Rattle.std.proofs.Common.{◌∙◌, ◌++◌, ◌∷◌, [], map, ap, refl}
use Rattle.esm_parse_mod.specs.Inner.Names.{texts}
use Rattle.esm_parse_mod.proofs.NamesLemmas.{at_is, past, texts_push, gathered, all_gathered}
use Rattle.esm_parse_mod.proofs.errors.add_listed.Goals as goal

pub loop-specifier-init : goal.loop-specifier-init
loop-specifier-init c = refl

pub loop-specifier-preserved : goal.loop-specifier-preserved
loop-specifier-preserved c =
    let l = c.loop-specifier in
    let e = at_is c.args.specifiers.now l.specifier-index _ c.loop-specifier-test.true c.specifier-item.is in
    l.invariant ∙ gathered _ _ (c.specifier-item.result.exported ∷ []) _ _ (ap texts c.in_ok-push.ensures.items ∙ texts_push _ _ ∙ ap (λ t. texts l.names.items ++ t ∷ []) c.as_str.ensures.value) (ap (map (λ e. e.exported)) e)

pub returns : goal.returns
returns c =
    let l = c.loop-specifier in
    all_gathered (texts c.args.names.now.items) _ (map (λ e. e.exported) c.args.specifiers.now) _ l.invariant (ap (map (λ e. e.exported)) (past c.args.specifiers.now l.specifier-index c.loop-specifier-test.false))
