use Rattle.std.proofs.Common.{◌∙◌, ◌++◌, sym, ap, append-nil}
use Rattle.esm_tree.specs.Flat.{items_of}
use Rattle.esm_grammar.specs.EarlyErrors.{exported_names}
use Rattle.esm_parse_mod.specs.Inner.Names.{texts}
use Rattle.esm_parse_mod.proofs.NamesLemmas.{at_is, past, gathered}
use Rattle.esm_parse_mod.proofs.EarlyLemmas.{need_at, exported_at, exported_past}
use Rattle.esm_parse_mod.proofs.errors.all_exported.Goals as goal

pub loop-item-init : goal.loop-item-init
unfolding texts
loop-item-init c = ap (λ t. texts t ++ exported_names (items_of c.args.tree.now.stmts c.args.items.now)) (sym c.new-names.ensures.items)

pub add_exported-requires : goal.add_exported-requires
add_exported-requires c = let l = c.loop-item in need_at _ c.args.items.now l.item-index _ c.requires c.loop-item-test.true c.item-item.is

pub loop-item-preserved : goal.loop-item-preserved
loop-item-preserved c =
    let l = c.loop-item in
    let e = at_is c.args.items.now l.item-index _ c.loop-item-test.true c.item-item.is in
    l.invariant ∙ gathered _ _ _ _ _ c.in_ok-add_exported.ensures (exported_at _ c.args.items.now l.item-index _ e)

pub returns : goal.returns
returns c =
    let l = c.loop-item in
    sym (l.invariant ∙ ap (λ t. texts l.names.items ++ t) (exported_past _ c.args.items.now l.item-index (past c.args.items.now l.item-index c.loop-item-test.false)) ∙ append-nil _)
