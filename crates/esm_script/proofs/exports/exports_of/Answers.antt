use Rattle.std.proofs.Common.{◌++◌, ap, subst, ◌∙◌}
use Rattle.esm_ast.specs.Entries.{all_exports, locals_of, indirects_of}
use Rattle.esm_script.specs.Inner.{Adds}
use Rattle.esm_script.proofs.Exported.{leads_next, leads_end, items_left, items_none, need_at}
use Rattle.esm_script.proofs.exports.exports_of.Goals as goal

pub loop-item-init : goal.loop-item-init
loop-item-init c = λ end h. subst (λ xs. Adds c.new-exports.result end (all_exports c.args.requests.now c.args.imports.now xs)) c.items-item-items.ensures.items h

pub add_exports-requires : goal.add_exports-requires
add_exports-requires c = need_at _ c.items-item-items.result.now c.loop-item.item-index c.item-item.result c.items-item-items.ensures.below c.loop-item-test.true c.item-item.is

pub loop-item-preserved : goal.loop-item-preserved
loop-item-preserved c =
    leads_next _ _ _ _ _ _ _ (items_left c.args.requests.now c.args.imports.now c.args.tree.now.stmts _ c.loop-item.item-index c.item-item.result c.loop-item-test.true c.item-item.is) (c.in_ok-add_exports.ensures c.args.imports.now c.in_ok-index.ensures) c.loop-item.invariant

pub returns-clause-locals : goal.returns-clause-locals
returns-clause-locals c =
    let all = all_exports c.args.requests.now c.args.imports.now c.args.tree.now.items in
    let added = leads_end _ _ _ _ (items_none c.args.requests.now c.args.imports.now c.args.tree.now.stmts _ c.loop-item.item-index c.loop-item-test.false) c.loop-item.invariant in
    added.locals ∙ ap (λ xs. xs ++ locals_of all) c.new-exports.ensures.locals

pub returns-clause-indirects : goal.returns-clause-indirects
returns-clause-indirects c =
    let all = all_exports c.args.requests.now c.args.imports.now c.args.tree.now.items in
    let added = leads_end _ _ _ _ (items_none c.args.requests.now c.args.imports.now c.args.tree.now.stmts _ c.loop-item.item-index c.loop-item-test.false) c.loop-item.invariant in
    added.indirects ∙ ap (λ xs. xs ++ indirects_of all) c.new-exports.ensures.indirects
