use Rattle.std.proofs.Common.{ap, sym, ◌∙◌}
use Rattle.std.specs.List.{list_any}
use Rattle.esm_ast.specs.Entries.{item_awaits}
use Rattle.esm_script.proofs.Exported.{need_at}
use Rattle.esm_script.proofs.Awaiting.{found, passed, items_left, items_none}
use Rattle.esm_script.proofs.awaits.has_await.Goals as goal

pub loop-item-init : goal.loop-item-init
loop-item-init c = ap (list_any item_awaits) c.items-item-items.ensures.items

pub item_awaits-requires : goal.item_awaits-requires
item_awaits-requires c = need_at _ c.items-item-items.result.now c.loop-item.item-index c.item-item.result c.items-item-items.ensures.below c.loop-item-test.true c.item-item.is

pub returns-then-item_awaits : goal.returns-then-item_awaits
returns-then-item_awaits c =
    found _ _ _ (sym (items_left c.args.tree.now.stmts _ c.loop-item.item-index c.item-item.result c.loop-item-test.true c.item-item.is) ∙ c.loop-item.invariant) c.if-item_awaits.ensures

pub loop-item-preserved : goal.loop-item-preserved
loop-item-preserved c =
    passed _ _ _ (sym (items_left c.args.tree.now.stmts _ c.loop-item.item-index c.item-item.result c.loop-item-test.true c.item-item.is) ∙ c.loop-item.invariant) c.if-item_awaits.ensures

pub returns : goal.returns
returns c = sym (items_none c.args.tree.now.stmts _ c.loop-item.item-index c.loop-item-test.false) ∙ c.loop-item.invariant
