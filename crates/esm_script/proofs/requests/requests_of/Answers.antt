use Rattle.std.proofs.Common.{[], ap, ◌∙◌}
use Rattle.esm_tree.specs.Flat.{items_of}
use Rattle.esm_ast.specs.Entries.{requests_after}
use Rattle.esm_script.proofs.Items.{requests_next, requests_end}
use Rattle.esm_script.proofs.requests.requests_of.Goals as goal

pub loop-item-init : goal.loop-item-init
loop-item-init c = ap (λ f. requests_after f (items_of c.args.tree.now.stmts c.items-item-items.result.now)) c.new-found.ensures ∙ ap (requests_after []) c.items-item-items.ensures.items

pub loop-item-preserved : goal.loop-item-preserved
loop-item-preserved c = requests_next c.args.tree.now.stmts _ c.loop-item.item-index c.item-item.result _ _ _ c.loop-item-test.true c.item-item.is (c.in_ok-add_request.ensures c.args.tree.now.stmts) c.loop-item.invariant

pub returns : goal.returns
returns c = requests_end c.args.tree.now.stmts _ c.loop-item.item-index _ _ c.loop-item-test.false c.loop-item.invariant
