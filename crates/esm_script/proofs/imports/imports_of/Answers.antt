use Rattle.std.proofs.Common.{[], ◌++◌, ap, ◌∙◌}
use Rattle.esm_tree.specs.Flat.{items_of}
use Rattle.esm_ast.specs.Entries.{all_imports}
use Rattle.esm_script.proofs.Items.{imports_next, imports_end}
use Rattle.esm_script.proofs.imports.imports_of.Goals as goal

pub loop-item-init : goal.loop-item-init
loop-item-init c = ap (λ v. v ++ all_imports c.args.requests.now (items_of c.args.tree.now.stmts c.items-item-items.result.now)) c.new-imports.ensures.items ∙ ap (λ xs. [] ++ all_imports c.args.requests.now xs) c.items-item-items.ensures.items

pub loop-item-preserved : goal.loop-item-preserved
loop-item-preserved c = imports_next c.args.tree.now.stmts _ c.loop-item.item-index c.args.requests.now c.item-item.result _ _ _ c.loop-item-test.true c.item-item.is (c.in_ok-add_imports.ensures c.args.tree.now.stmts) c.loop-item.invariant

pub returns : goal.returns
returns c = imports_end c.args.tree.now.stmts _ c.loop-item.item-index c.args.requests.now _ _ c.loop-item-test.false c.loop-item.invariant
