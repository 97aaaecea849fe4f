use Rattle.std.proofs.Common.{◌++◌, ap, ◌∙◌}
use Rattle.std.proofs.lemmas.Result.{IfOk-weaker}
use Rattle.esm_tree.specs.Flat.{stmt_parts}
use Rattle.esm_env.specs.Declarations.{declared_in}
use Rattle.esm_rows.specs.Locals.{declared}
use Rattle.esm_rows.proofs.blocks.catch_block.Goals as goal

pub returns : goal.returns
returns c =
    let body = declared_in (stmt_parts c.args.tree.now.stmts c.args.ids.now) in
    let those = c.in_ok-add_names.ensures ∙ ap (λ ds. ds ++ body) (rw c.new-list.ensures.items at c.in_ok-add_name.ensures) in
    IfOk-weaker c.of.result _ _ (λ names is. ap declared is ∙ those) c.of.ensures
