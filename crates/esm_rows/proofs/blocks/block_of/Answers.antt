use Rattle.std.proofs.Common.{ap, ◌∙◌}
use Rattle.std.proofs.lemmas.Result.{IfOk-weaker}
use Rattle.esm_rows.specs.Locals.{declared}
use Rattle.esm_rows.proofs.blocks.block_of.Goals as goal

pub returns : goal.returns
returns c =
    let those = rw c.new-list.ensures.items at c.in_ok-add_names.ensures in
    IfOk-weaker c.of.result _ _ (λ names is. ap declared is ∙ those) c.of.ensures
