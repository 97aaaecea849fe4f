use Rattle.std.proofs.Common.{arith}
use Rattle.std.proofs.lemmas.List.{get_or_past}
use Rattle.esm_tree.specs.Syntax as x
use Rattle.esm_rows.proofs.nodes.stmt_at.Goals as goal

pub returns-else-id-mark : goal.returns-else-id-mark
returns-else-id-mark c =
    let a = c.if-id-mark.false in
    let b = c.mark.ensures.stmts in
    get_or_past c.args.tree.now.stmts c.args.id.0 x.Empty (omega (arith, a, b))
