use Rattle.std.proofs.Common.{◌≡◌, sym, ◌∙◌}
use Rattle.std.specs.Arc.{arc_value}
use Rattle.esm_tree.specs.Flat.{stmt_part}
use Rattle.esm_body.specs.Inner.Calls.{begun_branch}
use Rattle.esm_rewriting.specs.Contexts.{surrounded}
use Rattle.esm_body.specs.Code.{contexts_of, innermost}
use Rattle.esm_body.proofs.Levels.{below_up, levels_surround}
use Rattle.esm_body.proofs.starts.choose.Goals as goal

pub begin_block-requires-clause-ids : goal.begin_block-requires-clause-ids
begin_block-requires-clause-ids c = below_up _ _ _ c.requires.id (c.in_Some-ids.ensures.below _ c.requires.node.below)

pub returns-in_None-ids-clause-begun : goal.returns-in_None-ids-clause-begun
returns-in_None-ids-clause-begun c =
    let tree = arc_value c.args.tree.now in
    let rest = innermost tree.stmts c.args.levels.now.items in
    let same : begun_branch (stmt_part tree.stmts c.args.id) c.args.truth rest ≡ rest =
    (λ j. begun_branch (c.requires.node.part j) c.args.truth rest) ∙ c.in_None-ids.ensures.branch tree.exprs tree.stmts rest in
    sym (levels_surround tree.stmts c.args.levels.now.items) ∙ (λ j. surrounded (contexts_of tree.stmts c.args.levels.now.items) (sym same j))
