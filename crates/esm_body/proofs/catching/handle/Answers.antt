use Rattle.std.specs.Arc.{arc_value}
use Rattle.esm_body.proofs.Levels.{below_up}
use Rattle.esm_body.proofs.CaughtLemmas.{handled}
use Rattle.esm_body.proofs.catching.handle.Goals as goal

pub begin_block-requires-clause-ids : goal.begin_block-requires-clause-ids
begin_block-requires-clause-ids c = below_up _ _ _ c.requires.id (c.handler.ensures.below _ c.requires.node.below)

pub returns-in-Ok-clause-handled : goal.returns-in-Ok-clause-handled
returns-in-Ok-clause-handled c =
    let e = c.requires.node.part in
    let h = c.handler.ensures.stmts (arc_value c.args.tree.now).exprs (arc_value c.args.tree.now).stmts in
    let n = c.caught_name.ensures (arc_value c.args.tree.now).exprs (arc_value c.args.tree.now).stmts in
    handled (arc_value c.args.tree.now).stmts c.args.levels.now.items c.begin_block.new.levels.items _ _ _ _ _ _ c.begin_block.result e h n c.in-Ok.ensures c.begin_block.ensures.begun
