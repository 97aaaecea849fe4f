use Rattle.std.proofs.Common.{◌∙◌, ◌≤◌, length, refl, arith}
use Rattle.std.specs.Arc.{arc_value}
use Rattle.esm_values.specs.Code.{value_of}
use Rattle.esm_body.proofs.CaughtLemmas.{block_leads, try_leads, no_handler}
use Rattle.esm_body.proofs.catching.catch.Goals as goal

pub loop-alloc-preserved : goal.loop-alloc-preserved
loop-alloc-preserved c = record {
  levels = (c.pop_level.ensures.left (arc_value c.args.tree.now).stmts).some;
  sound = (c.pop_level.ensures.sound (length (arc_value c.args.tree.now).stmts) c.loop-alloc.invariant.sound).1;
  leads = c.loop-alloc.invariant.leads ∙ block_leads (arc_value c.args.tree.now).stmts c.loop-alloc.levels.items c.pop_level.new.levels.items c.pop_level.result (value_of c.args.thrown) c.in-Block.is (c.pop_level.ensures.left (arc_value c.args.tree.now).stmts);
}

pub stmt-requires : goal.stmt-requires
stmt-requires c = rw c.deref.ensures (c.in-Tries.ensures.sound (length (arc_value c.args.tree.now).stmts) c.loop-alloc.invariant.sound).0

pub handle-requires-clause-levels : goal.handle-requires-clause-levels
handle-requires-clause-levels c = (c.pop_level.ensures.left (arc_value c.args.tree.now).stmts).some

pub handle-requires-clause-id : goal.handle-requires-clause-id
handle-requires-clause-id c = (c.in-Tries.ensures.sound (length (arc_value c.args.tree.now).stmts) c.loop-alloc.invariant.sound).0

pub returns-in-Ok-clause-caught : goal.returns-in-Ok-clause-caught
returns-in-Ok-clause-caught c =
    try_leads (arc_value c.args.tree.now).stmts c.args.levels.now.items c.loop-alloc.levels.items c.pop_level.new.levels.items c.handle.new.levels.items c.pop_level.result c.in-Tries.id c.args.thrown c.in-Tries.is (c.pop_level.ensures.left (arc_value c.args.tree.now).stmts) c.handle.result c.in-Ok.is c.handle.ensures.handled c.loop-alloc.invariant.leads

pub returns-in-Ok-clause-sound : goal.returns-in-Ok-clause-sound
returns-in-Ok-clause-sound c = c.in-Ok.ensures.sound (c.pop_level.ensures.sound (length (arc_value c.args.tree.now).stmts) c.loop-alloc.invariant.sound).1

pub returns-clause-caught : goal.returns-clause-caught
returns-clause-caught c =
    let b = c.len.ensures in
    let l = c.loop-alloc.levels.ok.0 in
    let t = c.loop-alloc-test.false in
    let few : length c.loop-alloc.levels.items ≤ 1 = omega (arith, b, l, t) in
    (c.loop-alloc.invariant.leads ∙ no_handler (arc_value c.args.tree.now).stmts c.loop-alloc.levels.items (value_of c.args.thrown) few, refl)
