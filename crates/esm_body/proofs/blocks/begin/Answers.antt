use Rattle.std.proofs.Common.{length, ap, ◌∙◌}
use Rattle.std.specs.Arc.{arc_value}
use Rattle.esm_tree.specs.declared.node.Attempt.{Attempt}
use Rattle.esm_tree.specs.declared.node.NamedAttempt.{NamedAttempt}
use Rattle.esm_body.specs.Code.{bound_name}
use Rattle.esm_body.proofs.Levels.{begins_ok, sound_ok, below_up, becomes_same, block_ok, try_ok, catch_ok}
use Rattle.esm_body.proofs.blocks.begin.Goals as goal

pub returns-in-Expression-clause-begun : goal.returns-in-Expression-clause-begun
returns-in-Expression-clause-begun c = let e = rw c.in-Expression.is at c.requires.node.part in begins_ok (arc_value c.args.tree.now).stmts c.args.levels.now.items c.does.new.levels.items _ _ c.does.result e (c.does.ensures.front (arc_value c.args.tree.now).stmts)

pub returns-in-Expression-clause-sound : goal.returns-in-Expression-clause-sound
returns-in-Expression-clause-sound c = λ all. sound_ok (length (arc_value c.args.tree.now).stmts) (arc_value c.args.tree.now).stmts c.args.levels.now.items c.does.new.levels.items _ c.does.result (c.does.ensures.front (arc_value c.args.tree.now).stmts) (c.does.ensures.sound (length (arc_value c.args.tree.now).stmts) tt all)

pub does_init-requires-clause-value : goal.does_init-requires-clause-value
does_init-requires-clause-value c = rw c.deref.ensures (rw c.in-Assign.is at c.requires.node.need)

pub returns-in-Assign-clause-begun : goal.returns-in-Assign-clause-begun
returns-in-Assign-clause-begun c = let e = rw c.in-Assign.is at c.requires.node.part in begins_ok (arc_value c.args.tree.now).stmts c.args.levels.now.items c.does_init.new.levels.items _ _ c.does_init.result e (rw (c.deref.ensures, e) at (c.does_init.ensures.front (arc_value c.args.tree.now).stmts))

pub returns-in-Assign-clause-sound : goal.returns-in-Assign-clause-sound
returns-in-Assign-clause-sound c = λ all. sound_ok (length (arc_value c.args.tree.now).stmts) (arc_value c.args.tree.now).stmts c.args.levels.now.items c.does_init.new.levels.items _ c.does_init.result (c.does_init.ensures.front (arc_value c.args.tree.now).stmts) (c.does_init.ensures.sound (length (arc_value c.args.tree.now).stmts) c.requires.id all)

pub returns-in-If-clause-begun : goal.returns-in-If-clause-begun
returns-in-If-clause-begun c = let e = rw c.in-If.is at c.requires.node.part in begins_ok (arc_value c.args.tree.now).stmts c.args.levels.now.items c.does-in-If.new.levels.items _ _ c.does-in-If.result e (rw e at (c.does-in-If.ensures.front (arc_value c.args.tree.now).stmts))

pub returns-in-If-clause-sound : goal.returns-in-If-clause-sound
returns-in-If-clause-sound c = λ all. sound_ok (length (arc_value c.args.tree.now).stmts) (arc_value c.args.tree.now).stmts c.args.levels.now.items c.does-in-If.new.levels.items _ c.does-in-If.result (c.does-in-If.ensures.front (arc_value c.args.tree.now).stmts) (c.does-in-If.ensures.sound (length (arc_value c.args.tree.now).stmts) c.requires.id all)

pub returns-in-IfElse-clause-begun : goal.returns-in-IfElse-clause-begun
returns-in-IfElse-clause-begun c = let e = rw c.in-IfElse.is at c.requires.node.part in begins_ok (arc_value c.args.tree.now).stmts c.args.levels.now.items c.does-in-IfElse.new.levels.items _ _ c.does-in-IfElse.result e (rw e at (c.does-in-IfElse.ensures.front (arc_value c.args.tree.now).stmts))

pub returns-in-IfElse-clause-sound : goal.returns-in-IfElse-clause-sound
returns-in-IfElse-clause-sound c = λ all. sound_ok (length (arc_value c.args.tree.now).stmts) (arc_value c.args.tree.now).stmts c.args.levels.now.items c.does-in-IfElse.new.levels.items _ c.does-in-IfElse.result (c.does-in-IfElse.ensures.front (arc_value c.args.tree.now).stmts) (c.does-in-IfElse.ensures.sound (length (arc_value c.args.tree.now).stmts) c.requires.id all)

pub returns-in-Throw-clause-begun : goal.returns-in-Throw-clause-begun
returns-in-Throw-clause-begun c = let e = rw c.in-Throw.is at c.requires.node.part in begins_ok (arc_value c.args.tree.now).stmts c.args.levels.now.items c.does-in-Throw.new.levels.items _ _ c.does-in-Throw.result e (c.does-in-Throw.ensures.front (arc_value c.args.tree.now).stmts)

pub returns-in-Throw-clause-sound : goal.returns-in-Throw-clause-sound
returns-in-Throw-clause-sound c = λ all. sound_ok (length (arc_value c.args.tree.now).stmts) (arc_value c.args.tree.now).stmts c.args.levels.now.items c.does-in-Throw.new.levels.items _ c.does-in-Throw.result (c.does-in-Throw.ensures.front (arc_value c.args.tree.now).stmts) (c.does-in-Throw.ensures.sound (length (arc_value c.args.tree.now).stmts) tt all)

pub returns-in-Return-clause-begun : goal.returns-in-Return-clause-begun
returns-in-Return-clause-begun c = let e = rw c.in-Return.is at c.requires.node.part in begins_ok (arc_value c.args.tree.now).stmts c.args.levels.now.items c.add.new.levels.items _ _ c.add.result e (c.add.ensures.front (arc_value c.args.tree.now).stmts)

pub returns-in-Return-clause-sound : goal.returns-in-Return-clause-sound
returns-in-Return-clause-sound c = λ all. sound_ok (length (arc_value c.args.tree.now).stmts) (arc_value c.args.tree.now).stmts c.args.levels.now.items c.add.new.levels.items _ c.add.result (c.add.ensures.front (arc_value c.args.tree.now).stmts) (c.add.ensures.sound (length (arc_value c.args.tree.now).stmts) tt all)

pub returns-in-ReturnValue-clause-begun : goal.returns-in-ReturnValue-clause-begun
returns-in-ReturnValue-clause-begun c = let e = rw c.in-ReturnValue.is at c.requires.node.part in begins_ok (arc_value c.args.tree.now).stmts c.args.levels.now.items c.does-in-ReturnValue.new.levels.items _ _ c.does-in-ReturnValue.result e (c.does-in-ReturnValue.ensures.front (arc_value c.args.tree.now).stmts)

pub returns-in-ReturnValue-clause-sound : goal.returns-in-ReturnValue-clause-sound
returns-in-ReturnValue-clause-sound c = λ all. sound_ok (length (arc_value c.args.tree.now).stmts) (arc_value c.args.tree.now).stmts c.args.levels.now.items c.does-in-ReturnValue.new.levels.items _ c.does-in-ReturnValue.result (c.does-in-ReturnValue.ensures.front (arc_value c.args.tree.now).stmts) (c.does-in-ReturnValue.ensures.sound (length (arc_value c.args.tree.now).stmts) tt all)

pub returns-in-Await-clause-begun : goal.returns-in-Await-clause-begun
returns-in-Await-clause-begun c = let e = rw c.in-Await.is at c.requires.node.part in begins_ok (arc_value c.args.tree.now).stmts c.args.levels.now.items c.does-in-Await.new.levels.items _ _ c.does-in-Await.result e (c.does-in-Await.ensures.front (arc_value c.args.tree.now).stmts)

pub returns-in-Await-clause-sound : goal.returns-in-Await-clause-sound
returns-in-Await-clause-sound c = λ all. sound_ok (length (arc_value c.args.tree.now).stmts) (arc_value c.args.tree.now).stmts c.args.levels.now.items c.does-in-Await.new.levels.items _ c.does-in-Await.result (c.does-in-Await.ensures.front (arc_value c.args.tree.now).stmts) (c.does-in-Await.ensures.sound (length (arc_value c.args.tree.now).stmts) tt all)

pub returns-in-PrintAwait-clause-begun : goal.returns-in-PrintAwait-clause-begun
returns-in-PrintAwait-clause-begun c = let e = rw c.in-PrintAwait.is at c.requires.node.part in begins_ok (arc_value c.args.tree.now).stmts c.args.levels.now.items c.does-in-PrintAwait.new.levels.items _ _ c.does-in-PrintAwait.result e (c.does-in-PrintAwait.ensures.front (arc_value c.args.tree.now).stmts)

pub returns-in-PrintAwait-clause-sound : goal.returns-in-PrintAwait-clause-sound
returns-in-PrintAwait-clause-sound c = λ all. sound_ok (length (arc_value c.args.tree.now).stmts) (arc_value c.args.tree.now).stmts c.args.levels.now.items c.does-in-PrintAwait.new.levels.items _ c.does-in-PrintAwait.result (c.does-in-PrintAwait.ensures.front (arc_value c.args.tree.now).stmts) (c.does-in-PrintAwait.ensures.sound (length (arc_value c.args.tree.now).stmts) tt all)

pub returns-in-Default-clause-begun : goal.returns-in-Default-clause-begun
returns-in-Default-clause-begun c = let e = rw c.in-Default.is at c.requires.node.part in begins_ok (arc_value c.args.tree.now).stmts c.args.levels.now.items c.does_init-in-Default.new.levels.items _ _ c.does_init-in-Default.result e (c.does_init-in-Default.ensures.front (arc_value c.args.tree.now).stmts)

pub returns-in-Default-clause-sound : goal.returns-in-Default-clause-sound
returns-in-Default-clause-sound c = λ all. sound_ok (length (arc_value c.args.tree.now).stmts) (arc_value c.args.tree.now).stmts c.args.levels.now.items c.does_init-in-Default.new.levels.items _ c.does_init-in-Default.result (c.does_init-in-Default.ensures.front (arc_value c.args.tree.now).stmts) (c.does_init-in-Default.ensures.sound (length (arc_value c.args.tree.now).stmts) tt all)

pub returns-in-Const-clause-begun : goal.returns-in-Const-clause-begun
returns-in-Const-clause-begun c =
    let e = rw c.in-Const.is at c.requires.node.part in
    let f = rw c.as_slice-in-Const.ensures.value at (c.does_bindings.ensures.front (arc_value c.args.tree.now).stmts) in
    begins_ok (arc_value c.args.tree.now).stmts c.args.levels.now.items c.does_bindings.new.levels.items _ _ c.does_bindings.result e (f (λ n. ap (λ s. bound_name s n) e))

pub returns-in-Const-clause-sound : goal.returns-in-Const-clause-sound
returns-in-Const-clause-sound c =
    let e = rw c.in-Const.is at c.requires.node.part in
    let f = rw c.as_slice-in-Const.ensures.value at (c.does_bindings.ensures.front (arc_value c.args.tree.now).stmts) in
    λ all. sound_ok (length (arc_value c.args.tree.now).stmts) (arc_value c.args.tree.now).stmts c.args.levels.now.items c.does_bindings.new.levels.items _ c.does_bindings.result (f (λ n. ap (λ s. bound_name s n) e)) (c.does_bindings.ensures.sound (length (arc_value c.args.tree.now).stmts) c.requires.id all)

pub returns-in-Let-clause-begun : goal.returns-in-Let-clause-begun
returns-in-Let-clause-begun c =
    let e = rw c.in-Let.is at c.requires.node.part in
    let f = rw c.as_slice-in-Let.ensures.value at (c.does_bindings-in-Let.ensures.front (arc_value c.args.tree.now).stmts) in
    begins_ok (arc_value c.args.tree.now).stmts c.args.levels.now.items c.does_bindings-in-Let.new.levels.items _ _ c.does_bindings-in-Let.result e (f (λ n. ap (λ s. bound_name s n) e))

pub returns-in-Let-clause-sound : goal.returns-in-Let-clause-sound
returns-in-Let-clause-sound c =
    let e = rw c.in-Let.is at c.requires.node.part in
    let f = rw c.as_slice-in-Let.ensures.value at (c.does_bindings-in-Let.ensures.front (arc_value c.args.tree.now).stmts) in
    λ all. sound_ok (length (arc_value c.args.tree.now).stmts) (arc_value c.args.tree.now).stmts c.args.levels.now.items c.does_bindings-in-Let.new.levels.items _ c.does_bindings-in-Let.result (f (λ n. ap (λ s. bound_name s n) e)) (c.does_bindings-in-Let.ensures.sound (length (arc_value c.args.tree.now).stmts) c.requires.id all)

pub returns-in-Empty-clause-begun : goal.returns-in-Empty-clause-begun
returns-in-Empty-clause-begun c = let e = rw c.in-Empty.is at c.requires.node.part in becomes_same (arc_value c.args.tree.now).stmts c.args.levels.now.items _ e

pub begin_block-requires-clause-ids : goal.begin_block-requires-clause-ids
begin_block-requires-clause-ids c = rw c.as_slice.ensures.value (below_up _ _ _ c.requires.id (rw c.in-Block.is at c.requires.node.below))

pub returns-in-Block-clause-begun : goal.returns-in-Block-clause-begun
returns-in-Block-clause-begun c =
    let e = rw c.in-Block.is at c.requires.node.part in
    block_ok (arc_value c.args.tree.now).stmts c.args.levels.now.items c.begin_block.new.levels.items _ _ _ _ c.begin_block.result e c.new.ensures.items c.as_slice.ensures.value c.begin_block.ensures.begun

pub begin_block-requires-in-Try-clause-ids : goal.begin_block-requires-in-Try-clause-ids
begin_block-requires-in-Try-clause-ids c = rw (c.as_slice-in-Try.ensures.value, c.deref-in-Try.ensures) (below_up _ _ _ c.requires.id (rw c.in-Try.is at c.requires.node.below).0)

pub returns-in-Try-clause-begun : goal.returns-in-Try-clause-begun
returns-in-Try-clause-begun c =
    let e = rw c.in-Try.is at c.requires.node.part in
    let body = c.as_slice-in-Try.ensures.value ∙ ap (λ (p : Attempt). p.body.items) c.deref-in-Try.ensures in
    try_ok (arc_value c.args.tree.now).stmts c.args.levels.now.items c.begin_block-in-Try.new.levels.items c.args.id _ _ _ _ c.begin_block-in-Try.result e c.new-in-Try.ensures.items body c.begin_block-in-Try.ensures.begun

pub begin_block-requires-in-TryCatch-clause-ids : goal.begin_block-requires-in-TryCatch-clause-ids
begin_block-requires-in-TryCatch-clause-ids c = rw (c.as_slice-in-TryCatch.ensures.value, c.deref-in-TryCatch.ensures) (below_up _ _ _ c.requires.id (rw c.in-TryCatch.is at c.requires.node.below).0)

pub returns-in-TryCatch-clause-begun : goal.returns-in-TryCatch-clause-begun
returns-in-TryCatch-clause-begun c =
    let e = rw c.in-TryCatch.is at c.requires.node.part in
    let body = c.as_slice-in-TryCatch.ensures.value ∙ ap (λ (p : NamedAttempt). p.body.items) c.deref-in-TryCatch.ensures in
    catch_ok (arc_value c.args.tree.now).stmts c.args.levels.now.items c.begin_block-in-TryCatch.new.levels.items c.args.id _ _ _ _ _ c.begin_block-in-TryCatch.result e c.new-in-TryCatch.ensures.items body c.begin_block-in-TryCatch.ensures.begun
