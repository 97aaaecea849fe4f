use Rattle.std.proofs.Common.{refl, ◌+◌, ◌-◌, ◌<◌, ◌≡◌, length, arith}
use Rattle.esm_body.proofs.Levels.{added_front, levels_added}
use Rattle.esm_body.proofs.blocks.add.Goals as goal

pub returns-then-is_added-clause-front : goal.returns-then-is_added-clause-front
returns-then-is_added-clause-front c =
    let f = rw c.index_mut.ensures.value at c.if-is_added.ensures refl in
    let a = c.requires in
    let b = c.len-top.ensures in
    let l = c.args.levels.now.ok.0 in
    let h : c.len-top.result - 1 + 1 ≡ length c.args.levels.now.items = omega (arith, a, b, l) in
    λ stmts. added_front stmts c.args.levels.now.items (c.len-top.result - 1) _ c.is_added.new.level c.args.work h f.1 f.2 f.0

pub returns-then-is_added-clause-sound : goal.returns-then-is_added-clause-sound
returns-then-is_added-clause-sound c =
    let f = rw c.index_mut.ensures.value at c.if-is_added.ensures refl in
    let a = c.requires in
    let b = c.len-top.ensures in
    let l = c.args.levels.now.ok.0 in
    let h : c.len-top.result - 1 < length c.args.levels.now.items = omega (arith, a, b, l) in
    λ n one all. levels_added n c.args.levels.now.items (c.len-top.result - 1) _ c.is_added.new.level c.args.work h f.1 f.0 one all
