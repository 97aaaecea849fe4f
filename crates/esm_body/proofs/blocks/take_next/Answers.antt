use Rattle.std.proofs.Common.{◌+◌, ◌-◌, ◌≡◌, length, arith}
use Rattle.esm_body.proofs.Levels.{taken}
use Rattle.esm_body.proofs.blocks.take_next.Goals as goal

pub returns : goal.returns
returns c =
    let f = rw c.index_mut.ensures.value at c.pop_work.ensures in
    let a = c.requires in
    let b = c.len-top.ensures in
    let l = c.args.levels.now.ok.0 in
    let h : c.len-top.result - 1 + 1 ≡ length c.args.levels.now.items = omega (arith, a, b, l) in
    λ stmts. taken stmts c.args.levels.now.items (c.len-top.result - 1) _ c.pop_work.new.level c.pop_work.result h f
