use Rattle.std.proofs.Common.{◌-◌, ◌+◌, ◌<◌, ◌≤◌, ◌≡◌, length, arith}
use Rattle.esm_env.specs.Calls.{scopes_of}
use Rattle.esm_body.proofs.NamesWritten.{sets_block, sets_module}
use Rattle.esm_body.proofs.writes.set_to.Goals as goal

pub set_top-requires : goal.set_top-requires
set_top-requires c =
    let b = c.len-count.ensures in
    let t = c.if-count-gt1.true in
    let l = c.args.levels.now.ok.0 in
    omega (arith, b, t, l)

pub returns-then-count-gt1 : goal.returns-then-count-gt1
returns-then-count-gt1 c =
    let b = c.len-count.ensures in
    let t = c.if-count-gt1.true in
    let l = c.args.levels.now.ok.0 in
    let many : 1 < length c.args.levels.now.items = omega (arith, b, t, l) in
    let top : c.len-count.result - 1 + 1 ≡ length c.args.levels.now.items = omega (arith, b, t, l) in
    sets_block c.args.levels.now.items (c.len-count.result - 1) c.args.name.now c.args.value c.set_top.new.levels.items (scopes_of c.args.envs.now) c.args.m.0 many top c.set_top.ensures

pub returns-else-count-gt1 : goal.returns-else-count-gt1
returns-else-count-gt1 c =
    let b = c.len-count.ensures in
    let t = c.if-count-gt1.false in
    let l = c.args.levels.now.ok.0 in
    let few : length c.args.levels.now.items ≤ 1 = omega (arith, b, t, l) in
    sets_module c.args.levels.now.items (scopes_of c.args.envs.now) (scopes_of c.initialise.new.self) c.args.m.0 c.args.name.now c.args.value few c.initialise.ensures
