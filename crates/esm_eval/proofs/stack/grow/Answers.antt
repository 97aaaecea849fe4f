use Rattle.std.proofs.Common.{◌≡◌, ◌≤◌, ◌+◌, ◌-◌, ◌++◌, arith, length, rules, take, replicate}
use Rattle.esm_eval.proofs.Inner.Stacks as stacks
use Rattle.esm_eval.proofs.stack.grow.Goals as goal

pub returns-clause-kept : goal.returns-clause-kept
returns-clause-kept c opened h =
    let old = c.args.places.now.items in
    let past : length old ≤ c.args.id + 1 = omega (arith, c.if-id-len.false, c.len.ensures) in
    let items : c.resize.new.self.items ≡ take (c.args.id + 1) old ++ replicate (c.args.id + 1 - length old) 0 = search rules in
    stacks.wider opened old h (c.args.id + 1) c.resize.new.self.items past items
