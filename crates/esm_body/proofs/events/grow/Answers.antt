-- The new marks say that nothing has begun there.
use Rattle.std.proofs.Common.{◌≡◌, ◌≤◌, ◌+◌, ◌-◌, ◌++◌, ap, ◌∙◌, arith, length, rules, take, replicate, false}
use Rattle.esm_body.specs.Noted.{is_marked}
use Rattle.esm_body.proofs.Marks.{marks_more, take_long}
use Rattle.esm_body.proofs.events.grow.Goals as goal

pub returns-in-Ok-clause-same : goal.returns-in-Ok-clause-same
returns-in-Ok-clause-same c k =
    let old = c.args.marks.now.items in
    let past : length old ≤ c.args.m.0 + 1 = omega (arith, c.if-at-len.false, c.len.ensures) in
    let items : c.resize.new.self.items ≡ take (c.args.m.0 + 1) old ++ replicate (c.args.m.0 + 1 - length old) false = search rules in
    ap (λ ms. is_marked ms k) (items ∙ ap (λ ms. ms ++ replicate (c.args.m.0 + 1 - length old) false) (take_long old (c.args.m.0 + 1) past)) ∙ marks_more old (c.args.m.0 + 1 - length old) k

pub returns-in-Err-clause-same : goal.returns-in-Err-clause-same
returns-in-Err-clause-same c k =
    let items : c.resize.new.self.items ≡ c.args.marks.now.items = search rules in
    ap (λ ms. is_marked ms k) items
