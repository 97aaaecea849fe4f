-- The new flags say that nothing was visited there.
use Rattle.std.proofs.Common.{◌≡◌, ◌≤◌, ◌+◌, ◌-◌, ◌++◌, sym, ◌∙◌, ap, subst, arith, length, rules, take, replicate, false}
use Rattle.esm_loads.specs.Inner.Flags.{AreFlags}
use Rattle.esm_loads.proofs.Flags.{flags_more, take_long}
use Rattle.esm_loads.proofs.load_record.grow.Goals as goal

pub returns-clause-flags : goal.returns-clause-flags
returns-clause-flags c visited h =
    let old = c.args.flags.now.items in
    let past : length old ≤ c.args.id + 1 = omega (arith, c.if-place-len.false, c.len.ensures) in
    let items : c.resize.new.self.items ≡ take (c.args.id + 1) old ++ replicate (c.args.id + 1 - length old) false = search rules in
    subst (λ fs. AreFlags fs visited) (sym (items ∙ ap (λ fs. fs ++ replicate (c.args.id + 1 - length old) false) (take_long old (c.args.id + 1) past))) (flags_more old visited (c.args.id + 1 - length old) h)
