-- Where few are open there is no table.
use Rattle.std.proofs.Common.{◌≡◌, nat_eq, length, ap, arith, sym, subst, ◌∙◌}
use Rattle.esm_base.specs.Lists.{is_in}
use Rattle.esm_eval.specs.Inner.Stack.{KeepsPlaces}
use Rattle.esm_eval.proofs.Inner.Stacks as stacks
use Rattle.esm_eval.proofs.stack.Stack.push.Goals as goal

pub invariant_of-self-then-len-lt-FEW : goal.invariant_of-self-then-len-lt-FEW
invariant_of-self-then-len-lt-FEW c =
    let ps = c.self.inside.places.items in
    let none : length ps ≡ 0 = grind (arith, c.if-is_empty.true, c.if-is_empty.ensures) in
    let out = ap (λ l. is_in nat_eq l c.args.x) c.self.view_is ∙ c.requires in
    subst (λ xs. KeepsPlaces xs ps) (sym c.in_ok-push.ensures.items)
    (stacks.push_few c.self.inside.opened.items ps c.args.x c.self.invariant out none)
