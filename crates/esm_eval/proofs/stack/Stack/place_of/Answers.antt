-- Where there is a table, each open module has its place there.
use Rattle.std.proofs.Common.{◌<◌, length, ap, sym, subst, ◌∙◌, arith, slice_get}
use Rattle.esm_eval.specs.Inner.Stack.{HavePlaces}
use Rattle.esm_eval.proofs.Inner.DeskSteps.{says, denies}
use Rattle.esm_eval.proofs.Inner.Stacks as stacks
use Rattle.esm_eval.proofs.stack.Stack.place_of.Goals as goal

pub returns-then-has_at : goal.returns-then-has_at
returns-then-has_at c =
    let ps = c.self.inside.places.items in
    let some : 0 < length ps = grind (arith, c.if-is_empty.false, c.if-is_empty.ensures) in
    let g = ap (λ l. slice_get l c.args.x) (sym c.as_slice-2.ensures.value) ∙ (sym c.place_at.ensures ∙ c.in-Some.is) in
    stacks.found c.args.self.now ps (subst (λ l. HavePlaces l ps) c.self.view_is (c.self.invariant.right some)) c.args.x c.in-Some.place g (says c.has_at.result c.has_at.ensures c.if-has_at.true)

pub returns-else-has_at : goal.returns-else-has_at
returns-else-has_at c =
    let ps = c.self.inside.places.items in
    let some : 0 < length ps = grind (arith, c.if-is_empty.false, c.if-is_empty.ensures) in
    let g = ap (λ l. slice_get l c.args.x) (sym c.as_slice-2.ensures.value) ∙ (sym c.place_at.ensures ∙ c.in-Some.is) in
    let h = subst (λ l. HavePlaces l ps) c.self.view_is (c.self.invariant.right some) in
    stacks.nowhere c.args.self.now c.args.x c.len.result (omega (arith, c.len.ensures)) (stacks.astray c.args.self.now ps h c.args.x c.in-Some.place g (denies c.has_at.result c.has_at.ensures c.if-has_at.false))

pub returns-in-None : goal.returns-in-None
returns-in-None c =
    let ps = c.self.inside.places.items in
    let some : 0 < length ps = grind (arith, c.if-is_empty.false, c.if-is_empty.ensures) in
    let g = ap (λ l. slice_get l c.args.x) (sym c.as_slice-2.ensures.value) ∙ (sym c.place_at.ensures ∙ c.in-None.is) in
    let h = subst (λ l. HavePlaces l ps) c.self.view_is (c.self.invariant.right some) in
    stacks.nowhere c.args.self.now c.args.x c.len-in-None.result (omega (arith, c.len-in-None.ensures)) (stacks.unknown c.args.self.now ps h c.args.x g)
