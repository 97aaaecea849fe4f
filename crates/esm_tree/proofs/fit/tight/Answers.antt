use Rattle.std.proofs.Common.{◌≡◌, ◌++◌, ◌∙◌, sym, ap, arith, length}
use Rattle.std.specs.Vec.Iter.{into_iter_items, into_iter_len}
use Rattle.esm_tree.proofs.TreeLemmas.{one_over, none_over}
use Rattle.esm_tree.proofs.fit.tight.Goals as goal

pub loop-element-init : goal.loop-element-init
loop-element-init g c =
    let given = c.into_iter-element-iterator.ensures.into_iter_gives in (
      given.1 ∙ (c.args.list.ok.0 ∙ ap length (sym given.0)),
      ap (λ xs. xs ++ into_iter_items c.into_iter-element-iterator.result) c.in_ok-exact.ensures.items ∙ given.0,
    )

pub loop-element-preserved : goal.loop-element-preserved
loop-element-preserved g c =
    let steps = c.in-Some.ensures.steps in
    let n : into_iter_len c.loop-element.element-iterator ≡ length (into_iter_items c.loop-element.element-iterator) = c.loop-element.invariant.0 in (
      omega (arith, ap length steps.0),
      one_over c.loop-element.exact.items _ _ (into_iter_items c.next.new.self) _ c.in_ok-push.ensures.items steps.0 ∙ c.loop-element.invariant.1,
    )

pub returns : goal.returns
returns g c = none_over c.loop-element.exact.items (into_iter_items c.loop-element.element-iterator) (sym c.loop-element.invariant.0 ∙ c.in-None.ensures.steps.0) ∙ c.loop-element.invariant.1
