use Rattle.esm_body.proofs.ScopesLemmas.{binding_goes, bindings_end}
use Rattle.esm_body.proofs.scopes.add_bindings.Goals as goal

pub loop-binding-preserved : goal.loop-binding-preserved
loop-binding-preserved c = λ exprs. rw (c.in_ok-add_slot.ensures, c.as_str.ensures.value, c.binding-item.is) (binding_goes exprs c.args.constant c.args.bindings.now c.loop-binding.binding-index _ _ _ c.loop-binding-test.true (c.loop-binding.invariant exprs))

pub returns : goal.returns
returns c = λ exprs. bindings_end exprs c.args.constant c.args.bindings.now c.loop-binding.binding-index _ _ c.loop-binding-test.false (c.loop-binding.invariant exprs)
