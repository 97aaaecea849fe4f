use Rattle.esm_script.proofs.Exported.{leads_next, leads_end, bindings_left, bindings_none}
use Rattle.esm_script.proofs.exports.add_bindings.Goals as goal

pub loop-binding-init : goal.loop-binding-init
loop-binding-init c = λ exprs end h. h

pub loop-binding-preserved : goal.loop-binding-preserved
loop-binding-preserved c = λ exprs.
    leads_next _ _ _ _ _ _ _ (bindings_left exprs _ c.loop-binding.binding-index c.binding-item.result c.loop-binding-test.true c.binding-item.is) c.in_ok-add_own.ensures (c.loop-binding.invariant exprs)

pub returns : goal.returns
returns c = λ exprs. leads_end _ _ _ _ (bindings_none exprs _ c.loop-binding.binding-index c.loop-binding-test.false) (c.loop-binding.invariant exprs)
