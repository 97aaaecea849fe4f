use Rattle.std.proofs.Common.{◌∙◌, sym}
use Rattle.esm_script.proofs.Awaiting.{found, passed, bindings_left, bindings_none}
use Rattle.esm_script.proofs.awaits.bindings_await.Goals as goal

pub returns-then-init_awaits : goal.returns-then-init_awaits
returns-then-init_awaits c = λ exprs.
    found _ _ _ (sym (bindings_left exprs c.args.bindings.now c.loop-binding.binding-index c.binding-item.result c.loop-binding-test.true c.binding-item.is) ∙ c.loop-binding.invariant exprs) (c.if-init_awaits.ensures exprs)

pub loop-binding-preserved : goal.loop-binding-preserved
loop-binding-preserved c = λ exprs.
    passed _ _ _ (sym (bindings_left exprs c.args.bindings.now c.loop-binding.binding-index c.binding-item.result c.loop-binding-test.true c.binding-item.is) ∙ c.loop-binding.invariant exprs) (c.if-init_awaits.ensures exprs)

pub returns : goal.returns
returns c = λ exprs. sym (bindings_none exprs c.args.bindings.now c.loop-binding.binding-index c.loop-binding-test.false) ∙ c.loop-binding.invariant exprs
