use Rattle.std.proofs.Common.{arith}
use Rattle.esm_row_machine.proofs.Called.{called_follows, deep_flies, refused_flies, refused_rows, step_stops}
use Rattle.esm_row_machine.proofs.calls.call_value.Goals as goal

pub returns-then-len : goal.returns-then-len
returns-then-len g c = λ w0 h ws body calls fit.
    let t = c.in-Ok.ensures calls.fits.is_ready in
    let k = rw c.as_slice.ensures.value at c.in-Some.ensures in
    called_follows g.W.Outside.state g.W.Outside.modules g.W.Outside.linked g.W.Outside.begins g.W.Outside.ready g.W.Outside.keeps g.W.Outside.owns (record { itself = g.met.W.Outside.keeps_itself; both = g.met.W.Outside.keeps_both; stays = g.met.W.Outside.stays })
    w0 h ws body c.args.world.now c.args.machine.now c.args.frame c.args.arguments calls c.step.new.self t.0 t.1 c.in-Some.function k.0 k.1 k.2 k.3 (omega (arith, c.if-len.true, c.len.ensures, c.args.machine.now.frames.ok.0))
    c.args.rows.now c.call_function.new.rows fit c.call_function.result c.call_function.new.machine c.call_function.ensures

pub returns-else-len : goal.returns-else-len
returns-else-len g c = λ w0 h ws body calls fit.
    let t = c.in-Ok.ensures calls.fits.is_ready in
    let k = rw c.as_slice.ensures.value at c.in-Some.ensures in
    refused_rows g.W.Outside.state g.W.Outside.modules g.W.Outside.linked g.W.Outside.begins g.W.Outside.ready g.W.Outside.keeps g.W.Outside.owns (record { itself = g.met.W.Outside.keeps_itself; both = g.met.W.Outside.keeps_both; stays = g.met.W.Outside.stays })
    w0 h ws body c.args.world.now c.args.machine.now c.args.frame c.args.arguments calls c.step.new.self t.0 t.1 c.args.rows.now fit c.refuse.result c.refuse.new.world c.refuse.new.machine
    (c.refuse.ensures t.1.is_ready w0 h ws body (λ thrown told made. deep_flies g.W.Outside.state g.W.Outside.modules g.W.Outside.linked g.W.Outside.begins g.W.Outside.ready g.W.Outside.keeps g.W.Outside.owns (record { itself = g.met.W.Outside.keeps_itself; both = g.met.W.Outside.keeps_both; stays = g.met.W.Outside.stays })
    w0 h ws body c.args.world.now c.args.machine.now c.args.frame c.args.arguments calls c.step.new.self t.0 t.1 thrown made c.in-Some.function k (omega (arith, c.if-len.false, c.len.ensures, c.args.machine.now.frames.ok.0)) told))

pub returns-in-None : goal.returns-in-None
returns-in-None g c = λ w0 h ws body calls fit.
    let t = c.in-Ok.ensures calls.fits.is_ready in
    let k = rw c.as_slice.ensures.value at c.in-None.ensures in
    refused_rows g.W.Outside.state g.W.Outside.modules g.W.Outside.linked g.W.Outside.begins g.W.Outside.ready g.W.Outside.keeps g.W.Outside.owns (record { itself = g.met.W.Outside.keeps_itself; both = g.met.W.Outside.keeps_both; stays = g.met.W.Outside.stays })
    w0 h ws body c.args.world.now c.args.machine.now c.args.frame c.args.arguments calls c.step.new.self t.0 t.1 c.args.rows.now fit c.refuse-in-None.result c.refuse-in-None.new.world c.refuse-in-None.new.machine
    (c.refuse-in-None.ensures t.1.is_ready w0 h ws body (λ thrown told made. refused_flies g.W.Outside.state g.W.Outside.modules g.W.Outside.linked g.W.Outside.begins g.W.Outside.ready g.W.Outside.keeps g.W.Outside.owns (record { itself = g.met.W.Outside.keeps_itself; both = g.met.W.Outside.keeps_both; stays = g.met.W.Outside.stays })
    w0 h ws body c.args.world.now c.args.machine.now c.args.frame c.args.arguments calls c.step.new.self t.0 t.1 thrown made k told))

pub returns-in-Err : goal.returns-in-Err
returns-in-Err g c = λ w0 h ws body calls fit. (
  step_stops g.W.Outside.state g.W.Outside.modules g.W.Outside.linked g.W.Outside.begins g.W.Outside.ready g.W.Outside.keeps g.W.Outside.owns (record { itself = g.met.W.Outside.keeps_itself; both = g.met.W.Outside.keeps_both; stays = g.met.W.Outside.stays })
      w0 h ws body c.args.world.now c.args.machine.now c.args.frame c.args.arguments calls c.in-Err.stop c.step.new.self c.args.machine.now c.in-Err.ensures,
  tt,
)
