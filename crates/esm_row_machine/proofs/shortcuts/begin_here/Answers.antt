use Rattle.esm_row_machine.specs.Shortcuts.{at_left}
use Rattle.esm_row_machine.proofs.AtOnce.{call_begins, call_lacks, call_stops, has_row}
use Rattle.esm_row_machine.proofs.shortcuts.begin_here.Goals as goal

pub returns-in-Ok-enter_here : goal.returns-in-Ok-enter_here
returns-in-Ok-enter_here g c = λ rows there. (
  has_row c.args.machine.now c.args.row.now (at_left c.args.frame.now c.args.left) c.args.function c.args.arguments c.enter_here.new.frame c.enter_here.new.machine c.in-Ok-enter_here.ensures rows there,
  λ callee few w0 h ws body calls fit.
      call_begins g.W.Outside.state g.W.Outside.modules g.W.Outside.linked g.W.Outside.begins g.W.Outside.ready g.W.Outside.keeps g.W.Outside.owns (record { itself = g.met.W.Outside.keeps_itself; both = g.met.W.Outside.keeps_both; stays = g.met.W.Outside.stays }) w0 h ws body c.args.world.now c.args.machine.now c.args.frame.now c.args.arguments c.args.left calls c.step.new.self c.in-Ok.ensures c.args.function callee few rows fit c.args.row.now there c.args.row
      c.enter_here.new.frame c.enter_here.new.machine c.in-Ok-enter_here.ensures,
)

pub returns-in-Err-enter_here : goal.returns-in-Err-enter_here
returns-in-Err-enter_here g c = λ rows there. (
  tt,
  λ callee few w0 h ws body calls fit.
      call_lacks g.W.Outside.state g.W.Outside.modules g.W.Outside.linked g.W.Outside.begins g.W.Outside.ready g.W.Outside.keeps g.W.Outside.owns (record { itself = g.met.W.Outside.keeps_itself; both = g.met.W.Outside.keeps_both; stays = g.met.W.Outside.stays }) w0 h ws body c.args.machine.now c.args.row.now (at_left c.args.frame.now c.args.left) c.args.function c.args.arguments
      c.in-Err-enter_here.stop c.step.new.self c.enter_here.new.frame c.enter_here.new.machine c.in-Err-enter_here.ensures,
)

pub returns-in-Err : goal.returns-in-Err
returns-in-Err g c = λ rows there. (
  tt,
  λ callee few w0 h ws body calls fit.
      call_stops g.W.Outside.state g.W.Outside.modules g.W.Outside.linked g.W.Outside.begins g.W.Outside.ready g.W.Outside.keeps g.W.Outside.owns (record { itself = g.met.W.Outside.keeps_itself; both = g.met.W.Outside.keeps_both; stays = g.met.W.Outside.stays }) w0 h ws body c.args.world.now c.args.machine.now c.args.frame.now c.args.arguments c.args.left calls c.in-Err.stop c.step.new.self c.args.machine.now c.args.frame.now c.in-Err.ensures,
)
