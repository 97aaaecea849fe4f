use Rattle.std.proofs.Common.{◌+◌, refl}
use Rattle.esm_row_machine.specs.Asking.{turn_of}
use Rattle.esm_row_machine.proofs.AtOnce.{turn_steps, turn_stops, turn_names, turn_drops}
use Rattle.esm_row_machine.proofs.shortcuts.do_here.Goals as goal

pub returns-in-Ok : goal.returns-in-Ok
returns-in-Ok g c = λ f row left e at. turn_steps g.W.Outside.state g.W.Outside.modules g.W.Outside.linked g.W.Outside.begins g.W.Outside.ready g.W.Outside.keeps g.W.Outside.owns (record { itself = g.met.W.Outside.keeps_itself; both = g.met.W.Outside.keeps_both; stays = g.met.W.Outside.stays }) c.args.world.now c.args.machine.now f (left + 1) left row refl (rw c.in-Step.is at at) c.step.new.self c.in-Ok.ensures

pub returns-in-Err : goal.returns-in-Err
returns-in-Err g c = λ f row left e at. turn_stops g.W.Outside.state g.W.Outside.modules g.W.Outside.linked g.W.Outside.begins g.W.Outside.ready g.W.Outside.keeps g.W.Outside.owns (record { itself = g.met.W.Outside.keeps_itself; both = g.met.W.Outside.keeps_both; stays = g.met.W.Outside.stays }) c.args.world.now c.args.machine.now f (left + 1) left row refl (rw c.in-Step.is at at) c.in-Err.stop c.step.new.self c.in-Err.ensures

pub returns-in-Own : goal.returns-in-Own
returns-in-Own g c = λ f row left e at.
    turn_names g.W.Outside.state g.W.Outside.modules g.W.Outside.linked g.W.Outside.begins g.W.Outside.ready g.W.Outside.keeps g.W.Outside.owns (record { itself = g.met.W.Outside.keeps_itself; both = g.met.W.Outside.keeps_both; stays = g.met.W.Outside.stays }) c.args.world.now c.args.machine.now f (left + 1) left row refl c.args.m.0 e c.in-Own.place (rw c.in-Own.is at at) c.put_own.new.world (record c.args.machine.now { operands = c.put_own.new.operands }) (refl, refl, refl) (turn_of left c.put_own.result) (c.put_own.ensures left)

pub returns-in-Ok-pop : goal.returns-in-Ok-pop
returns-in-Ok-pop g c = λ f row left e at. turn_drops g.W.Outside.state g.W.Outside.modules g.W.Outside.linked g.W.Outside.begins g.W.Outside.ready g.W.Outside.keeps g.W.Outside.owns (record { itself = g.met.W.Outside.keeps_itself; both = g.met.W.Outside.keeps_both; stays = g.met.W.Outside.stays }) c.args.world.now c.args.machine.now f (left + 1) left row refl (rw c.in-Drop.is at at) c.in-Ok-pop._value (record c.args.machine.now { operands = c.pop.new.operands }) (refl, refl, refl) c.in-Ok-pop.ensures

pub returns-in-Err-pop : goal.returns-in-Err-pop
returns-in-Err-pop g c = λ f row left e at h ws st is. tt

pub returns-in_default : goal.returns-in_default
returns-in_default g c = λ f row left e at h ws st is. tt
