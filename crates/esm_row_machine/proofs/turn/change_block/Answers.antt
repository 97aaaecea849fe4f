use Rattle.std.proofs.Common.{refl}
use Rattle.esm_row_machine.proofs.Coming.{comes}
use Rattle.esm_row_machine.proofs.Blocks.{enter, leave, enter_try, leave_try}
use Rattle.esm_row_machine.proofs.Handlers.{catch, catch_unnamed}
use Rattle.esm_row_machine.proofs.turn.change_block.Goals as goal

pub returns-in-Enter : goal.returns-in-Enter
returns-in-Enter g c = λ at h ws st is. enter g.W.Outside.state g.W.Outside.modules g.W.Outside.linked g.W.Outside.begins g.W.Outside.ready g.W.Outside.keeps g.W.Outside.owns (record { itself = g.met.W.Outside.keeps_itself; both = g.met.W.Outside.keeps_both; stays = g.met.W.Outside.stays }) c.args._world.now c.args.machine.now c.args._frame c.args.left h ws c.args._row.now.texts.items c.in-Enter.count (rw c.in-Enter.is at (comes g.W.Outside.state g.W.Outside.modules g.W.Outside.linked g.W.Outside.begins g.W.Outside.ready g.W.Outside.keeps g.W.Outside.owns c.args._world.now c.args.machine.now c.args._frame c.args.left h ws c.args._row.now c.args.op st is at)) _ (refl, refl, refl) c.enter.result c.enter.ensures

pub returns-in-Leave : goal.returns-in-Leave
returns-in-Leave g c = λ at h ws st is. leave g.W.Outside.state g.W.Outside.modules g.W.Outside.linked g.W.Outside.begins g.W.Outside.ready g.W.Outside.keeps g.W.Outside.owns (record { itself = g.met.W.Outside.keeps_itself; both = g.met.W.Outside.keeps_both; stays = g.met.W.Outside.stays }) c.args._world.now c.args.machine.now c.args._frame c.args.left h ws c.args._row.now.texts.items c.in-Leave.count c.in-Leave.skip (rw c.in-Leave.is at (comes g.W.Outside.state g.W.Outside.modules g.W.Outside.linked g.W.Outside.begins g.W.Outside.ready g.W.Outside.keeps g.W.Outside.owns c.args._world.now c.args.machine.now c.args._frame c.args.left h ws c.args._row.now c.args.op st is at)) _ (refl, refl, refl) c.leave.result c.leave.ensures

pub returns-in-Try : goal.returns-in-Try
returns-in-Try g c = λ at h ws st is. enter_try g.W.Outside.state g.W.Outside.modules g.W.Outside.linked g.W.Outside.begins g.W.Outside.ready g.W.Outside.keeps g.W.Outside.owns (record { itself = g.met.W.Outside.keeps_itself; both = g.met.W.Outside.keeps_both; stays = g.met.W.Outside.stays }) c.args._world.now c.args.machine.now c.args._frame c.args.left h ws c.args._row.now.texts.items c.in-Try.count c.in-Try.handler (rw c.in-Try.is at (comes g.W.Outside.state g.W.Outside.modules g.W.Outside.linked g.W.Outside.begins g.W.Outside.ready g.W.Outside.keeps g.W.Outside.owns c.args._world.now c.args.machine.now c.args._frame c.args.left h ws c.args._row.now c.args.op st is at)) _ (refl, refl) c.enter_try.result c.enter_try.ensures

pub returns-in-EndTry : goal.returns-in-EndTry
returns-in-EndTry g c = λ at h ws st is. leave_try g.W.Outside.state g.W.Outside.modules g.W.Outside.linked g.W.Outside.begins g.W.Outside.ready g.W.Outside.keeps g.W.Outside.owns (record { itself = g.met.W.Outside.keeps_itself; both = g.met.W.Outside.keeps_both; stays = g.met.W.Outside.stays }) c.args._world.now c.args.machine.now c.args._frame c.args.left h ws c.args._row.now.texts.items c.in-EndTry.count c.in-EndTry.skip (rw c.in-EndTry.is at (comes g.W.Outside.state g.W.Outside.modules g.W.Outside.linked g.W.Outside.begins g.W.Outside.ready g.W.Outside.keeps g.W.Outside.owns c.args._world.now c.args.machine.now c.args._frame c.args.left h ws c.args._row.now c.args.op st is at)) _ (refl, refl) c.leave_try.result c.leave_try.ensures

pub returns-in-Caught : goal.returns-in-Caught
returns-in-Caught g c = λ at h ws st is. catch g.W.Outside.state g.W.Outside.modules g.W.Outside.linked g.W.Outside.begins g.W.Outside.ready g.W.Outside.keeps g.W.Outside.owns (record { itself = g.met.W.Outside.keeps_itself; both = g.met.W.Outside.keeps_both; stays = g.met.W.Outside.stays }) c.args._world.now c.args.machine.now c.args._frame c.args.left h ws c.args._row.now.texts.items c.in-Caught.count (rw c.in-Caught.is at (comes g.W.Outside.state g.W.Outside.modules g.W.Outside.linked g.W.Outside.begins g.W.Outside.ready g.W.Outside.keeps g.W.Outside.owns c.args._world.now c.args.machine.now c.args._frame c.args.left h ws c.args._row.now c.args.op st is at)) _ (refl, refl) c.begin_handler.result c.begin_handler.ensures

pub returns-in-CaughtUnnamed : goal.returns-in-CaughtUnnamed
returns-in-CaughtUnnamed g c = λ at h ws st is. catch_unnamed g.W.Outside.state g.W.Outside.modules g.W.Outside.linked g.W.Outside.begins g.W.Outside.ready g.W.Outside.keeps g.W.Outside.owns (record { itself = g.met.W.Outside.keeps_itself; both = g.met.W.Outside.keeps_both; stays = g.met.W.Outside.stays }) c.args._world.now c.args.machine.now c.args._frame c.args.left h ws c.args._row.now.texts.items c.in-CaughtUnnamed.count (rw c.in-CaughtUnnamed.is at (comes g.W.Outside.state g.W.Outside.modules g.W.Outside.linked g.W.Outside.begins g.W.Outside.ready g.W.Outside.keeps g.W.Outside.owns c.args._world.now c.args.machine.now c.args._frame c.args.left h ws c.args._row.now c.args.op st is at)) _ (refl, refl) c.begin_handler-in-CaughtUnnamed.result c.begin_handler-in-CaughtUnnamed.ensures

pub returns-in_default : goal.returns-in_default
returns-in_default g c = λ at h ws st is. tt
