use Rattle.std.proofs.Common.{refl}
use Rattle.esm_row_machine.proofs.Coming.{comes}
use Rattle.esm_row_machine.proofs.AtCall.{call}
use Rattle.esm_row_machine.proofs.Leaving.{throw_value, give, end}
use Rattle.esm_row_machine.proofs.turn.operate.Goals as goal

pub returns-in-Call : goal.returns-in-Call
returns-in-Call g c = λ at h ws st is. call g.W.Outside.state g.W.Outside.modules g.W.Outside.linked g.W.Outside.begins g.W.Outside.ready g.W.Outside.keeps g.W.Outside.owns (record { itself = g.met.W.Outside.keeps_itself; both = g.met.W.Outside.keeps_both; stays = g.met.W.Outside.stays }) c.args.world.now c.args.machine.now c.args.frame c.args.left h ws c.args.row.now.texts.items c.in-Call.count (rw c.in-Call.is at (comes g.W.Outside.state g.W.Outside.modules g.W.Outside.linked g.W.Outside.begins g.W.Outside.ready g.W.Outside.keeps g.W.Outside.owns c.args.world.now c.args.machine.now c.args.frame c.args.left h ws c.args.row.now c.args.op st is at))

pub returns-in-Throw : goal.returns-in-Throw
returns-in-Throw g c = λ at h ws st is. throw_value g.W.Outside.state g.W.Outside.modules g.W.Outside.linked g.W.Outside.begins g.W.Outside.ready g.W.Outside.keeps g.W.Outside.owns (record { itself = g.met.W.Outside.keeps_itself; both = g.met.W.Outside.keeps_both; stays = g.met.W.Outside.stays }) c.args.world.now c.args.machine.now c.args.frame c.args.left h ws c.args.row.now.texts.items (rw c.in-Throw.is at (comes g.W.Outside.state g.W.Outside.modules g.W.Outside.linked g.W.Outside.begins g.W.Outside.ready g.W.Outside.keeps g.W.Outside.owns c.args.world.now c.args.machine.now c.args.frame c.args.left h ws c.args.row.now c.args.op st is at)) _ (refl, refl, refl) c.throw_value.result c.throw_value.ensures

pub returns-in-Return : goal.returns-in-Return
returns-in-Return g c = λ at h ws st is. give g.W.Outside.state g.W.Outside.modules g.W.Outside.linked g.W.Outside.begins g.W.Outside.ready g.W.Outside.keeps g.W.Outside.owns (record { itself = g.met.W.Outside.keeps_itself; both = g.met.W.Outside.keeps_both; stays = g.met.W.Outside.stays }) c.args.world.now c.args.machine.now c.args.frame c.args.left h ws c.args.row.now.texts.items (rw c.in-Return.is at (comes g.W.Outside.state g.W.Outside.modules g.W.Outside.linked g.W.Outside.begins g.W.Outside.ready g.W.Outside.keeps g.W.Outside.owns c.args.world.now c.args.machine.now c.args.frame c.args.left h ws c.args.row.now c.args.op st is at)) _ (refl, refl, refl) c.give.result c.give.ensures

pub returns-in-End : goal.returns-in-End
returns-in-End g c = λ at h ws st is. end g.W.Outside.state g.W.Outside.modules g.W.Outside.linked g.W.Outside.begins g.W.Outside.ready g.W.Outside.keeps g.W.Outside.owns (record { itself = g.met.W.Outside.keeps_itself; both = g.met.W.Outside.keeps_both; stays = g.met.W.Outside.stays }) c.args.world.now c.args.machine.now c.args.frame c.args.left h ws c.args.row.now.texts.items (rw c.in-End.is at (comes g.W.Outside.state g.W.Outside.modules g.W.Outside.linked g.W.Outside.begins g.W.Outside.ready g.W.Outside.keeps g.W.Outside.owns c.args.world.now c.args.machine.now c.args.frame c.args.left h ws c.args.row.now c.args.op st is at))

pub returns-in-Text : goal.returns-in-Text
returns-in-Text g c = c.put_value.ensures

pub returns-in-OrElse : goal.returns-in-OrElse
returns-in-OrElse g c = c.decide.ensures

pub returns-in-Add : goal.returns-in-Add
returns-in-Add g c = c.ask.ensures

pub returns-in-SetLocal : goal.returns-in-SetLocal
returns-in-SetLocal g c = c.write.ensures

pub returns-in-Enter : goal.returns-in-Enter
returns-in-Enter g c = c.change_block.ensures
