use Rattle.std.proofs.Common.{refl}
use Rattle.esm_row_machine.proofs.Coming.{comes}
use Rattle.esm_row_machine.proofs.Locals.{set_local}
use Rattle.esm_row_machine.proofs.Writing.{write_local, write_constant}
use Rattle.esm_row_machine.proofs.Assigned.{write_name}
use Rattle.esm_row_machine.proofs.turn.write.Goals as goal

pub returns-in-SetLocal : goal.returns-in-SetLocal
returns-in-SetLocal g c = λ at h ws st is. set_local g.W.Outside.state g.W.Outside.modules g.W.Outside.linked g.W.Outside.begins g.W.Outside.ready g.W.Outside.keeps g.W.Outside.owns (record { itself = g.met.W.Outside.keeps_itself; both = g.met.W.Outside.keeps_both; stays = g.met.W.Outside.stays }) c.args.world.now c.args.machine.now c.args.frame c.args.left h ws c.args.row.now.texts.items c.in-SetLocal.place (rw c.in-SetLocal.is at (comes g.W.Outside.state g.W.Outside.modules g.W.Outside.linked g.W.Outside.begins g.W.Outside.ready g.W.Outside.keeps g.W.Outside.owns c.args.world.now c.args.machine.now c.args.frame c.args.left h ws c.args.row.now c.args.op st is at)) _ (refl, refl) c.set_local.result c.set_local.ensures

pub returns-in-WriteLocal : goal.returns-in-WriteLocal
returns-in-WriteLocal g c = λ at h ws st is. write_local g.W.Outside.state g.W.Outside.modules g.W.Outside.linked g.W.Outside.begins g.W.Outside.ready g.W.Outside.keeps g.W.Outside.owns (record { itself = g.met.W.Outside.keeps_itself; both = g.met.W.Outside.keeps_both; stays = g.met.W.Outside.stays }) c.args.world.now c.args.machine.now c.args.frame c.args.left h ws c.args.row.now.texts.items c.in-WriteLocal.place c.in-WriteLocal.k (rw c.in-WriteLocal.is at (comes g.W.Outside.state g.W.Outside.modules g.W.Outside.linked g.W.Outside.begins g.W.Outside.ready g.W.Outside.keeps g.W.Outside.owns c.args.world.now c.args.machine.now c.args.frame c.args.left h ws c.args.row.now c.args.op st is at)) c.text_at.result c.text_at.ensures c.write_local.new.world _ (refl, refl) c.write_local.result c.write_local.ensures

pub returns-in-WriteConstant : goal.returns-in-WriteConstant
returns-in-WriteConstant g c = λ at h ws st is. write_constant g.W.Outside.state g.W.Outside.modules g.W.Outside.linked g.W.Outside.begins g.W.Outside.ready g.W.Outside.keeps g.W.Outside.owns (record { itself = g.met.W.Outside.keeps_itself; both = g.met.W.Outside.keeps_both; stays = g.met.W.Outside.stays }) c.args.world.now c.args.machine.now c.args.frame c.args.left h ws c.args.row.now.texts.items c.in-WriteConstant.place c.in-WriteConstant.k (rw c.in-WriteConstant.is at (comes g.W.Outside.state g.W.Outside.modules g.W.Outside.linked g.W.Outside.begins g.W.Outside.ready g.W.Outside.keeps g.W.Outside.owns c.args.world.now c.args.machine.now c.args.frame c.args.left h ws c.args.row.now c.args.op st is at)) c.text_at-in-WriteConstant.result c.text_at-in-WriteConstant.ensures c.write_local-in-WriteConstant.new.world _ (refl, refl) c.write_local-in-WriteConstant.result c.write_local-in-WriteConstant.ensures

pub returns-in-WriteName : goal.returns-in-WriteName
returns-in-WriteName g c = λ at h ws st is. write_name g.W.Outside.state g.W.Outside.modules g.W.Outside.linked g.W.Outside.begins g.W.Outside.ready g.W.Outside.keeps g.W.Outside.owns (record { itself = g.met.W.Outside.keeps_itself; both = g.met.W.Outside.keeps_both; stays = g.met.W.Outside.stays }) c.args.world.now c.args.machine.now c.args.frame c.args.left h ws c.args.row.now.texts.items c.in-WriteName.k (rw c.in-WriteName.is at (comes g.W.Outside.state g.W.Outside.modules g.W.Outside.linked g.W.Outside.begins g.W.Outside.ready g.W.Outside.keeps g.W.Outside.owns c.args.world.now c.args.machine.now c.args.frame c.args.left h ws c.args.row.now c.args.op st is at)) c.text_at-in-WriteName.result c.text_at-in-WriteName.ensures c.write_name.new.world _ (refl, refl, refl) c.write_name.result c.write_name.ensures

pub returns-in_default : goal.returns-in_default
returns-in_default g c = λ at h ws st is. tt
