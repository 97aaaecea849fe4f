use Rattle.std.proofs.Common.{refl}
use Rattle.esm_row_machine.proofs.Coming.{comes}
use Rattle.esm_row_machine.proofs.Asked.{add, member, print, new_error, import}
use Rattle.esm_row_machine.proofs.turn.ask.Goals as goal

pub returns-in-Add : goal.returns-in-Add
returns-in-Add g c = λ at h ws st is. add g.W.Outside.state g.W.Outside.modules g.W.Outside.linked g.W.Outside.begins g.W.Outside.ready g.W.Outside.keeps g.W.Outside.owns (record { itself = g.met.W.Outside.keeps_itself; both = g.met.W.Outside.keeps_both; stays = g.met.W.Outside.stays }) c.args.world.now c.args.machine.now c.args.frame c.args.left h ws c.args.row.now.texts.items (rw c.in-Add.is at (comes g.W.Outside.state g.W.Outside.modules g.W.Outside.linked g.W.Outside.begins g.W.Outside.ready g.W.Outside.keeps g.W.Outside.owns c.args.world.now c.args.machine.now c.args.frame c.args.left h ws c.args.row.now c.args.op st is at)) c.add.new.world _ (refl, refl, refl) c.add.result c.add.ensures

pub returns-in-Member : goal.returns-in-Member
returns-in-Member g c = λ at h ws st is. member g.W.Outside.state g.W.Outside.modules g.W.Outside.linked g.W.Outside.begins g.W.Outside.ready g.W.Outside.keeps g.W.Outside.owns (record { itself = g.met.W.Outside.keeps_itself; both = g.met.W.Outside.keeps_both; stays = g.met.W.Outside.stays }) c.args.world.now c.args.machine.now c.args.frame c.args.left h ws c.args.row.now.texts.items c.in-Member.k (rw c.in-Member.is at (comes g.W.Outside.state g.W.Outside.modules g.W.Outside.linked g.W.Outside.begins g.W.Outside.ready g.W.Outside.keeps g.W.Outside.owns c.args.world.now c.args.machine.now c.args.frame c.args.left h ws c.args.row.now c.args.op st is at)) c.text_at.result c.text_at.ensures c.member.new.world _ (refl, refl, refl) c.member.result c.member.ensures

pub returns-in-Print : goal.returns-in-Print
returns-in-Print g c = λ at h ws st is. print g.W.Outside.state g.W.Outside.modules g.W.Outside.linked g.W.Outside.begins g.W.Outside.ready g.W.Outside.keeps g.W.Outside.owns (record { itself = g.met.W.Outside.keeps_itself; both = g.met.W.Outside.keeps_both; stays = g.met.W.Outside.stays }) c.args.world.now c.args.machine.now c.args.frame c.args.left h ws c.args.row.now.texts.items c.in-Print.count (rw c.in-Print.is at (comes g.W.Outside.state g.W.Outside.modules g.W.Outside.linked g.W.Outside.begins g.W.Outside.ready g.W.Outside.keeps g.W.Outside.owns c.args.world.now c.args.machine.now c.args.frame c.args.left h ws c.args.row.now c.args.op st is at)) c.print.new.world _ (refl, refl, refl) c.print.result c.print.ensures

pub returns-in-NewError : goal.returns-in-NewError
returns-in-NewError g c = λ at h ws st is. new_error g.W.Outside.state g.W.Outside.modules g.W.Outside.linked g.W.Outside.begins g.W.Outside.ready g.W.Outside.keeps g.W.Outside.owns (record { itself = g.met.W.Outside.keeps_itself; both = g.met.W.Outside.keeps_both; stays = g.met.W.Outside.stays }) c.args.world.now c.args.machine.now c.args.frame c.args.left h ws c.args.row.now.texts.items (rw c.in-NewError.is at (comes g.W.Outside.state g.W.Outside.modules g.W.Outside.linked g.W.Outside.begins g.W.Outside.ready g.W.Outside.keeps g.W.Outside.owns c.args.world.now c.args.machine.now c.args.frame c.args.left h ws c.args.row.now c.args.op st is at)) c.make_error.new.world _ (refl, refl, refl) c.make_error.result c.make_error.ensures

pub returns-in-Import : goal.returns-in-Import
returns-in-Import g c = λ at h ws st is. import g.W.Outside.state g.W.Outside.modules g.W.Outside.linked g.W.Outside.begins g.W.Outside.ready g.W.Outside.keeps g.W.Outside.owns (record { itself = g.met.W.Outside.keeps_itself; both = g.met.W.Outside.keeps_both; stays = g.met.W.Outside.stays }) c.args.world.now c.args.machine.now c.args.frame c.args.left h ws c.args.row.now.texts.items (rw c.in-Import.is at (comes g.W.Outside.state g.W.Outside.modules g.W.Outside.linked g.W.Outside.begins g.W.Outside.ready g.W.Outside.keeps g.W.Outside.owns c.args.world.now c.args.machine.now c.args.frame c.args.left h ws c.args.row.now c.args.op st is at)) c.import.new.world _ (refl, refl, refl) c.import.result c.import.ensures

pub returns-in_default : goal.returns-in_default
returns-in_default g c = λ at h ws st is. tt
