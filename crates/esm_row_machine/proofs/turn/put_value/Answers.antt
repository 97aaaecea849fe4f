use Rattle.std.proofs.Common.{refl}
use Rattle.esm_row_machine.proofs.Coming.{comes}
use Rattle.esm_row_machine.proofs.Literals.{text_told, truth, undefined}
use Rattle.esm_row_machine.proofs.ReadNames.{put_url, read_name}
use Rattle.esm_row_machine.proofs.Locals.{read_local}
use Rattle.esm_row_machine.proofs.turn.put_value.Goals as goal

pub returns-in-Text : goal.returns-in-Text
returns-in-Text g c = λ at h ws st is. text_told g.W.Outside.state g.W.Outside.modules g.W.Outside.linked g.W.Outside.begins g.W.Outside.ready g.W.Outside.keeps g.W.Outside.owns (record { itself = g.met.W.Outside.keeps_itself; both = g.met.W.Outside.keeps_both; stays = g.met.W.Outside.stays }) c.args.world.now c.args.machine.now c.args.frame c.args.left h ws c.args.row.now.texts.items c.in-Text.k (rw c.in-Text.is at (comes g.W.Outside.state g.W.Outside.modules g.W.Outside.linked g.W.Outside.begins g.W.Outside.ready g.W.Outside.keeps g.W.Outside.owns c.args.world.now c.args.machine.now c.args.frame c.args.left h ws c.args.row.now c.args.op st is at)) c.text_at.result c.text_at.ensures _ (refl, refl, refl) c.put_text.result c.put_text.ensures

pub returns-in-Truth : goal.returns-in-Truth
returns-in-Truth g c = λ at h ws st is. truth g.W.Outside.state g.W.Outside.modules g.W.Outside.linked g.W.Outside.begins g.W.Outside.ready g.W.Outside.keeps g.W.Outside.owns (record { itself = g.met.W.Outside.keeps_itself; both = g.met.W.Outside.keeps_both; stays = g.met.W.Outside.stays }) c.args.world.now c.args.machine.now c.args.frame c.args.left h ws c.args.row.now.texts.items c.in-Truth.truth (rw c.in-Truth.is at (comes g.W.Outside.state g.W.Outside.modules g.W.Outside.linked g.W.Outside.begins g.W.Outside.ready g.W.Outside.keeps g.W.Outside.owns c.args.world.now c.args.machine.now c.args.frame c.args.left h ws c.args.row.now c.args.op st is at)) _ (refl, refl, refl) c.put.result c.put.ensures

pub returns-in-Undefined : goal.returns-in-Undefined
returns-in-Undefined g c = λ at h ws st is. undefined g.W.Outside.state g.W.Outside.modules g.W.Outside.linked g.W.Outside.begins g.W.Outside.ready g.W.Outside.keeps g.W.Outside.owns (record { itself = g.met.W.Outside.keeps_itself; both = g.met.W.Outside.keeps_both; stays = g.met.W.Outside.stays }) c.args.world.now c.args.machine.now c.args.frame c.args.left h ws c.args.row.now.texts.items (rw c.in-Undefined.is at (comes g.W.Outside.state g.W.Outside.modules g.W.Outside.linked g.W.Outside.begins g.W.Outside.ready g.W.Outside.keeps g.W.Outside.owns c.args.world.now c.args.machine.now c.args.frame c.args.left h ws c.args.row.now c.args.op st is at)) _ (refl, refl, refl) c.put-in-Undefined.result c.put-in-Undefined.ensures

pub returns-in-Url : goal.returns-in-Url
returns-in-Url g c = λ at h ws st is. put_url g.W.Outside.state g.W.Outside.modules g.W.Outside.linked g.W.Outside.begins g.W.Outside.ready g.W.Outside.keeps g.W.Outside.owns (record { itself = g.met.W.Outside.keeps_itself; both = g.met.W.Outside.keeps_both; stays = g.met.W.Outside.stays }) c.args.world.now c.args.machine.now c.args.frame c.args.left h ws c.args.row.now.texts.items (rw c.in-Url.is at (comes g.W.Outside.state g.W.Outside.modules g.W.Outside.linked g.W.Outside.begins g.W.Outside.ready g.W.Outside.keeps g.W.Outside.owns c.args.world.now c.args.machine.now c.args.frame c.args.left h ws c.args.row.now c.args.op st is at)) _ (refl, refl, refl) c.put_url.result c.put_url.ensures

pub returns-in-Local : goal.returns-in-Local
returns-in-Local g c = λ at h ws st is. read_local g.W.Outside.state g.W.Outside.modules g.W.Outside.linked g.W.Outside.begins g.W.Outside.ready g.W.Outside.keeps g.W.Outside.owns (record { itself = g.met.W.Outside.keeps_itself; both = g.met.W.Outside.keeps_both; stays = g.met.W.Outside.stays }) c.args.world.now c.args.machine.now c.args.frame c.args.left h ws c.args.row.now.texts.items c.in-Local.place c.in-Local.k (rw c.in-Local.is at (comes g.W.Outside.state g.W.Outside.modules g.W.Outside.linked g.W.Outside.begins g.W.Outside.ready g.W.Outside.keeps g.W.Outside.owns c.args.world.now c.args.machine.now c.args.frame c.args.left h ws c.args.row.now c.args.op st is at)) c.text_at-in-Local.result c.text_at-in-Local.ensures c.read_local.new.world _ (refl, refl, refl) c.read_local.result (rw c.as_slice.ensures.value at c.read_local.ensures)

pub returns-in-Name : goal.returns-in-Name
returns-in-Name g c = λ at h ws st is. read_name g.W.Outside.state g.W.Outside.modules g.W.Outside.linked g.W.Outside.begins g.W.Outside.ready g.W.Outside.keeps g.W.Outside.owns (record { itself = g.met.W.Outside.keeps_itself; both = g.met.W.Outside.keeps_both; stays = g.met.W.Outside.stays }) c.args.world.now c.args.machine.now c.args.frame c.args.left h ws c.args.row.now.texts.items c.in-Name.k (rw c.in-Name.is at (comes g.W.Outside.state g.W.Outside.modules g.W.Outside.linked g.W.Outside.begins g.W.Outside.ready g.W.Outside.keeps g.W.Outside.owns c.args.world.now c.args.machine.now c.args.frame c.args.left h ws c.args.row.now c.args.op st is at)) c.text_at-in-Name.result c.text_at-in-Name.ensures c.read_name.new.world _ (refl, refl, refl) c.read_name.result c.read_name.ensures

pub returns-in_default : goal.returns-in_default
returns-in_default g c = λ at h ws st is. tt
