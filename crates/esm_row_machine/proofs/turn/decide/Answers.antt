use Rattle.std.proofs.Common.{refl}
use Rattle.esm_row_machine.proofs.Coming.{comes}
use Rattle.esm_row_machine.proofs.Deciding.{or_else, and_also, turn_over}
use Rattle.esm_row_machine.proofs.Comparing.{choose, compare}
use Rattle.esm_row_machine.proofs.turn.decide.Goals as goal

pub returns-in-OrElse : goal.returns-in-OrElse
returns-in-OrElse g c = λ at h ws st is. or_else g.W.Outside.state g.W.Outside.modules g.W.Outside.linked g.W.Outside.begins g.W.Outside.ready g.W.Outside.keeps g.W.Outside.owns (record { itself = g.met.W.Outside.keeps_itself; both = g.met.W.Outside.keeps_both; stays = g.met.W.Outside.stays }) c.args._world.now c.args.machine.now c.args._frame c.args.left h ws c.args._row.now.texts.items c.in-OrElse.skip (rw c.in-OrElse.is at (comes g.W.Outside.state g.W.Outside.modules g.W.Outside.linked g.W.Outside.begins g.W.Outside.ready g.W.Outside.keeps g.W.Outside.owns c.args._world.now c.args.machine.now c.args._frame c.args.left h ws c.args._row.now c.args.op st is at)) _ (refl, refl, refl) c.or_else.result c.or_else.ensures

pub returns-in-AndAlso : goal.returns-in-AndAlso
returns-in-AndAlso g c = λ at h ws st is. and_also g.W.Outside.state g.W.Outside.modules g.W.Outside.linked g.W.Outside.begins g.W.Outside.ready g.W.Outside.keeps g.W.Outside.owns (record { itself = g.met.W.Outside.keeps_itself; both = g.met.W.Outside.keeps_both; stays = g.met.W.Outside.stays }) c.args._world.now c.args.machine.now c.args._frame c.args.left h ws c.args._row.now.texts.items c.in-AndAlso.skip (rw c.in-AndAlso.is at (comes g.W.Outside.state g.W.Outside.modules g.W.Outside.linked g.W.Outside.begins g.W.Outside.ready g.W.Outside.keeps g.W.Outside.owns c.args._world.now c.args.machine.now c.args._frame c.args.left h ws c.args._row.now c.args.op st is at)) _ (refl, refl, refl) c.and_also.result c.and_also.ensures

pub returns-in-Choose : goal.returns-in-Choose
returns-in-Choose g c = λ at h ws st is. choose g.W.Outside.state g.W.Outside.modules g.W.Outside.linked g.W.Outside.begins g.W.Outside.ready g.W.Outside.keeps g.W.Outside.owns (record { itself = g.met.W.Outside.keeps_itself; both = g.met.W.Outside.keeps_both; stays = g.met.W.Outside.stays }) c.args._world.now c.args.machine.now c.args._frame c.args.left h ws c.args._row.now.texts.items c.in-Choose.skip (rw c.in-Choose.is at (comes g.W.Outside.state g.W.Outside.modules g.W.Outside.linked g.W.Outside.begins g.W.Outside.ready g.W.Outside.keeps g.W.Outside.owns c.args._world.now c.args.machine.now c.args._frame c.args.left h ws c.args._row.now c.args.op st is at)) _ (refl, refl, refl) c.choose.result c.choose.ensures

pub returns-in-Compare : goal.returns-in-Compare
returns-in-Compare g c = λ at h ws st is. compare g.W.Outside.state g.W.Outside.modules g.W.Outside.linked g.W.Outside.begins g.W.Outside.ready g.W.Outside.keeps g.W.Outside.owns (record { itself = g.met.W.Outside.keeps_itself; both = g.met.W.Outside.keeps_both; stays = g.met.W.Outside.stays }) c.args._world.now c.args.machine.now c.args._frame c.args.left h ws c.args._row.now.texts.items c.in-Compare.alike (rw c.in-Compare.is at (comes g.W.Outside.state g.W.Outside.modules g.W.Outside.linked g.W.Outside.begins g.W.Outside.ready g.W.Outside.keeps g.W.Outside.owns c.args._world.now c.args.machine.now c.args._frame c.args.left h ws c.args._row.now c.args.op st is at)) _ (refl, refl, refl) c.compare.result c.compare.ensures

pub returns-in-Not : goal.returns-in-Not
returns-in-Not g c = λ at h ws st is. turn_over g.W.Outside.state g.W.Outside.modules g.W.Outside.linked g.W.Outside.begins g.W.Outside.ready g.W.Outside.keeps g.W.Outside.owns (record { itself = g.met.W.Outside.keeps_itself; both = g.met.W.Outside.keeps_both; stays = g.met.W.Outside.stays }) c.args._world.now c.args.machine.now c.args._frame c.args.left h ws c.args._row.now.texts.items (rw c.in-Not.is at (comes g.W.Outside.state g.W.Outside.modules g.W.Outside.linked g.W.Outside.begins g.W.Outside.ready g.W.Outside.keeps g.W.Outside.owns c.args._world.now c.args.machine.now c.args._frame c.args.left h ws c.args._row.now c.args.op st is at)) _ (refl, refl, refl) c.turn_over.result c.turn_over.ensures

pub returns-in_default : goal.returns-in_default
returns-in_default g c = λ at h ws st is. tt
