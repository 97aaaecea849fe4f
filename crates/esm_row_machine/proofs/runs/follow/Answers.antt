use Rattle.esm_row_machine.proofs.Followed.{on_ok, goes_on, calls_left}
use Rattle.esm_row_machine.proofs.runs.follow.Goals as goal

pub returns-in-On : goal.returns-in-On
returns-in-On g c = λ w0 h ws body t fit. (goes_on g.W.Outside.state g.W.Outside.modules g.W.Outside.linked g.W.Outside.begins g.W.Outside.ready g.W.Outside.keeps g.W.Outside.owns w0 c.args.frame h ws body c.in-On.left c.args.world.now c.args.machine.now (rw c.in-On.is at t), fit)

pub returns-in-Calls : goal.returns-in-Calls
returns-in-Calls g c = λ w0 h ws body t fit. c.call_value.ensures w0 h ws body (calls_left g.W.Outside.state g.W.Outside.modules g.W.Outside.linked g.W.Outside.begins g.W.Outside.ready g.W.Outside.keeps g.W.Outside.owns w0 c.args.frame h ws c.in-Calls.arguments c.in-Calls.left c.args.world.now c.args.machine.now (rw c.in-Calls.is at t)) fit

pub returns-in-Returns : goal.returns-in-Returns
returns-in-Returns g c = λ w0 h ws body t fit. (c.give_back.ensures w0 h ws body (rw c.in-Returns.is at t), on_ok c.give_back.result fit)

pub returns-in-Throws : goal.returns-in-Throws
returns-in-Throws g c = λ w0 h ws body t fit. (c.throw.ensures w0 h ws body (rw c.in-Throws.is at t), on_ok c.throw.result fit)
