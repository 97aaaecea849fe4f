use Rattle.std.proofs.Common.{length, refl, ap, sym, ◌∙◌, arith}
use Rattle.esm_row_machine.proofs.Told.{longer}
use Rattle.esm_row_machine.proofs.Returned.{none_left}
use Rattle.esm_row_machine.proofs.Flown.{lands_there, none_lands, out_of_all, out_of_one}
use Rattle.esm_row_machine.proofs.throws.fly.Goals as goal

pub leaving-init : goal.leaving-init
leaving-init g c = λ w0 h ws body t. t

pub leaving-preserved : goal.leaving-preserved
leaving-preserved g c = λ w0 h ws body t.
    out_of_one g.W.Outside.state g.W.Outside.modules g.W.Outside.linked g.W.Outside.begins g.W.Outside.ready g.W.Outside.keeps g.W.Outside.owns w0 h ws body c.leaving.here c.args.thrown c.args._world.now c.leaving.machine (c.leaving.invariant w0 h ws body t) (none_lands g.W.Outside.state g.W.Outside.modules g.W.Outside.linked g.W.Outside.begins g.W.Outside.ready g.W.Outside.keeps g.W.Outside.owns w0 h ws body c.leaving.here c.args.thrown c.args._world.now c.leaving.machine (c.leaving.invariant w0 h ws body t) (rw (c.len.ensures, c.leaving.machine.handlers.ok.0) at c.if-len-here.false))
    (record c.leaving.machine { names = c.truncate.new.self; frames = c.pop.new.self }) c.in-Some.caller c.in-Some.ensures.items c.truncate.ensures.items refl refl

pub leaving-smaller : goal.leaving-smaller
leaving-smaller g c = let many = ap length c.in-Some.ensures.items ∙ longer c.pop.new.self.items c.in-Some.caller in omega (arith, many)

pub returns-then-len-here : goal.returns-then-len-here
returns-then-len-here g c = λ w0 h ws body t. lands_there g.W.Outside.state g.W.Outside.modules g.W.Outside.linked g.W.Outside.begins g.W.Outside.ready g.W.Outside.keeps g.W.Outside.owns w0 h ws body c.leaving.here c.args.thrown c.args._world.now c.leaving.machine (c.leaving.invariant w0 h ws body t) (rw (c.len.ensures, c.leaving.machine.handlers.ok.0) at c.if-len-here.true) c.land.new.machine c.land.result c.land.ensures

pub returns-in-None : goal.returns-in-None
returns-in-None g c = λ w0 h ws body t.
    out_of_all g.W.Outside.state g.W.Outside.modules g.W.Outside.linked g.W.Outside.begins g.W.Outside.ready g.W.Outside.keeps g.W.Outside.owns w0 h ws body c.leaving.here c.args.thrown c.args._world.now c.leaving.machine (c.leaving.invariant w0 h ws body t) (none_lands g.W.Outside.state g.W.Outside.modules g.W.Outside.linked g.W.Outside.begins g.W.Outside.ready g.W.Outside.keeps g.W.Outside.owns w0 h ws body c.leaving.here c.args.thrown c.args._world.now c.leaving.machine (c.leaving.invariant w0 h ws body t) (rw (c.len.ensures, c.leaving.machine.handlers.ok.0) at c.if-len-here.false)) (none_left c.leaving.machine.frames.items (sym c.leaving.machine.frames.ok.0 ∙ c.in-None.ensures.cases.0))
