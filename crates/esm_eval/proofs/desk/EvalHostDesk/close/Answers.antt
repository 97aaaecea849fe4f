use Rattle.std.proofs.Common.{get_or}
use Rattle.std.proofs.lemmas.Option.{slice_get-get_or}
use Rattle.esm_eval.proofs.Inner.HostSteps as steps
use Rattle.esm_eval.proofs.Inner.DeskSteps as desk
use Rattle.esm_eval.proofs.desk.EvalHostDesk.close.Goals as goal

pub loop-i-init : goal.loop-i-init
loop-i-init g c = steps.closing_first g.B.Bodies.targets g.B.Bodies.awaits g.B.Bodies.begun g.B.Bodies.linked g.B.Bodies.knows g.B.Bodies.fits c.args.self.now c.args.x c.args.opened.now c.args.place c.requires.stack c.requires.fits c.requires.entered

pub close-requires : goal.close-requires
close-requires g c = record { has = steps.has_open g.B.Bodies.targets g.B.Bodies.awaits g.B.Bodies.begun g.B.Bodies.linked g.B.Bodies.knows g.B.Bodies.fits c.loop-i.self c.args.opened.now c.loop-i.i (get_or c.args.opened.now c.loop-i.i 0) c.loop-i.invariant.fit c.loop-i.invariant.stack (slice_get-get_or c.args.opened.now c.loop-i.i 0 c.loop-i-test.true); root = steps.has_entered g.B.Bodies.targets g.B.Bodies.awaits g.B.Bodies.begun g.B.Bodies.linked g.B.Bodies.knows g.B.Bodies.fits c.loop-i.self c.args.x c.loop-i.invariant.fit c.loop-i.invariant.root_in }

pub loop-i-preserved : goal.loop-i-preserved
loop-i-preserved g c = steps.closing_step g.B.Bodies.targets g.B.Bodies.awaits g.B.Bodies.begun g.B.Bodies.linked g.B.Bodies.knows g.B.Bodies.fits c.args.self.now c.loop-i.self c.args.x c.args.opened.now c.args.place c.loop-i.i (get_or c.args.opened.now c.loop-i.i 0) _ _ c.loop-i.invariant (slice_get-get_or c.args.opened.now c.loop-i.i 0 c.loop-i-test.true) (desk.closed_by g.B.Bodies.targets g.B.Bodies.awaits g.B.Bodies.begun g.B.Bodies.linked g.B.Bodies.knows c.loop-i.self (get_or c.args.opened.now c.loop-i.i 0) c.is_stamped.result _ c.closed_phase.ensures c.is_stamped.ensures.stamped) c.close.ensures

pub returns-clause-world : goal.returns-clause-world
returns-clause-world g c = steps.closing_all g.B.Bodies.targets g.B.Bodies.awaits g.B.Bodies.begun g.B.Bodies.linked g.B.Bodies.knows g.B.Bodies.fits c.args.self.now c.loop-i.self c.args.x c.args.opened.now c.args.place c.loop-i.i c.loop-i.invariant c.loop-i-test.false

pub returns-clause-size : goal.returns-clause-size
returns-clause-size g c = c.loop-i.invariant.long
