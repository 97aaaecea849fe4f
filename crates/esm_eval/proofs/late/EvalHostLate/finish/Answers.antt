use Rattle.std.proofs.Common.{sym, subst}
use Rattle.std.specs.Option.{option_map}
use Rattle.esm_eval.specs.Host.{HostFits}
use Rattle.esm_eval.proofs.Inner.BodySteps as body
use Rattle.esm_eval.proofs.Inner.LateHost as late
use Rattle.esm_eval.proofs.late.EvalHostLate.finish.Goals as goal

pub finish-requires : goal.finish-requires
finish-requires g c = c.requires.fits.have c.args.x c.requires.linked

pub returns-clause-world : goal.returns-clause-world
returns-clause-world g c = (late.finish_world g.B.Bodies.targets g.B.Bodies.awaits g.B.Bodies.begun g.B.Bodies.linked g.B.Bodies.knows c.args.self.now c.args.x c.finish.new.self (option_map (λ p. p.0) c.promise-kept.result) c.fulfill_kept.new.self c.promise-kept.ensures c.finish.ensures c.fulfill_kept.ensures)

pub returns-clause-stays : goal.returns-clause-stays
returns-clause-stays g c = late.finish_stays g.B.Bodies.targets g.B.Bodies.awaits g.B.Bodies.begun g.B.Bodies.linked g.B.Bodies.knows c.args.self.now c.args.x c.fulfill_kept.new.self (late.finish_world g.B.Bodies.targets g.B.Bodies.awaits g.B.Bodies.begun g.B.Bodies.linked g.B.Bodies.knows c.args.self.now c.args.x c.finish.new.self (option_map (λ p. p.0) c.promise-kept.result) c.fulfill_kept.new.self c.promise-kept.ensures c.finish.ensures c.fulfill_kept.ensures)

pub returns-clause-fits : goal.returns-clause-fits
returns-clause-fits g c = subst (λ s. HostFits g.B.Bodies.fits g.B.Bodies.linked g.B.Bodies.knows s) (sym (late.finish_world g.B.Bodies.targets g.B.Bodies.awaits g.B.Bodies.begun g.B.Bodies.linked g.B.Bodies.knows c.args.self.now c.args.x c.finish.new.self (option_map (λ p. p.0) c.promise-kept.result) c.fulfill_kept.new.self c.promise-kept.ensures c.finish.ensures c.fulfill_kept.ensures)) (body.fits_finish g.B.Bodies.targets g.B.Bodies.awaits g.B.Bodies.begun g.B.Bodies.linked g.B.Bodies.knows g.B.Bodies.acts g.B.Bodies.fits g.B.Bodies.stays_fit c.args.self.now c.args.x c.requires.fits c.requires.linked)

pub returns-clause-size : goal.returns-clause-size
returns-clause-size g c = late.finish_size g.B.Bodies.targets g.B.Bodies.awaits g.B.Bodies.begun g.B.Bodies.linked g.B.Bodies.knows c.args.self.now c.args.x c.finish.new.self (option_map (λ p. p.0) c.promise-kept.result) c.fulfill_kept.new.self (c.requires.fits.have c.args.x c.requires.linked) c.finish.ensures c.fulfill_kept.ensures
