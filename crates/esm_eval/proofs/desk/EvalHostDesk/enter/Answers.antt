use Rattle.std.proofs.Common.{refl, ap, sym, subst, ◌∙◌}
use Rattle.esm_eval.specs.Table.{size}
use Rattle.esm_eval.specs.Host.{HostFits, evaluation}
use Rattle.esm_eval.specs.Counts.{unentered}
use Rattle.esm_eval.specs.WalkSteps.{Opens}
use Rattle.esm_eval.proofs.Inner.HostSteps as steps
use Rattle.esm_eval.proofs.desk.EvalHostDesk.enter.Goals as goal

pub set_phase-requires : goal.set_phase-requires
set_phase-requires g c = c.requires.fits.have c.args.x c.requires.linked

pub returns-clause-world : goal.returns-clause-world
returns-clause-world g c = ap (λ t. record c.args.self.now { nodes = t }) c.set_phase.ensures

pub returns-clause-opens : goal.returns-clause-opens
returns-clause-opens g c = subst (λ t. Opens (evaluation g.B.Bodies.targets g.B.Bodies.awaits g.B.Bodies.begun) (λ u. g.B.Bodies.linked u.bodies) (λ u. unentered u.nodes) c.args.self.now c.args.x (record c.args.self.now { nodes = t })) (sym c.set_phase.ensures) (steps.opens_put g.B.Bodies.targets g.B.Bodies.awaits g.B.Bodies.begun g.B.Bodies.linked g.B.Bodies.knows c.args.self.now c.args.x _ (c.requires.fits.have c.args.x c.requires.linked) c.requires.new refl)

pub returns-clause-fits : goal.returns-clause-fits
returns-clause-fits g c = subst (λ t. HostFits g.B.Bodies.fits g.B.Bodies.linked g.B.Bodies.knows (record c.args.self.now { nodes = t })) (sym c.set_phase.ensures) (steps.fits_plain g.B.Bodies.targets g.B.Bodies.awaits g.B.Bodies.begun g.B.Bodies.linked g.B.Bodies.knows g.B.Bodies.fits c.args.self.now c.args.x _ c.requires.fits c.requires.linked refl refl refl refl)

pub returns-clause-size : goal.returns-clause-size
returns-clause-size g c = ap (λ t. size t) c.set_phase.ensures ∙ steps.size_put c.args.self.now.nodes c.args.x _ (c.requires.fits.have c.args.x c.requires.linked)
