use Rattle.std.proofs.Common.{ap, sym, subst, ◌∙◌}
use Rattle.std.specs.Option.{option_map}
use Rattle.esm_values.specs.Code.{value_of}
use Rattle.esm_eval.specs.Host.{HostFits}
use Rattle.esm_eval.specs.Table.{size}
use Rattle.esm_eval.proofs.Inner.HostSteps as steps
use Rattle.esm_eval.proofs.Inner.BodySteps as body
use Rattle.esm_eval.proofs.Inner.DeskSteps.{on_ok_map}
use Rattle.esm_eval.proofs.Inner.LateHost as late
use Rattle.esm_eval.proofs.late.EvalHostLate.refuse.Goals as goal

pub refuse-requires : goal.refuse-requires
refuse-requires g c = c.requires.fits.have c.args.x c.requires.linked

pub returns-clause-world : goal.returns-clause-world
returns-clause-world g c = (late.refuse_world g.B.Bodies.targets g.B.Bodies.awaits g.B.Bodies.begun g.B.Bodies.linked g.B.Bodies.knows c.args.self.now c.args.x _ (value_of c.args.v.now) c.refuse.new.self (option_map (λ p. p.0) c.promise-kept.result) c.reject_kept.result c.reject_kept.new.self (ap value_of c.in_ok-error.ensures) c.promise-kept.ensures c.refuse.ensures c.reject_kept.ensures.world)

pub returns-clause-fewer : goal.returns-clause-fewer
returns-clause-fewer g c = on_ok_map c.reject_kept.result (late.refuse_world g.B.Bodies.targets g.B.Bodies.awaits g.B.Bodies.begun g.B.Bodies.linked g.B.Bodies.knows c.args.self.now c.args.x _ (value_of c.args.v.now) c.refuse.new.self (option_map (λ p. p.0) c.promise-kept.result) c.reject_kept.result c.reject_kept.new.self (ap value_of c.in_ok-error.ensures) c.promise-kept.ensures c.refuse.ensures c.reject_kept.ensures.world) (λ e. late.refuse_fewer g.B.Bodies.targets g.B.Bodies.awaits g.B.Bodies.begun g.B.Bodies.linked g.B.Bodies.knows c.args.self.now c.args.x (value_of c.args.v.now) c.reject_kept.new.self (c.requires.fits.have c.args.x c.requires.linked) c.requires.unfinished e)

pub returns-clause-waiters : goal.returns-clause-waiters
returns-clause-waiters g c = on_ok_map c.reject_kept.result (late.refuse_world g.B.Bodies.targets g.B.Bodies.awaits g.B.Bodies.begun g.B.Bodies.linked g.B.Bodies.knows c.args.self.now c.args.x _ (value_of c.args.v.now) c.refuse.new.self (option_map (λ p. p.0) c.promise-kept.result) c.reject_kept.result c.reject_kept.new.self (ap value_of c.in_ok-error.ensures) c.promise-kept.ensures c.refuse.ensures c.reject_kept.ensures.world) (λ e. late.refuse_waiters g.B.Bodies.targets g.B.Bodies.awaits g.B.Bodies.begun g.B.Bodies.linked g.B.Bodies.knows c.args.self.now c.args.x (value_of c.args.v.now) c.reject_kept.new.self e)

pub returns-clause-stays : goal.returns-clause-stays
returns-clause-stays g c = on_ok_map c.reject_kept.result (late.refuse_world g.B.Bodies.targets g.B.Bodies.awaits g.B.Bodies.begun g.B.Bodies.linked g.B.Bodies.knows c.args.self.now c.args.x _ (value_of c.args.v.now) c.refuse.new.self (option_map (λ p. p.0) c.promise-kept.result) c.reject_kept.result c.reject_kept.new.self (ap value_of c.in_ok-error.ensures) c.promise-kept.ensures c.refuse.ensures c.reject_kept.ensures.world) (λ e. late.refuse_stays g.B.Bodies.targets g.B.Bodies.awaits g.B.Bodies.begun g.B.Bodies.linked g.B.Bodies.knows c.args.self.now c.args.x (value_of c.args.v.now) c.reject_kept.new.self e)

pub returns-clause-fits : goal.returns-clause-fits
returns-clause-fits g c = on_ok_map c.reject_kept.result (late.refuse_world g.B.Bodies.targets g.B.Bodies.awaits g.B.Bodies.begun g.B.Bodies.linked g.B.Bodies.knows c.args.self.now c.args.x _ (value_of c.args.v.now) c.refuse.new.self (option_map (λ p. p.0) c.promise-kept.result) c.reject_kept.result c.reject_kept.new.self (ap value_of c.in_ok-error.ensures) c.promise-kept.ensures c.refuse.ensures c.reject_kept.ensures.world) (λ e. subst (λ s. HostFits g.B.Bodies.fits g.B.Bodies.linked g.B.Bodies.knows s) (sym e) (body.fits_refuse g.B.Bodies.targets g.B.Bodies.awaits g.B.Bodies.begun g.B.Bodies.linked g.B.Bodies.knows g.B.Bodies.acts g.B.Bodies.fits g.B.Bodies.stays_fit c.args.self.now c.args.x (value_of c.args.v.now) c.requires.fits c.requires.linked c.requires.known))

pub returns-clause-size : goal.returns-clause-size
returns-clause-size g c = ap (λ t. size t) (c.reject_kept.ensures.nodes ∙ c.refuse.ensures) ∙ steps.size_put c.args.self.now.nodes c.args.x _ (c.requires.fits.have c.args.x c.requires.linked)
