use Rattle.std.proofs.Common.{ap, sym, subst, ◌∙◌}
use Rattle.esm_eval.specs.Host.{HostFits}
use Rattle.esm_eval.proofs.Inner.BodySteps as body
use Rattle.esm_eval.proofs.Inner.DeskSteps as desk
use Rattle.esm_eval.proofs.desk.EvalHostDesk.fulfill_by.Goals as goal

pub returns-then-is_evaluated-clause-world : goal.returns-then-is_evaluated-clause-world
returns-then-is_evaluated-clause-world g c = ap (λ ps. record c.args.self.now { promises = ps }) c.settle.ensures ∙ desk.fulfilled_by g.B.Bodies.targets g.B.Bodies.awaits g.B.Bodies.begun g.B.Bodies.linked g.B.Bodies.knows c.args.self.now c.args.p.0 _ (desk.says c.is_evaluated.result c.is_evaluated.ensures c.if-is_evaluated.true)

pub returns-then-is_evaluated-clause-fits : goal.returns-then-is_evaluated-clause-fits
returns-then-is_evaluated-clause-fits g c = subst (λ ps. HostFits g.B.Bodies.fits g.B.Bodies.linked g.B.Bodies.knows (record c.args.self.now { promises = ps })) (sym c.settle.ensures) (body.fits_fulfill g.B.Bodies.targets g.B.Bodies.awaits g.B.Bodies.begun g.B.Bodies.linked g.B.Bodies.knows g.B.Bodies.acts g.B.Bodies.fits g.B.Bodies.stays_fit c.args.self.now c.args.p.0 c.requires)

pub returns-else-is_evaluated-clause-world : goal.returns-else-is_evaluated-clause-world
returns-else-is_evaluated-clause-world g c = desk.unfulfilled_by g.B.Bodies.targets g.B.Bodies.awaits g.B.Bodies.begun g.B.Bodies.linked g.B.Bodies.knows c.args.self.now c.args.p.0 _ (desk.denies c.is_evaluated.result c.is_evaluated.ensures c.if-is_evaluated.false)
