use Rattle.std.proofs.Common.{◌≡◌, Some, ap, sym, subst, ◌∙◌}
use Rattle.esm_eval.specs.Host.{evaluation}
use Rattle.esm_eval.specs.Evaluation as parts
use Rattle.esm_eval.proofs.Inner.DeskSteps as desk
use Rattle.esm_eval.proofs.host.EvalHost.wait_on.Goals as goal

pub returns-then-is_stamped-clause-wait : goal.returns-then-is_stamped-clause-wait
returns-then-is_stamped-clause-wait g c = desk.own_wait g.B.Bodies.targets g.B.Bodies.awaits g.B.Bodies.begun g.B.Bodies.linked g.B.Bodies.knows c.args.self.now c.args.t (desk.says c.is_evaluating.result c.is_evaluating.ensures c.if-is_evaluating.true) (sym c.is_stamped.ensures.stamped ∙ c.if-is_stamped.true)

pub returns-then-is_stamped-clause-linked : goal.returns-then-is_stamped-clause-linked
returns-then-is_stamped-clause-linked g c = desk.stamped_linked g.B.Bodies.targets g.B.Bodies.awaits g.B.Bodies.begun g.B.Bodies.linked g.B.Bodies.knows g.B.Bodies.fits c.args.self.now c.args.t c.requires (sym c.is_stamped.ensures.stamped ∙ c.if-is_stamped.true)

pub returns-else-is_stamped-clause-wait : goal.returns-else-is_stamped-clause-wait
returns-else-is_stamped-clause-wait g c = desk.own_free g.B.Bodies.targets g.B.Bodies.awaits g.B.Bodies.begun g.B.Bodies.linked g.B.Bodies.knows c.args.self.now c.args.t (desk.says c.is_evaluating.result c.is_evaluating.ensures c.if-is_evaluating.true) (sym c.is_stamped.ensures.stamped ∙ c.if-is_stamped.false)

pub returns-then-is_done-clause-wait : goal.returns-then-is_done-clause-wait
returns-then-is_done-clause-wait g c = desk.root_done g.B.Bodies.targets g.B.Bodies.awaits g.B.Bodies.begun g.B.Bodies.linked g.B.Bodies.knows c.args.self.now c.args.t (desk.denies c.is_evaluating.result c.is_evaluating.ensures c.if-is_evaluating.false) (subst (λ r. parts.is_done (evaluation g.B.Bodies.targets g.B.Bodies.awaits g.B.Bodies.begun) c.args.self.now r ≡ _) c.root_of-root.ensures (sym c.is_done.ensures ∙ c.if-is_done.true))

pub returns-then-is_stamped-2-clause-wait : goal.returns-then-is_stamped-2-clause-wait
returns-then-is_stamped-2-clause-wait g c = ap Some c.root_of-root.ensures ∙ desk.root_wait g.B.Bodies.targets g.B.Bodies.awaits g.B.Bodies.begun g.B.Bodies.linked g.B.Bodies.knows c.args.self.now c.args.t (desk.denies c.is_evaluating.result c.is_evaluating.ensures c.if-is_evaluating.false) (subst (λ r. parts.is_stamped (evaluation g.B.Bodies.targets g.B.Bodies.awaits g.B.Bodies.begun) c.args.self.now r ≡ _) c.root_of-root.ensures (sym c.is_stamped-2.ensures.stamped ∙ c.if-is_stamped-2.true)) (subst (λ r. parts.is_done (evaluation g.B.Bodies.targets g.B.Bodies.awaits g.B.Bodies.begun) c.args.self.now r ≡ _) c.root_of-root.ensures (sym c.is_done.ensures ∙ c.if-is_done.false))

pub returns-then-is_stamped-2-clause-linked : goal.returns-then-is_stamped-2-clause-linked
returns-then-is_stamped-2-clause-linked g c = desk.stamped_linked g.B.Bodies.targets g.B.Bodies.awaits g.B.Bodies.begun g.B.Bodies.linked g.B.Bodies.knows g.B.Bodies.fits c.args.self.now c.root_of-root.result c.requires (sym c.is_stamped-2.ensures.stamped ∙ c.if-is_stamped-2.true)

pub returns-else-is_stamped-2-clause-wait : goal.returns-else-is_stamped-2-clause-wait
returns-else-is_stamped-2-clause-wait g c = desk.root_free g.B.Bodies.targets g.B.Bodies.awaits g.B.Bodies.begun g.B.Bodies.linked g.B.Bodies.knows c.args.self.now c.args.t (desk.denies c.is_evaluating.result c.is_evaluating.ensures c.if-is_evaluating.false) (subst (λ r. parts.is_stamped (evaluation g.B.Bodies.targets g.B.Bodies.awaits g.B.Bodies.begun) c.args.self.now r ≡ _) c.root_of-root.ensures (sym c.is_stamped-2.ensures.stamped ∙ c.if-is_stamped-2.false))
