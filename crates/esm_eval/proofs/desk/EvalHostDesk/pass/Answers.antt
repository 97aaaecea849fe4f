use Rattle.std.proofs.Common.{◌≡◌, refl, ap, sym, subst, ◌∙◌}
use Rattle.std.specs.Prelude.{IfSome}
use Rattle.std.specs.Option.{option_map}
use Rattle.esm_values.specs.Code.{value_of}
use Rattle.esm_eval.specs.Host.{HostFits, calls, evaluation, outside_with}
use Rattle.esm_eval.specs.Evaluation as parts
use Rattle.esm_eval.specs.WalkSteps.{KnowsError}
use Rattle.esm_eval.proofs.Inner.HostSteps as steps
use Rattle.esm_eval.proofs.Inner.DeskSteps as desk
use Rattle.esm_eval.proofs.desk.EvalHostDesk.pass.Goals as goal

pub throw-requires-clause-known : goal.throw-requires-clause-known
throw-requires-clause-known g c = subst (λ o. KnowsError (Rattle.esm_eval.specs.Host.knows_in g.B.Bodies.knows) c.args.self.now o) c.in-Some.is c.in-Ok.ensures.known

pub returns-in-Some-clause-passes : goal.returns-in-Some-clause-passes
returns-in-Some-clause-passes g c = desk.passes_throw g.B.Bodies.targets g.B.Bodies.awaits g.B.Bodies.begun g.B.Bodies.linked g.B.Bodies.knows (calls g.B.Bodies.acts) c.args.self.now c.throw.new.self c.args.opened.now c.args.x c.args.t (value_of c.in-Some.v) c.throw.result (sym c.in-Ok.ensures.error ∙ ap (option_map value_of) c.in-Some.is) c.throw.ensures.throws

pub add_wait-requires-clause-linked : goal.add_wait-requires-clause-linked
add_wait-requires-clause-linked g c = c.requires.fits.entered c.args.x c.requires.entered

pub add_wait-requires-clause-other : goal.add_wait-requires-clause-other
add_wait-requires-clause-other g c = subst (λ o. IfSome o (λ y. g.B.Bodies.linked c.args.self.now.bodies y ≡ _)) c.in-Some-wait_on.is c.wait_on.ensures.linked

pub returns-in-Ok-add_wait-clause-passes : goal.returns-in-Ok-add_wait-clause-passes
returns-in-Ok-add_wait-clause-passes g c = ((sym c.in-Ok.ensures.error ∙ ap (option_map value_of) c.in-None.is), subst (λ o. c.add_wait.new.self ≡ parts.add_wait (evaluation g.B.Bodies.targets g.B.Bodies.awaits g.B.Bodies.begun) c.args.self.now c.args.x o) (sym c.in-Some-wait_on.is ∙ c.wait_on.ensures.wait) c.in-Ok-add_wait.ensures.world, c.in-Ok-add_wait.ensures.keeps)

pub returns-in-None-wait_on-clause-passes : goal.returns-in-None-wait_on-clause-passes
returns-in-None-wait_on-clause-passes g c = ((sym c.in-Ok.ensures.error ∙ ap (option_map value_of) c.in-None.is), ap (λ o. parts.add_wait (evaluation g.B.Bodies.targets g.B.Bodies.awaits g.B.Bodies.begun) c.args.self.now c.args.x o) (sym c.in-None-wait_on.is ∙ c.wait_on.ensures.wait), steps.keeps_like g.B.Bodies.targets g.B.Bodies.awaits g.B.Bodies.begun g.B.Bodies.linked g.B.Bodies.knows c.args.self.now c.args.self.now refl (steps.same_bodies g.B.Bodies.targets g.B.Bodies.awaits g.B.Bodies.begun g.B.Bodies.linked g.B.Bodies.knows c.args.self.now.bodies))
