use Rattle.std.proofs.Common.{ap, sym, ◌∙◌}
use Rattle.std.specs.Option.{option_map, option_copied}
use Rattle.esm_values.specs.Code.{value_of}
use Rattle.esm_eval.proofs.Inner.DeskSteps as desk
use Rattle.esm_eval.proofs.host.EvalHost.error_of.Goals as goal

pub returns-in-Some-clause-error : goal.returns-in-Some-clause-error
returns-in-Some-clause-error g c = desk.copied_error (value_of c.in-Some.error.now) c.copied.result c.copied.ensures (sym c.error_of.ensures ∙ ap (λ o. option_map value_of (option_copied o)) c.in-Some.is)

pub returns-in-Some-clause-known : goal.returns-in-Some-clause-known
returns-in-Some-clause-known g c = desk.copied_known g.B.Bodies.targets g.B.Bodies.awaits g.B.Bodies.begun g.B.Bodies.linked g.B.Bodies.knows c.args.self.now (value_of c.in-Some.error.now) c.copied.result c.copied.ensures (desk.error_known g.B.Bodies.targets g.B.Bodies.awaits g.B.Bodies.begun g.B.Bodies.linked g.B.Bodies.knows g.B.Bodies.fits c.args.self.now c.args.t (value_of c.in-Some.error.now) c.requires (sym c.error_of.ensures ∙ ap (λ o. option_map value_of (option_copied o)) c.in-Some.is))

pub returns-in-None-clause-error : goal.returns-in-None-clause-error
returns-in-None-clause-error g c = sym (ap (λ o. option_map value_of (option_copied o)) c.in-None.is) ∙ c.error_of.ensures
