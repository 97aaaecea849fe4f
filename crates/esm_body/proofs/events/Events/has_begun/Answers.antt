use Rattle.std.proofs.Common.{◌∙◌, ap}
use Rattle.esm_body.specs.Noted.{begun_in, is_marked}
use Rattle.esm_body.proofs.events.Events.has_begun.Goals as goal

pub returns : goal.returns
returns c = c.marked.ensures ∙ ap (λ ms. is_marked ms c.args.m.0) c.as_slice.ensures.value ∙ c.self.invariant.each c.args.m.0 ∙ ap (λ es. begun_in es c.args.m.0) c.self.view_is
