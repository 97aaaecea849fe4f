use Rattle.std.proofs.Common.{take, ap, ◌∙◌}
use Rattle.esm_eval.proofs.Inner.Stacks as stacks
use Rattle.esm_eval.proofs.stack.Stack.truncate.Goals as goal

pub invariant_of-self : goal.invariant_of-self
invariant_of-self c = stacks.keeps_front c.self.inside.opened.items c.self.inside.places.items c.self.invariant c.args.place c.truncate.new.self.items c.truncate.ensures.items

pub returns : goal.returns
returns c = c.truncate.ensures.items ∙ ap (take c.args.place) c.self.view_is
