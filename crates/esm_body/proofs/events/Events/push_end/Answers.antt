-- No module is marked.
use Rattle.esm_body.proofs.Marks.{marks_pushed}
use Rattle.esm_body.proofs.events.Events.push_end.Goals as goal

pub invariant_of-self : goal.invariant_of-self
invariant_of-self c = marks_pushed c.self.inside.marks.items c.self.inside.list.items c.push.new.self.items c.args.event c.push.result c.push.ensures.items c.requires c.self.invariant
