use Rattle.std.proofs.Common.{ap, ◌∙◌}
use Rattle.esm_body.specs.Inner.Written.{slot_wrote}
use Rattle.esm_body.proofs.writes.level_wrote.Goals as goal

pub returns : goal.returns
returns c = (c.get.result.now, c.slot_wrote.ensures ∙ ap slot_wrote (c.get.ensures c.get.result.now))
