use Rattle.std.proofs.Common.{◌∙◌}
use Rattle.std.proofs.lemmas.List.{take_all}
use Rattle.esm_loads.proofs.arriving.copies_of.Goals as goal

pub returns : goal.returns
returns c = c.loop-text.invariant ∙ take_all c.loop-text.text-index c.args.texts.now c.loop-text-test.false
