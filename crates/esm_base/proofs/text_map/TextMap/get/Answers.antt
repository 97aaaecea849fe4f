use Rattle.std.proofs.Common.{ap, ◌∙◌}
use Rattle.esm_base.specs.TextMap.{at}
use Rattle.esm_base.proofs.TextMaps.{at-seen}
use Rattle.esm_base.proofs.text_map.TextMap.get.Goals as goal

pub returns : goal.returns
returns g c = c.get.ensures.value ∙ at-seen c.args.key.now _ ∙ ap (at c.args.key.now) c.self.view_is
