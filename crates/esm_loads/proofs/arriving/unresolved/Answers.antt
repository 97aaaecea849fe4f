use Rattle.std.proofs.Common.{◌∙◌}
use Rattle.esm_loads.proofs.ArrivedEntry.{printed}
use Rattle.esm_loads.proofs.arriving.unresolved.Goals as goal

pub returns : goal.returns
returns c = c.from_string.ensures ∙ c.in_ok-text.ensures.ok ∙ printed c.args.url.now c.args.specifier.now _ _ c.description-description.ensures
