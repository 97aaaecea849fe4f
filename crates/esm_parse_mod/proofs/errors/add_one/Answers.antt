use Rattle.std.proofs.Common.{◌∙◌, ap}
use Rattle.esm_parse_mod.specs.Inner.Names.{texts}
use Rattle.esm_parse_mod.proofs.NamesLemmas.{texts_push}
use Rattle.esm_parse_mod.proofs.errors.add_one.Goals as goal

pub returns : goal.returns
returns c = ap texts c.in_ok-push.ensures.items ∙ texts_push _ _
