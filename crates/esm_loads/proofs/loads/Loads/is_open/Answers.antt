use Rattle.std.proofs.Common.{◌∙◌, ap}
use Rattle.esm_base.specs.Urls.{has}
use Rattle.esm_loads.proofs.PublicFacts.{asks_are}
use Rattle.esm_loads.proofs.loads.Loads.is_open.Goals as goal

pub returns : goal.returns
returns c maps records fits = c.is_open.ensures ∙ ap (λ us. has us c.args.url.now) (asks_are maps records c.args.self.now fits)
