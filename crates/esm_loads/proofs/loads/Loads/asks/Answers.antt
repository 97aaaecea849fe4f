use Rattle.std.proofs.Common.{◌∙◌}
use Rattle.esm_loads.proofs.PublicFacts.{asks_are}
use Rattle.esm_loads.proofs.loads.Loads.asks.Goals as goal

pub returns : goal.returns
returns c maps records fits = c.asks.ensures ∙ asks_are maps records c.args.self.now fits
