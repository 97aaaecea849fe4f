use Rattle.std.proofs.Common.{sym}
use Rattle.esm_loads.proofs.ArrivedEntry.{specifier_at}
use Rattle.esm_loads.proofs.arriving.specifier_at.Goals as goal

pub returns : goal.returns
returns c = sym (specifier_at c.args.requests.now c.args.place c.index-requests-place.result c.requires c.index-requests-place.is)
