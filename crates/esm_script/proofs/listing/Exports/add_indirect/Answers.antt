use Rattle.std.proofs.Common.{refl}
use Rattle.esm_script.proofs.Exported.{adds_indirect}
use Rattle.esm_script.proofs.listing.Exports.add_indirect.Goals as goal

pub returns : goal.returns
returns c = adds_indirect _ _ _ refl c.in_ok-push.ensures.items
