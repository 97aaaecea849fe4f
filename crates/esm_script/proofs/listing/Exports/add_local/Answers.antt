use Rattle.std.proofs.Common.{refl}
use Rattle.esm_script.proofs.Exported.{adds_local}
use Rattle.esm_script.proofs.listing.Exports.add_local.Goals as goal

pub returns : goal.returns
returns c = adds_local _ _ _ c.in_ok-push.ensures.items refl
