use Rattle.std.proofs.Common.{refl}
use Rattle.esm_loads.proofs.laws.opens_with_entry.Goals as goal

pub returns : goal.returns
returns c maps u promise = refl
