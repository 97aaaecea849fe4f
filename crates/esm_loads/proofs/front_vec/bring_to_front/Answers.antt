-- The element at the place comes first.
use Rattle.esm_loads.proofs.Removals.{brought}
use Rattle.esm_loads.proofs.front_vec.bring_to_front.Goals as goal

pub returns-clause-kept : goal.returns-clause-kept
returns-clause-kept g c = brought c.args.row.now c.rotate_right.new.self c.args.at c.requires c.rotate_right.ensures.after
