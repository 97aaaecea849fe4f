use Rattle.esm_script.proofs.listing.Exports.add_space.Goals as goal

pub returns : goal.returns
returns c = rw c.in_ok-exported.ensures at c.add_indirect.ensures
