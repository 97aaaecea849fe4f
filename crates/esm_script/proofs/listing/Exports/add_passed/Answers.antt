use Rattle.esm_script.proofs.listing.Exports.add_passed.Goals as goal

pub returns : goal.returns
returns c = rw (c.in_ok-exported.ensures, c.in_ok-wanted.ensures) at c.add_indirect.ensures
