use Rattle.esm_script.proofs.listing.Exports.add_own.Goals as goal

pub returns : goal.returns
returns c = rw (c.in_ok-exported.ensures, c.in_ok-local.ensures) at c.add_local.ensures
