use Rattle.esm_parse_mod.proofs.errors.holds.Goals as goal

pub returns : goal.returns
returns c = c.contains.ensures
