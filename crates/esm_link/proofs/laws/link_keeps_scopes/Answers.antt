use Rattle.esm_link.proofs.KeptScopes as lemmas
use Rattle.esm_link.proofs.laws.link_keeps_scopes.Goals as goal

pub returns : goal.returns
returns c = lemmas.link_keeps_scopes
