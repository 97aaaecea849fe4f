use Rattle.esm_link.proofs.KeptScopes as lemmas
use Rattle.esm_link.proofs.laws.scopes_are_local.Goals as goal

pub returns : goal.returns
returns c = lemmas.scopes_are_local
