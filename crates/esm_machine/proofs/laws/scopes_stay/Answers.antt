use Rattle.esm_machine.proofs.SeenScopes as lemmas
use Rattle.esm_machine.proofs.laws.scopes_stay.Goals as goal

pub returns : goal.returns
returns c = lemmas.scopes_stay c.scopes_are_local.ensures
