use Rattle.esm_link.proofs.FaithfulScopes as faithful
use Rattle.esm_link.proofs.laws.linked_scopes_are_faithful.Goals as goal

pub returns : goal.returns
returns c = faithful.linked_scopes_are_faithful
