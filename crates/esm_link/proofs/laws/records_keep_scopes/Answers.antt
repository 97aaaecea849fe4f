use Rattle.esm_link.proofs.KeptRecords as lemmas
use Rattle.esm_link.proofs.laws.records_keep_scopes.Goals as goal

pub returns : goal.returns
returns c = lemmas.records_keep_scopes
