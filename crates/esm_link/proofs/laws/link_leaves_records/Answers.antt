use Rattle.esm_link.proofs.KeptRecords as lemmas
use Rattle.esm_link.proofs.laws.link_leaves_records.Goals as goal

pub returns : goal.returns
returns c = lemmas.link_leaves_records
