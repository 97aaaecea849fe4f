use Rattle.esm_link.proofs.SameRecords as lemmas
use Rattle.esm_link.proofs.laws.records_agree.Goals as goal

pub returns : goal.returns
returns c = lemmas.records_agree
