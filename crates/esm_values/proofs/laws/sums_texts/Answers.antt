use Rattle.esm_values.proofs.Texts as lemmas
use Rattle.esm_values.proofs.laws.sums_texts.Goals as goal

pub returns : goal.returns
returns c = lemmas.sums_texts
