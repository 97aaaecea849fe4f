use Rattle.esm_values.proofs.Numbered as lemmas
use Rattle.esm_values.proofs.laws.numbers_urls.Goals as goal

pub returns : goal.returns
returns c = lemmas.numbers_urls
