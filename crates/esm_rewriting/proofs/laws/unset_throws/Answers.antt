use Rattle.esm_rewriting.proofs.Limits as lemmas
use Rattle.esm_rewriting.proofs.laws.unset_throws.Goals as goal

pub returns : goal.returns
returns c = lemmas.unset_throws
