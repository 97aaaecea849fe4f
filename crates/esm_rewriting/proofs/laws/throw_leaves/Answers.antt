use Rattle.esm_rewriting.proofs.Examples as lemmas
use Rattle.esm_rewriting.proofs.laws.throw_leaves.Goals as goal

pub returns : goal.returns
returns c = lemmas.throw_leaves
