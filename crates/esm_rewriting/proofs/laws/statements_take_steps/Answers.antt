use Rattle.esm_rewriting.proofs.Limits as lemmas
use Rattle.esm_rewriting.proofs.laws.statements_take_steps.Goals as goal

pub returns : goal.returns
returns c = lemmas.statements_take_steps
