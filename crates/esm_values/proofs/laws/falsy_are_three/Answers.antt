use Rattle.esm_values.proofs.Texts as lemmas
use Rattle.esm_values.proofs.laws.falsy_are_three.Goals as goal

pub returns : goal.returns
returns c = lemmas.falsy_are_three
