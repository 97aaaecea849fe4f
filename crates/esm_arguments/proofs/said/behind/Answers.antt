use Rattle.esm_arguments.proofs.Words.{behind_is}
use Rattle.esm_arguments.proofs.said.behind.Goals as goal

pub returns : goal.returns
returns c = behind_is c.args.front.now c.args.word.now c.strip_prefix.result c.strip_prefix.ensures.cases
