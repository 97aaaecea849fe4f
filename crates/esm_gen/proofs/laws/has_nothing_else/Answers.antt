use Rattle.std.proofs.Common.{arith}
use Rattle.esm_gen.proofs.FileLemmas.{not_found}
use Rattle.esm_gen.proofs.laws.has_nothing_else.Goals as goal

pub returns : goal.returns
returns c start count url other = not_found start count 0 count url (λ i below. other i (omega arith))
