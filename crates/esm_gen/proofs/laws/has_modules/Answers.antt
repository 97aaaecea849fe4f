use Rattle.std.proofs.Common.{arith}
use Rattle.esm_gen.proofs.FileLemmas.{found}
use Rattle.esm_gen.proofs.laws.has_modules.Goals as goal

pub returns : goal.returns
returns c start count i small below = found start count 0 count i (omega arith) (omega arith) (omega arith)
