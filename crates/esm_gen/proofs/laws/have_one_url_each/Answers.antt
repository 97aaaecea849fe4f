use Rattle.std.proofs.Common.{arith}
use Rattle.esm_gen.proofs.FileLemmas.{each_once}
use Rattle.esm_gen.proofs.laws.have_one_url_each.Goals as goal

pub returns : goal.returns
returns c start count small = each_once start count 0 count (omega arith)
