use Rattle.std.specs.Prelude.{map, string_bytes}
use Rattle.std.proofs.lemmas.Result.{IfOk-weaker}
use Rattle.esm_arguments.proofs.Words.{start_in_range, count_in_range, workers_in_range}
use Rattle.esm_arguments.proofs.reading.read_generation.Goals as goal

pub returns-clause-start : goal.returns-clause-start
returns-clause-start c = IfOk-weaker c.generation_in.result _ _ (λ found is. start_in_range (map string_bytes c.args.words.now) found is) c.generation_in.ensures

pub returns-clause-count : goal.returns-clause-count
returns-clause-count c = IfOk-weaker c.generation_in.result _ _ (λ found is. count_in_range (map string_bytes c.args.words.now) found is) c.generation_in.ensures

pub returns-clause-workers : goal.returns-clause-workers
returns-clause-workers c = IfOk-weaker c.generation_in.result _ _ (λ found is. workers_in_range (map string_bytes c.args.words.now) found is) c.generation_in.ensures
