use Rattle.std.proofs.Common.{◌≡◌, [], vec_len}
use Rattle.std.specs.Prelude.{All}
use Rattle.esm_order_tests.proofs.sleepy.all_sleepy.Given as goal

abbrev pub invariant-loop : goal.invariant-loop
invariant-loop g l = record {
  count : vec_len l.sources ≡ l.counter;
  fresh : All (λ s. s.files.asked ≡ []) l.sources.items;
}
