use Rattle.std.proofs.Common.{◌≡◌, [], vec_len}
use Rattle.std.specs.Prelude.{All}
use Rattle.esm_sites.proofs.setup.sources_of.Given as goal

abbrev pub invariant-loop : goal.invariant-loop
invariant-loop l = record {
  count : vec_len l.sources ≡ l.counter;
  fresh : All (λ s. s.asked ≡ []) l.sources.items;
}
