use Rattle.std.proofs.Common.{◌≡◌, [], vec_len}
use Rattle.std.specs.Prelude.{All}
use Rattle.esm_ports.proofs.file_source.FileSource.all_here.Given as goal

abbrev pub invariant-loop : goal.invariant-loop
invariant-loop g l = record {
  count : vec_len l.sources ≡ l.counter;
  fresh : All (λ s. s ≡ []) l.sources.items;
}
