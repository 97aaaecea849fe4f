use Rattle.std.proofs.Common.{◌≡◌, [], vec_len}
use Rattle.std.specs.Prelude.{All}
use Rattle.esm_run.specs.Inner.Generating.{HoldsGenerated}
use Rattle.esm_run.proofs.generated.generated_sources.Given as goal

-- so many sources so far
abbrev pub invariant-loop : goal.invariant-loop
invariant-loop l = record {
  many : vec_len l.sources ≡ l.counter;
  fresh : All (λ s. s.asked ≡ []) l.sources.items;
  holds : All (HoldsGenerated l.generation) l.sources.items;
}
