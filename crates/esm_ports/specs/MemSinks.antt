-- What one call of `write` does to a sink in memory.
use Rattle.std.specs.Prelude.{◌≡◌, ◌+◌, ◌-◌, ◌^◌, ℕ, List, ◌++◌, take, length, min, Result, Ok, Err, Contains}
use Rattle.esm_ports.specs.declared.sink.SinkEnd.{SinkEnd}
use Rattle.esm_ports.specs.declared.sink.SinkEnd.TheVariants.{Failed, Memory}

-- the whole piece is taken
abbrev pub TakesWhole : List ℕ → List ℕ → Result ℕ SinkEnd → List ℕ → Type 0
TakesWhole old piece (Ok count) new = (count ≡ length piece) × (new ≡ old ++ piece)
TakesWhole old piece (Err Failed) new = ⊥
TakesWhole old piece (Err Memory) new = new ≡ old

-- what was written, how much one call takes, at which calls it fails, and how many calls were made and failed
pub record SinkPlan : Type 0 where
  pub written : List ℕ
  pub most : ℕ
  pub fail_at : List ℕ
  pub calls : ℕ
  pub faults : ℕ

-- the number of the next call; the count stands still at its type's end
abbrev pub next_call : SinkPlan → ℕ
next_call sink = min (sink.calls + 1) (2 ^ 64 - 1)

-- the call fails where its number is in the plan, and else takes the first bytes, as many as one call takes
abbrev pub WritesByPlan : SinkPlan → List ℕ → Result ℕ SinkEnd → SinkPlan → Type 0
WritesByPlan old piece (Ok count) new =
    (Contains old.fail_at (next_call old) → ⊥) × (count ≡ min old.most (length piece))
    × (new ≡ record old { written = old.written ++ take count piece; calls = next_call old })
WritesByPlan old piece (Err Failed) new =
    Contains old.fail_at (next_call old) × (new ≡ record old { calls = next_call old; faults = old.faults + 1 })
WritesByPlan old piece (Err Memory) new = new ≡ old
