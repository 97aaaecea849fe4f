-- What a sink does with the bytes that it is given.
use Rattle.std.specs.Prelude.{◌≡◌, ℕ, ◌<◌, ◌≤◌, List, [], ◌∷◌, ◌++◌, take, drop, length, Option, Some, None, option_map, Result, Ok, Err}
use Rattle.esm_ports.specs.declared.sink.SinkEnd.{SinkEnd}
use Rattle.esm_ports.specs.declared.sink.SinkEnd.TheVariants.{Failed, Memory}

-- these bytes were written behind what was there, where the sink tells
abbrev pub Grew : Option (List ℕ) → Option (List ℕ) → List ℕ → Type 0
Grew old new bytes = new ≡ option_map (λ written. written ++ bytes) old

-- one call of `write`
abbrev pub Wrote : List ℕ → Option (List ℕ) → Option (List ℕ) → ℕ → ℕ → Result ℕ SinkEnd → Type 0
Wrote piece old new before now (Ok count) =
    (0 < count) × (count ≤ length piece) × Grew old new (take count piece) × (now ≡ before)
Wrote piece old new before now (Err Failed) = (before < now) × (new ≡ old)
Wrote piece old new before now (Err Memory) = (now ≡ before) × (new ≡ old)

-- the bytes before this rest were written
pub record WroteBefore (rest bytes : List ℕ) (old new : Option (List ℕ)) : Type 0 where
  pub front : List ℕ
  pub whole : front ++ rest ≡ bytes
  pub grew : Grew old new front

-- some first bytes were written
abbrev pub WrotePrefix : List ℕ → Option (List ℕ) → Option (List ℕ) → Type 0
WrotePrefix bytes old new = (rest : List ℕ) × WroteBefore rest bytes old new

-- Calls of `write` one after another, each with all bytes that aren't written yet: until none are left, where there is
-- no further call, or up to the first call that is refused.
pub data Writes {S : Type 0} (gives : S → List ℕ → Result ℕ SinkEnd → S → Type 0) : List ℕ → S → Option SinkEnd → S → Type 0 where
  Done : {sink : S} → Writes gives [] sink None sink
  Refused : {sink after : S} {byte : ℕ} {bytes : List ℕ} {end : SinkEnd} → gives sink (byte ∷ bytes) (Err end) after
      → Writes gives (byte ∷ bytes) sink (Some end) after
  Took : {sink mid after : S} {byte count : ℕ} {bytes : List ℕ} {end : Option SinkEnd} → gives sink (byte ∷ bytes) (Ok count) mid
      → Writes gives (drop count (byte ∷ bytes)) mid end after → Writes gives (byte ∷ bytes) sink end after

-- why not all was written, if so
abbrev pub refusal_of : {T : Type 0} → Result T SinkEnd → Option SinkEnd
refusal_of (Ok done) = None
refusal_of (Err end) = Some end

-- all bytes were written, or a prefix where the sink failed or memory ran out
abbrev pub PutAll : {T : Type 0} → List ℕ → Option (List ℕ) → Option (List ℕ) → ℕ → ℕ → Result T SinkEnd → Type 0
PutAll bytes old new before now (Ok done) = Grew old new bytes × (now ≡ before)
PutAll bytes old new before now (Err Failed) = WrotePrefix bytes old new × (before < now)
PutAll bytes old new before now (Err Memory) = WrotePrefix bytes old new × (now ≡ before)
