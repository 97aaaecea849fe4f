-- Writing all bytes.
use Rattle.std.proofs.Common.{◌≡◌, ap, refl, ℕ, ◌<◌, List, [], ◌∷◌, ◌++◌, take, drop, length, append_assoc, arith}
use Rattle.std.proofs.lemmas.List.{take-append-drop}
use Rattle.std.specs.Prelude.{Option, Some, None, Result, Ok, Err}
use Rattle.esm_ports.specs.declared.sink.SinkEnd.{SinkEnd}
use Rattle.esm_ports.specs.Sink.{WroteBefore, Grew, Writes}

-- two pieces one after the other
grew_twice : (old mid new : Option (List ℕ)) (a b : List ℕ) → Grew old mid a → Grew mid new b → Grew old new (a ++ b)
grew_twice None mid new a b one two = rw (two, one) refl
grew_twice (Some w) mid new a b one two = rw (two, one) (ap Some (append_assoc w a b))

pub wrote_more : (count : ℕ) (rest bytes : List ℕ) (old mid new : Option (List ℕ))
    → WroteBefore rest bytes old mid → Grew mid new (take count rest)
    → WroteBefore (drop count rest) bytes old new
wrote_more count rest bytes old mid new before grew = record {
  front = before.front ++ take count rest;
  whole = rw (append_assoc, take-append-drop) before.whole;
  grew = grew_twice old mid new before.front (take count rest) before.grew grew;
}

-- calls that write the rest from now on are, with the calls before, calls that write the bytes
abbrev pub LeadsOn : {S : Type 0} → (S → List ℕ → Result ℕ SinkEnd → S → Type 0) → List ℕ → S → List ℕ → S → Type 0
LeadsOn {S} gives rest now bytes begun = (end : Option SinkEnd) (after : S) → Writes gives rest now end after → Writes gives bytes begun end after

pub took_piece : {S : Type 0} (gives : S → List ℕ → Result ℕ SinkEnd → S → Type 0) (rest : List ℕ) (sink mid : S) (count : ℕ)
    → 0 < length rest → gives sink rest (Ok count) mid → LeadsOn gives (drop count rest) mid rest sink
took_piece gives [] sink mid count some gave end after later = absurd (omega arith)
took_piece gives (byte ∷ rest) sink mid count some gave end after later = Writes.Took gave later

pub refused_piece : {S : Type 0} (gives : S → List ℕ → Result ℕ SinkEnd → S → Type 0) (rest : List ℕ) (sink after : S) (end : SinkEnd)
    → 0 < length rest → gives sink rest (Err end) after → Writes gives rest sink (Some end) after
refused_piece gives [] sink after end some gave = absurd (omega arith)
refused_piece gives (byte ∷ rest) sink after end some gave = Writes.Refused gave

pub nothing_left : {S : Type 0} (gives : S → List ℕ → Result ℕ SinkEnd → S → Type 0) (rest : List ℕ) (sink : S)
    → length rest ≡ 0 → Writes gives rest sink None sink
nothing_left gives [] sink none = Writes.Done
nothing_left gives (byte ∷ rest) sink none = absurd (omega arith)
