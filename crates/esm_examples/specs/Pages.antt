-- What one call of `write` does to a page.
use Rattle.std.specs.Prelude.{◌≡◌, ◌+◌, ◌-◌, ◌<◌, ◌≤◌, ℕ, List, ◌++◌, take, length, min, Result, Ok, Err}
use Rattle.esm_ports.specs.declared.sink.SinkEnd.{SinkEnd}
use Rattle.esm_ports.specs.declared.sink.SinkEnd.TheVariants.{Failed, Memory}

-- what was written, how many bytes there is room for, and how often a write has failed
pub record PageParts : Type 0 where
  pub text : List ℕ
  pub room : ℕ
  pub faults : ℕ

-- as many first bytes of the piece as there is room for are written; where there is room for none, the write fails
abbrev pub WritesOnPage : PageParts → List ℕ → Result ℕ SinkEnd → PageParts → Type 0
WritesOnPage old piece (Ok count) new =
    (length old.text < old.room) × (count ≡ min (length piece) (old.room - length old.text)) × (new ≡ record old { text = old.text ++ take count piece })
WritesOnPage old piece (Err Failed) new = (old.room ≤ length old.text) × (new ≡ record old { faults = old.faults + 1 })
WritesOnPage old piece (Err Memory) new = new ≡ old
