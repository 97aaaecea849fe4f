-- What a summary says of a run over generated input. own
use Rattle.std.specs.Prelude.{ℕ, ◌+◌, nat_eq, List, [], ◌∷◌, length, if◌then◌else◌}
use Rattle.esm_base.specs.declared.status.Status.{Status}
use Rattle.esm_rewriting.specs.Keeps.{started}
use Rattle.esm_world.specs.Run.{Shown}
use Rattle.esm_gen.specs.declared.summary.Summary.{Summary}

-- one where the byte is a line feed
abbrev pub line_feeds : ℕ → ℕ
line_feeds byte = if nat_eq byte 10 then 1 else 0

-- how many lines there are, by their line feeds: no generated module prints one inside a line
abbrev pub line_count : List ℕ → ℕ
line_count [] = 0
line_count (byte ∷ bytes) = line_feeds byte + line_count bytes

-- how many modules there are, how many bodies have begun, how many lines were printed, and how the run has ended
abbrev pub summary_of : ℕ → Shown → Status → Summary
summary_of count what end = record {
  modules = count;
  started = length (started what.events);
  lines = line_count what.log;
  status = end;
}
