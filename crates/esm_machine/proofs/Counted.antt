-- Counting the starts of bodies.
use Rattle.std.proofs.Common.{ℕ, List, map, length}
use Rattle.esm_rewriting.specs.Keeps.{started}
use Rattle.esm_body.specs.Noted.{event_of}
use Rattle.esm_body.specs.declared.engine.Event.{Event}

abbrev pub starts : List Event → ℕ
starts es = length (started (map event_of es))
