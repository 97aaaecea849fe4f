use Rattle.std.proofs.Common.{◌≡◌, ◌<◌, ℕ, true}
use Rattle.esm_resolve.specs.Inner.Inside.{is_sound_at}
use Rattle.esm_resolve.proofs.sound.is_sound.Given as goal

abbrev pub invariant-loop-x : goal.invariant-loop-x
invariant-loop-x g l = (m : ℕ) → m < l.x → is_sound_at (g.G.ExportGraph.graph l.graph) m ≡ true
