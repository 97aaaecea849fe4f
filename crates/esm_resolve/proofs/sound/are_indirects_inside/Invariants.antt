use Rattle.std.proofs.Common.{◌≡◌, true, take}
use Rattle.std.specs.List.{list_all}
use Rattle.esm_resolve.specs.Inner.Inside.{is_inside}
use Rattle.esm_resolve.proofs.sound.are_indirects_inside.Given as goal

abbrev pub invariant-loop-entry : goal.invariant-loop-entry
invariant-loop-entry g l = list_all (λ e. is_inside (g.G.ExportGraph.graph l.graph) l.m.0 e.request) (take l.entry-index l.indirects) ≡ true
