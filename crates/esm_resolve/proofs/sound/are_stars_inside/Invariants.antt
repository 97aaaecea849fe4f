use Rattle.std.proofs.Common.{◌≡◌, true, take}
use Rattle.std.specs.List.{list_all}
use Rattle.esm_resolve.specs.Inner.Inside.{is_inside}
use Rattle.esm_resolve.proofs.sound.are_stars_inside.Given as goal

abbrev pub invariant-loop-request : goal.invariant-loop-request
invariant-loop-request g l = list_all (is_inside (g.G.ExportGraph.graph l.graph) l.m.0) (take l.request-index l.stars) ≡ true
