use Rattle.std.proofs.Common.{◌≡◌, Some, rules}
use Rattle.esm_resolve.specs.Graph.{IsReached}
use Rattle.esm_resolve.specs.Resolution.{end_of}
use Rattle.esm_resolve.proofs.Search.Kept.{end_denotes}
use Rattle.esm_resolve.proofs.resolve.resolve_pair.Goals as goal

pub end-requires-clause-sound : goal.end-requires-clause-sound
end-requires-clause-sound g c = c.requires.sound c.args.start.now.home.0 IsReached.itself

pub returns-in-Some-clause-resolution : goal.returns-in-Some-clause-resolution
returns-in-Some-clause-resolution g c =
    let graph = g.G.ExportGraph.graph c.args.graph.now in
    let is : end_of graph c.args.start.now ≡ Some (c.in-Some.home, c.in-Some.binding) = search rules in
    end_denotes graph c.args.start.now c.in-Some.home c.in-Some.binding is
