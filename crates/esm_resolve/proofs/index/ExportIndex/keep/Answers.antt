use Rattle.std.proofs.Common.{subst}
use Rattle.esm_resolve.specs.Resolution.{IsResolutionOf}
use Rattle.esm_resolve.proofs.index.ExportIndex.keep.Goals as goal

pub keep_along-requires-clause-resolution : goal.keep_along-requires-clause-resolution
keep_along-requires-clause-resolution g c = subst (IsResolutionOf (g.G.ExportGraph.graph c.args.graph.now) c.args.start.now) c.in-One.is c.requires.resolution
