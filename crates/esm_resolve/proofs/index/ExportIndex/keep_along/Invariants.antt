use Rattle.std.proofs.Common.{[]}
use Rattle.esm_resolve.specs.declared.graph.Resolution.TheVariants.{One}
use Rattle.esm_resolve.specs.Index.{IsIndexOf}
use Rattle.esm_resolve.specs.Inner.Index.{has_end}
use Rattle.esm_resolve.specs.Resolution.{IsResolutionOf, Reaches}
use Rattle.esm_resolve.proofs.Search.Candidates.{candidates}
use Rattle.esm_resolve.proofs.Search.Remaining.{left}
use Rattle.esm_resolve.proofs.index.ExportIndex.keep_along.Given as goal

abbrev pub invariant-keeping : goal.invariant-keeping
invariant-keeping g l = record {
  index : IsIndexOf (g.G.ExportGraph.graph l.graph) l.self;
  resolution : IsResolutionOf (g.G.ExportGraph.graph l.graph) l.here (One l.home l.binding);
  reached : Reaches (g.G.ExportGraph.graph l.graph) l.start l.here;
}

abbrev pub decreases-keeping : goal.decreases-keeping
decreases-keeping g l = left (λ _. []) (has_end l.self) (candidates (g.G.ExportGraph.graph l.graph) l.start.name)
