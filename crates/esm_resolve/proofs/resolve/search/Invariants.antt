use Rattle.std.proofs.Common.{◌+◌, vec_len}
use Rattle.std.specs.BTreeMap.{get}
use Rattle.std.specs.BTreeSet.{contains}
use Rattle.esm_resolve.specs.Index.{HasExports}
use Rattle.esm_resolve.specs.Inner.Search.{steps_of}
use Rattle.esm_resolve.specs.Pairs.{pair_cmp}
use Rattle.esm_resolve.proofs.Search.Candidates.{candidates}
use Rattle.esm_resolve.proofs.Search.Remaining.{left}
use Rattle.esm_resolve.proofs.Search.Searching.{IsUnderWay}
use Rattle.esm_resolve.proofs.resolve.search.Given as goal

abbrev pub invariant-loop-pair : goal.invariant-loop-pair
invariant-loop-pair g l = record {
  table : HasExports (g.G.ExportGraph.graph l.graph) l.table;
  search : IsUnderWay (g.G.ExportGraph.graph l.graph) (get pair_cmp l.ends) l.start (contains pair_cmp l.visited) l.work.items l.found;
}

abbrev pub decreases-loop-pair : goal.decreases-loop-pair
decreases-loop-pair g l = left (steps_of (g.G.ExportGraph.graph l.graph) (get pair_cmp l.ends)) (contains pair_cmp l.visited) (candidates (g.G.ExportGraph.graph l.graph) l.start.name) + vec_len l.work
