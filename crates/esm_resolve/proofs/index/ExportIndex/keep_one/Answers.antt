use Rattle.std.proofs.Common.{subst}
use Rattle.esm_resolve.specs.Inner.Index.{PutsEnd}
use Rattle.esm_resolve.proofs.Search.Kept.{kept_more}
use Rattle.esm_resolve.proofs.index.ExportIndex.keep_one.Goals as goal

pub returns-clause-index : goal.returns-clause-index
returns-clause-index g c =
    let graph = g.G.ExportGraph.graph c.args.graph.now in
    let old = c.args.self.now.ends in
    let new = c.put_end.new.ends in
    let puts = subst (λ b. PutsEnd c.args.pair (c.args.home, b) old new) c.in_ok-binding.ensures c.in_ok-put_end.ensures in
    record { table = c.in_ok-next.ensures.table; ends = kept_more graph c.args.pair (c.args.home, c.args.binding.now) old new puts c.requires.index.ends c.requires.resolution }
