use Rattle.esm_resolve.proofs.resolve.resolve_export.Goals as goal

pub resolve_with-requires-clause-index : goal.resolve_with-requires-clause-index
resolve_with-requires-clause-index g c = c.new.ensures (g.G.ExportGraph.graph c.args.graph.now)
