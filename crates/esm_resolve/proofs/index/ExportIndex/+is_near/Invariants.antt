use Rattle.esm_resolve.proofs.index.ExportIndex.+is_near.Given as goal

abbrev pub decreases-is_near : goal.decreases-is_near
decreases-is_near l = l.steps
