use Rattle.esm_rows.specs.Rows.{Row}
use Rattle.esm_rows.specs.Working.{Comes}
use Rattle.esm_rows.proofs.maker.Maker.run.Given as goal

-- what is there leads to the whole
abbrev pub invariant-loop : goal.invariant-loop
invariant-loop l = (made : Row) → Comes l.tree.exprs l.tree.stmts l.fn.self made → Comes l.tree.exprs l.tree.stmts l.self made
