use Rattle.esm_tree.specs.Flat.{part}
use Rattle.esm_rows.specs.Rows.{Row, expr_row}
use Rattle.esm_rows.specs.Locals.{names_of}
use Rattle.esm_rows.specs.Drafts.{IsDraft, Leads}
use Rattle.esm_rows.proofs.exprs.put_expr.Given as goal

-- what is there leads to the whole
abbrev pub invariant-loop : goal.invariant-loop
invariant-loop l = (c : Row) → IsDraft l.fn.draft c → Leads (names_of l.blocks) l.tree.exprs l.tasks.items l.draft (expr_row (names_of l.blocks) (part l.tree.exprs l.fn.id) c)
