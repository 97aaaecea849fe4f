use Rattle.std.proofs.Common.{drop}
use Rattle.esm_tree.specs.Flat.{bindings_of}
use Rattle.esm_rows.specs.Rows.{Row, bindings_row}
use Rattle.esm_rows.specs.Locals.{names_of}
use Rattle.esm_rows.specs.Drafts.{IsDraft}
use Rattle.esm_rows.proofs.simple.put_bindings.Given as goal

-- the bindings from this place on are there
abbrev pub invariant-loop-at : goal.invariant-loop-at
invariant-loop-at l = (c : Row) → IsDraft l.fn.draft c → IsDraft l.draft (bindings_row (names_of l.blocks) (bindings_of l.tree.exprs (drop l.at l.bindings)) c)
