use Rattle.std.proofs.Common.{◌≡◌, ◌++◌, drop}
use Rattle.std.specs.List.{flat_map}
use Rattle.esm_rows.specs.Working.{statement_works}
use Rattle.esm_rows.proofs.works.push_statements.Given as goal

-- what is there and what is left are the whole
abbrev pub invariant-loop-id : goal.invariant-loop-id
invariant-loop-id l = l.works.items ++ flat_map statement_works (drop l.id-index l.ids) ≡ l.fn.works.items ++ flat_map statement_works l.fn.ids
