use Rattle.esm_rows.specs.Making.{links_tasks}
use Rattle.std.proofs.Common.{◌++◌}
use Rattle.esm_rows.proofs.Linked.{LinksLeft}
use Rattle.esm_rows.proofs.tasks.push_links.Given as goal

-- what is there and what is left are the whole
abbrev pub invariant-loop-at : goal.invariant-loop-at
invariant-loop-at l = LinksLeft l.fn.id l.fn.links l.at l.tasks.items (l.fn.tasks.items ++ links_tasks l.fn.id 0 l.fn.links)
