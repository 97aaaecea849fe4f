use Rattle.esm_ast.specs.Entries.{listed_by, listed_by_wanted}
use Rattle.esm_script.proofs.listing.Exports.add_found.Goals as goal

pub returns-in_ok-wanted-in-Named : goal.returns-in_ok-wanted-in-Named
unfolding listed_by listed_by_wanted
returns-in_ok-wanted-in-Named c = rw (c.in-Some.is, c.in-Named.is) (rw (c.in_ok-exported.ensures, c.in_ok-wanted-in-Named.ensures) at c.add_indirect.ensures)

pub returns-in_ok-local-in-Whole : goal.returns-in_ok-local-in-Whole
unfolding listed_by listed_by_wanted
returns-in_ok-local-in-Whole c = rw (c.in-Some.is, c.in-Whole.is) (rw (c.in_ok-exported.ensures, c.in_ok-local-in-Whole.ensures) at c.add_local.ensures)

pub returns-in_ok-local-in-None : goal.returns-in_ok-local-in-None
unfolding listed_by
returns-in_ok-local-in-None c = rw c.in-None.is (rw (c.in_ok-exported.ensures, c.in_ok-local-in-None.ensures) at c.add_local-in-None.ensures)
