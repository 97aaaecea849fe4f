use Rattle.esm_specifier.proofs.Keys.Longest.{decided_whole, undecided_whole}
use Rattle.esm_specifier.proofs.lookup.find_key.Goals as goal

pub returns-in-Some : goal.returns-in-Some
returns-in-Some c = decided_whole c.args.prefixes c.args.normal.now c.args.map.now c.in-Some.address.now c.utf8.normal c.in-Some.ensures

pub returns-else-prefixes : goal.returns-else-prefixes
returns-else-prefixes c = undecided_whole c.args.prefixes c.args.normal.now c.args.map.now c.if-prefixes.false c.in_default.ensures
