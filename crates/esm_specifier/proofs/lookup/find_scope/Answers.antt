use Rattle.esm_specifier.proofs.Keys.Longest.{decided_scope_whole}
use Rattle.esm_specifier.proofs.lookup.find_scope.Goals as goal

pub returns-in-Some : goal.returns-in-Some
returns-in-Some c = decided_scope_whole c.args.referrer.now c.args.prefixes c.args.normal.now c.args.scopes.now c.in-Some.found.key_len c.in-Some.found.address.now c.utf8.referrer c.in-Some.ensures
