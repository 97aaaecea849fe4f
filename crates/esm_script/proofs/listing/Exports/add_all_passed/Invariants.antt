use Rattle.std.proofs.Common.{drop, map}
use Rattle.esm_ast.specs.Entries.{passed_on}
use Rattle.esm_script.proofs.Exported.{Leads}
use Rattle.esm_script.proofs.listing.Exports.add_all_passed.Given as goal

abbrev pub invariant-loop-specifier : goal.invariant-loop-specifier
invariant-loop-specifier l = Leads l.fn.self l.self (map (passed_on l.request) (drop l.specifier-index l.specifiers)) (map (passed_on l.request) l.specifiers)
