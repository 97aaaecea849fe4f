use Rattle.std.proofs.Common.{List, drop, map}
use Rattle.esm_ast.specs.declared.entries.ImportEntry.{ImportEntry}
use Rattle.esm_ast.specs.Entries.{listed}
use Rattle.esm_script.specs.Inner.{IsIndexOf}
use Rattle.esm_script.proofs.Exported.{Leads}
use Rattle.esm_script.proofs.listing.Exports.add_all_listed.Given as goal

abbrev pub invariant-loop-specifier : goal.invariant-loop-specifier
invariant-loop-specifier l = (imports : List ImportEntry) → IsIndexOf imports l.index → Leads l.fn.self l.self (map (listed imports) (drop l.specifier-index l.specifiers)) (map (listed imports) l.specifiers)
