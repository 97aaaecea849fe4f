use Rattle.std.specs.Prelude.{drop}
use Rattle.esm_specifier.proofs.Requests.{LeadsOn}
use Rattle.esm_specifier.proofs.targets.targets_of.Given as goal

abbrev pub invariant-loop-specifier : goal.invariant-loop-specifier
invariant-loop-specifier l = LeadsOn l.map l.url l.requests (drop l.specifier-index l.requests) l.found.items
