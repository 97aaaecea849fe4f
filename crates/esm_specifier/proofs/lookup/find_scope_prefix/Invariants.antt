use Rattle.esm_specifier.specs.Resolution.{decides}
use Rattle.esm_specifier.proofs.Keys.Longest.{NoneLonger, passes}
use Rattle.esm_specifier.proofs.lookup.find_scope_prefix.Given as goal

abbrev pub invariant-loop-end : goal.invariant-loop-end
invariant-loop-end l = NoneLonger (passes l.scopes (decides l.referrer l.prefixes l.normal l.scopes)) l.end
