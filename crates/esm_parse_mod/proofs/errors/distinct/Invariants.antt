use Rattle.std.proofs.Common.{drop}
use Rattle.std.specs.Ordering.{nat_cmp}
use Rattle.std.specs.Cmp.Lexicographic.{slice_cmp}
use Rattle.std.specs.BTreeSet.{contains}
use Rattle.esm_parse_mod.proofs.SeenLemmas.{Seen}
use Rattle.esm_parse_mod.proofs.errors.distinct.Given as goal

abbrev pub invariant-loop-name : goal.invariant-loop-name
invariant-loop-name l = Seen l.names (drop l.name-index l.names) (contains (λ x y. slice_cmp nat_cmp x.now y.now) l.found)
