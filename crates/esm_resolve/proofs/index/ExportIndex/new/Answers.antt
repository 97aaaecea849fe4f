use Rattle.std.proofs.Common.{◌≡◌, None, ap}
use Rattle.std.specs.BTreeMap.{get, is_at}
use Rattle.std.specs.Map.{lookup}
use Rattle.esm_resolve.specs.Pairs.{pair_cmp}
use Rattle.esm_resolve.proofs.index.ExportIndex.new.Goals as goal

pub returns : goal.returns
returns c = λ g. record {
  table = c.new-table.ensures g;
  ends = λ q e is. let none : get pair_cmp c.new-ends.result q ≡ None = ap (lookup (is_at (pair_cmp q))) c.new-ends.ensures.empty in absurd (cc);
}
