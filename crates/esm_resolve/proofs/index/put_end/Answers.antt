-- The tree tells the same pairs apart as equality does.
use Rattle.std.proofs.Common.{ap, sym, ◌∙◌, cond, Some}
use Rattle.std.specs.BTreeMap as map
use Rattle.esm_resolve.specs.Pairs.{pair_cmp, pair_ties}
use Rattle.esm_resolve.proofs.index.put_end.Goals as goal

pub returns : goal.returns
returns c = λ q. c.in_ok-insert.ensures.updates.0 q ∙ ap (λ b. cond b (Some (c.args.home, c.args.binding)) (map.get pair_cmp c.args.ends.now q)) (sym (pair_ties c.args.pair q))
