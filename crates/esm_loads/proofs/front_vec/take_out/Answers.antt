-- An element is taken out from its nearer side.
use Rattle.std.proofs.Common.{ap, ◌∙◌, drop}
use Rattle.esm_loads.proofs.Removals.{removed, written}
use Rattle.esm_loads.proofs.front_vec.take_out.Goals as goal

pub returns-clause-taken : goal.returns-clause-taken
returns-clause-taken g c = ap (λ xs. drop c.args.first xs) c.remove.ensures.items ∙ removed c.args.items.now.items c.args.first c.args.at c.requires

pub returns-then-at-len-clause-taken : goal.returns-then-at-len-clause-taken
returns-then-at-len-clause-taken g c =
    written c.args.items.now.items c.deref_mut.result.now c.bring_to_front.new.row c.args.first c.args.at c.args.items.now.len c.deref_mut.ensures.value c.deref_mut.ensures.len c.requires c.bring_to_front.ensures.len c.bring_to_front.ensures.kept
