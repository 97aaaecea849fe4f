use Rattle.std.proofs.Common.{subst}
use Rattle.std.specs.Arc.{arc_value}
use Rattle.esm_env.specs.Placed.{names_of}
use Rattle.esm_rows.specs.Functions.{IsRowOf}
use Rattle.esm_rows.proofs.Lowered.{of_item}
use Rattle.esm_rows.proofs.lowering.lower.Goals as goal

pub returns-in_ok-row-in-Some : goal.returns-in_ok-row-in-Some
returns-in_ok-row-in-Some c =
    let scope = c.args.scope.now in
    let tree = arc_value scope.tree in
    let item = c.in-Some.ensures in
    let first = rw c.deref.ensures at c.in_ok-row-in-Some.ensures in
    subst (λ owns. IsRowOf owns tree c.args.index c.own_first.result) scope.named
    (of_item (names_of scope) tree c.args.index item.0 _ item.1 item.2 c.own_first.result (c.own_first.ensures _ first))

pub returns-in-None : goal.returns-in-None
returns-in-None c = c.in-None.ensures
