use Rattle.std.proofs.Common.{◌≡◌, Some, length, slice_get, refl, subst, arith}
use Rattle.esm_eval.specs.Table.{PassesTo}
use Rattle.esm_eval.proofs.Inner.Passing as passing
use Rattle.esm_eval.proofs.Inner.Tables as tables
use Rattle.esm_eval.proofs.passing.pass_waits.Goals as goal

pub returns-then-y-len-clause-same : goal.returns-then-y-len-clause-same
returns-then-y-len-clause-same c =
    let ns = c.args.nodes.now.items in
    let at : slice_get ns c.args.y ≡ Some c.index_mut.result.now = tables.reads ns (length ns) c.args.y c.index_mut.result.now refl (let lt = c.if-y-len.true in omega (arith, lt, c.args.nodes.now.ok.0, c.len.ensures)) c.index_mut.ensures.value in
    passing.passes ns c.args.y c.index_mut.result.now c.open_place-place.result at

pub returns-then-y-len-clause-kept : goal.returns-then-y-len-clause-kept
returns-then-y-len-clause-kept c stamps k =
    let ns = c.args.nodes.now.items in
    let at : slice_get ns c.args.y ≡ Some c.index_mut.result.now = tables.reads ns (length ns) c.args.y c.index_mut.result.now refl (let lt = c.if-y-len.true in omega (arith, lt, c.args.nodes.now.ok.0, c.len.ensures)) c.index_mut.ensures.value in
    passing.passes_kept ns stamps c.args.y c.index_mut.result.now c.open_place-place.result at (subst (λ l. PassesTo l c.args.y c.open_place-place.result) c.as_slice.ensures.value c.open_place-place.ensures) k
