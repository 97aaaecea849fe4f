use Rattle.std.proofs.Common.{◌≡◌, Some, length, slice_get, refl, arith}
use Rattle.esm_eval.proofs.Inner.Tables as tables
use Rattle.esm_eval.proofs.nodes.Nodes.passed.Goals as goal

pub returns-then-at-len : goal.returns-then-at-len
returns-then-at-len c =
    let ns = c.self.inside.nodes.items in
    let stamps = c.self.inside.stamps.items in
    let at : slice_get ns c.args.x ≡ Some c.index.result.now = tables.reads ns (length ns) c.args.x c.index.result.now refl (let lt = c.if-at-len.true in omega (arith, lt, c.self.inside.nodes.ok.0, c.len.ensures)) c.index.ensures in
    rw (← c.self.view_is) (tables.passed_read ns stamps c.args.x c.index.result.now c.self.invariant at)

pub returns-else-at-len : goal.returns-else-at-len
returns-else-at-len c = λ k y lt at. absurd (omega (arith, lt))
