use Rattle.std.proofs.Common.{◌≤◌, length, sym, arith}
use Rattle.esm_body.proofs.Marks.{none_past, mark_at}
use Rattle.esm_body.proofs.events.marked.Goals as goal

pub returns-then-at-marks : goal.returns-then-at-marks
returns-then-at-marks c = mark_at c.args.marks.now c.args.m.0 _ c.if-at-marks.true

pub returns-else-at-marks : goal.returns-else-at-marks
returns-else-at-marks c =
    let f = c.if-at-marks.false in
    let past : length c.args.marks.now ≤ c.args.m.0 = omega (arith, f) in
    sym (none_past c.args.marks.now c.args.m.0 past)
