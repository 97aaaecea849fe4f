use Rattle.std.proofs.Common.{◌≤◌, ◌<◌, length, arith}
use Rattle.esm_body.proofs.WaitLemmas.{none_yet, others_more, stands_here, stands_nowhere}
use Rattle.esm_body.proofs.engine.Engine.standing_at.Goals as goal

pub loop-at-init : goal.loop-at-init
loop-at-init c = none_yet c.args.self.now.standing.items c.args.m.0

pub loop-at-preserved : goal.loop-at-preserved
loop-at-preserved c =
    let ss = c.args.self.now.standing.items in
    let b = c.len-at-end.ensures in
    let t = c.loop-at-test.true in
    let o = c.args.self.now.standing.ok.0 in
    let within : c.loop-at.at < length ss = omega (arith, b, t, o) in
    others_more ss c.args.m.0 c.loop-at.at c.index.result.now c.index.ensures within c.if-index-m.false c.loop-at.invariant

pub returns-then-index-m : goal.returns-then-index-m
returns-then-index-m c =
    let ss = c.args.self.now.standing.items in
    let b = c.len-at-end.ensures in
    let t = c.loop-at-test.true in
    let o = c.args.self.now.standing.ok.0 in
    let within : c.loop-at.at < length ss = omega (arith, b, t, o) in
    stands_here ss c.args.m.0 c.loop-at.at c.index.result.now c.index.ensures within c.if-index-m.true c.loop-at.invariant

pub returns : goal.returns
returns c =
    let ss = c.args.self.now.standing.items in
    let b = c.len-at-end.ensures in
    let t = c.loop-at-test.false in
    let o = c.args.self.now.standing.ok.0 in
    let past : length ss ≤ c.loop-at.at = omega (arith, b, t, o) in
    stands_nowhere ss c.args.m.0 c.loop-at.at past c.loop-at.invariant
