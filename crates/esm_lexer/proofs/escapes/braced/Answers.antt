use Rattle.std.proofs.Common.{◌∙◌, arith}
use Rattle.esm_lexer.proofs.Fronts.{at_is, past}
use Rattle.esm_lexer.proofs.StringLemmas.{braced_more, braced_large, braced_end, braced_stuck, braced_over, code_of_end, no_half_at_all}
use Rattle.esm_lexer.proofs.escapes.braced.Goals as goal

pub returns-then-next-gt1114111 : goal.returns-then-next-gt1114111
returns-then-next-gt1114111 c =
    let l = c.loop-i in
    let e = at_is c.args.text.now l.i _ c.loop-i-test.true c.index-text-i.is in
    let d = c.in-Some.ensures in
    l.invariant.same ∙ braced_large l.code l.some _ _ _ e d.0 (omega (arith, d.1.0, c.if-next-gt1114111.true))

pub returns-then-ends_code : goal.returns-then-ends_code
returns-then-ends_code c =
    let l = c.loop-i in
    let e = at_is c.args.text.now l.i _ c.loop-i-test.true c.index-text-i.is in (
      l.invariant.same ∙ braced_end l.code l.some _ _ _ e c.in-None.ensures c.if-ends_code.ensures,
      (no_half_at_all l.code l.invariant.small (code_of_end _ l.code l.some c.if-ends_code.ensures), omega arith),
    )

pub returns-in-None : goal.returns-in-None
returns-in-None c =
    let l = c.loop-i in
    let e = at_is c.args.text.now l.i _ c.loop-i-test.true c.index-text-i.is in
    l.invariant.same ∙ braced_stuck l.code l.some _ _ _ e c.in-None.ensures c.if-ends_code.ensures

pub loop-i-preserved : goal.loop-i-preserved
loop-i-preserved c =
    let l = c.loop-i in
    let e = at_is c.args.text.now l.i _ c.loop-i-test.true c.index-text-i.is in
    let d = c.in-Some.ensures in
    record {
      within = omega arith;
      small = omega (arith, c.if-next-gt1114111.false);
      same = rw d.1.0 (l.invariant.same ∙ braced_more l.code l.some _ _ _ e d.0 (omega (arith, d.1.0, c.if-next-gt1114111.false)));
    }

pub returns : goal.returns
returns c =
    let l = c.loop-i in
    l.invariant.same ∙ braced_over l.code l.some _ (past c.args.text.now l.i (omega arith))
