use Rattle.std.proofs.Common.{refl, ◌∙◌, arith}
use Rattle.esm_rows.proofs.owns.own_ops.Goals as goal

pub loop-at-init : goal.loop-at-init
loop-at-init c = record { many = refl; told = λ row h. h }

pub own_at-requires : goal.own_at-requires
own_at-requires c = omega (arith, c.loop-at.invariant.many, c.loop-at-test.true, c.len-at-end.ensures, c.args.ops.now.ok.0)

pub loop-at-preserved : goal.loop-at-preserved
loop-at-preserved c = record {
  many = c.own_at.ensures.many ∙ c.loop-at.invariant.many;
  told = λ row h. c.own_at.ensures.told row (c.loop-at.invariant.told row h);
}

pub returns : goal.returns
returns c = c.loop-at.invariant.told
