use Rattle.std.proofs.Common.{◌-◌, refl, arith}
use Rattle.esm_body.proofs.StartLemmas.{body_go, no_body, told_sound, need_at}
use Rattle.esm_body.proofs.starts.body_work.Goals as goal

pub loop-place-init : goal.loop-place-init
loop-place-init c = record {
  work = λ stmts. rw c.new-statements.ensures.items (no_body stmts c.args.items.now);
  sound = λ n b. rw c.new-statements.ensures.items tt;
}

pub loop-place-preserved : goal.loop-place-preserved
loop-place-preserved c =
    let a = c.loop-place.auto.place in
    let b = c.loop-place-test.true in
    let i = c.loop-place.place - 1 in
    record {
      work = λ stmts. body_go stmts c.args.items.now i c.loop-place.place _ c.item_statement.result c.loop-place.statements.items _ (omega (arith, b)) (omega (arith, a, b)) (rw c.index-items-place.is at (c.item_statement.ensures.does stmts)) (c.if-not-is_item_pushed.ensures refl) (c.loop-place.invariant.work stmts);
      sound = λ n h. told_sound n c.item_statement.result c.loop-place.statements.items _ (c.if-not-is_item_pushed.ensures refl) ((rw c.index-items-place.is at (c.item_statement.ensures.below n)) (need_at n c.args.items.now i _ h (omega (arith, a, b)))) (c.loop-place.invariant.sound n h);
    }

pub returns-clause-sound : goal.returns-clause-sound
returns-clause-sound c = λ n h. rw c.of.ensures (c.loop-place.invariant.sound n h)
