use Rattle.std.proofs.Common.{◌≡◌, ◌≤◌, Ok, length, ◌∙◌, subst, sym, rules}
use Rattle.std.proofs.lemmas.Option.{slice_get_read}
use Rattle.esm_eval.specs.BodyEnd.{Fulfills}
use Rattle.esm_realm.proofs.Numbers.{in_first, drop_none}
use Rattle.esm_eval.proofs.Inner.LateSteps as steps
use Rattle.esm_eval.proofs.Inner.Due as due
use Rattle.esm_eval.proofs.Inner.Due.{AreDue}
use Rattle.esm_eval.proofs.ends.fulfill_ready.Goals as goal

pub returns-then-is_evaluated-clause-fulfills : goal.returns-then-is_evaluated-clause-fulfills
returns-then-is_evaluated-clause-fulfills g c = Fulfills.over (steps.says c.is_evaluated.result c.is_evaluated.ensures c.if-is_evaluated.true)

pub ready-requires-clause-finished : goal.ready-requires-clause-finished
ready-requires-clause-finished g c = (c.args.desk.now, c.requires.between, c.finish.ensures.world)

pub loop-i-init : goal.loop-i-init
loop-i-init g c = record {
  fits = c.finish.ensures.fits;
  long = c.finish.ensures.size;
  due = subst (λ ys. AreDue g.D.Late.lens g.D.Late.linked c.finish.new.self ys) (sym (drop_none c.in-Ok.order.items)) (due.ready_due g.D.Late.lens g.D.Late.acts g.D.Late.lawful g.D.Late.steady g.D.Late.begins_one g.D.Late.linked c.args.desk.now c.finish.new.self c.args.m c.in-Ok.order.items c.requires.between c.finish.ensures.world c.in-Ok.ensures.ready c.in-Ok.ensures.linked);
  completes = λ end after q. steps.goes_on g.D.Late.lens g.D.Late.acts c.args.desk.now c.finish.new.self after c.args.m c.in-Ok.order.items end (steps.denies c.is_evaluated.result c.is_evaluated.ensures c.if-is_evaluated.false) c.finish.ensures.world c.in-Ok.ensures.ready q;
}

pub loop-i-preserved-then-is_evaluated-2 : goal.loop-i-preserved-then-is_evaluated-2
loop-i-preserved-then-is_evaluated-2 g c = record {
  fits = c.loop-i.invariant.fits;
  long = c.loop-i.invariant.long;
  due = due.due_next g.D.Late.lens g.D.Late.linked c.loop-i.desk c.index-x.result.now _ (due.due_at g.D.Late.lens g.D.Late.linked c.loop-i.desk c.in-Ok.order.items c.loop-i.i c.index-x.result.now (slice_get_read c.in-Ok.order.items c.len-i-end.result c.loop-i.i c.index-x.result.now (c.len-i-end.ensures ∙ search rules) c.loop-i-test.true c.index-x.ensures) c.loop-i.invariant.due);
  completes = λ end after q. c.loop-i.invariant.completes end after (steps.skips g.D.Late.lens g.D.Late.acts c.loop-i.desk c.in-Ok.order.items c.loop-i.i c.index-x.result.now (slice_get_read c.in-Ok.order.items c.len-i-end.result c.loop-i.i c.index-x.result.now (c.len-i-end.ensures ∙ search rules) c.loop-i-test.true c.index-x.ensures) end after (steps.says c.is_evaluated-in-loop-i.result c.is_evaluated-in-loop-i.ensures c.if-is_evaluated-2.true) q);
}

pub go_on-requires : goal.go_on-requires
go_on-requires g c = record {
  linked = (due.due_at g.D.Late.lens g.D.Late.linked c.loop-i.desk c.in-Ok.order.items c.loop-i.i c.index-x.result.now (slice_get_read c.in-Ok.order.items c.len-i-end.result c.loop-i.i c.index-x.result.now (c.len-i-end.ensures ∙ search rules) c.loop-i-test.true c.index-x.ensures) c.loop-i.invariant.due).links c.index-x.result.now (in_first c.index-x.result.now _);
  unbegun = (due.due_at g.D.Late.lens g.D.Late.linked c.loop-i.desk c.in-Ok.order.items c.loop-i.i c.index-x.result.now (slice_get_read c.in-Ok.order.items c.len-i-end.result c.loop-i.i c.index-x.result.now (c.len-i-end.ensures ∙ search rules) c.loop-i-test.true c.index-x.ensures) c.loop-i.invariant.due).unbegun c.index-x.result.now (in_first c.index-x.result.now _);
  fits = c.loop-i.invariant.fits;
  unfinished = steps.denies c.is_evaluated-in-loop-i.result c.is_evaluated-in-loop-i.ensures c.if-is_evaluated-2.false;
}

pub returns-in-Err-go_on-clause-fulfills : goal.returns-in-Err-go_on-clause-fulfills
returns-in-Err-go_on-clause-fulfills g c =
    steps.stops_at g.D.Late.lens g.D.Late.acts c.args.desk.now c.args.m c.loop-i.desk c.go_on.new.desk c.in-Ok.order.items c.loop-i.i c.index-x.result.now (slice_get_read c.in-Ok.order.items c.len-i-end.result c.loop-i.i c.index-x.result.now (c.len-i-end.ensures ∙ search rules) c.loop-i-test.true c.index-x.ensures) c.in-Err-go_on.end c.in-Err-go_on.ensures.goes c.loop-i.invariant.completes

pub loop-i-preserved : goal.loop-i-preserved
loop-i-preserved g c = record {
  fits = c.in-Ok-go_on.ensures.fits;
  long = c.in-Ok-go_on.ensures.size ∙ c.loop-i.invariant.long;
  due = due.due_on g.D.Late.lens g.D.Late.linked g.D.Late.knows c.loop-i.desk c.go_on.new.desk c.index-x.result.now _ (due.due_at g.D.Late.lens g.D.Late.linked c.loop-i.desk c.in-Ok.order.items c.loop-i.i c.index-x.result.now (slice_get_read c.in-Ok.order.items c.len-i-end.result c.loop-i.i c.index-x.result.now (c.len-i-end.ensures ∙ search rules) c.loop-i-test.true c.index-x.ensures) c.loop-i.invariant.due) c.in-Ok-go_on.ensures.stays c.in-Ok-go_on.ensures.begins;
  completes = λ end after q. c.loop-i.invariant.completes end after (steps.step_on g.D.Late.lens g.D.Late.acts c.loop-i.desk c.go_on.new.desk c.in-Ok.order.items c.loop-i.i c.index-x.result.now (slice_get_read c.in-Ok.order.items c.len-i-end.result c.loop-i.i c.index-x.result.now (c.len-i-end.ensures ∙ search rules) c.loop-i-test.true c.index-x.ensures) c.in-Ok-go_on.ensures.goes end after q);
}

pub returns-clause-fulfills : goal.returns-clause-fulfills
returns-clause-fulfills g c =
    let same : c.len-i-end.result ≡ length c.in-Ok.order.items = c.len-i-end.ensures ∙ search rules in
    c.loop-i.invariant.completes (Ok tt) c.loop-i.desk (steps.all_taken g.D.Late.lens g.D.Late.acts c.loop-i.desk c.in-Ok.order.items c.loop-i.i (subst (λ n. n ≤ c.loop-i.i) same c.loop-i-test.false))

pub returns-in-Err-go_on-clause-size : goal.returns-in-Err-go_on-clause-size
returns-in-Err-go_on-clause-size g c = c.in-Err-go_on.ensures.size ∙ c.loop-i.invariant.long
