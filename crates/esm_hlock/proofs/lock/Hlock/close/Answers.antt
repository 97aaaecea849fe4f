use Rattle.std.proofs.Common.{rules, ◌∙◌, sym, subst, ◌≡◌}
use Rattle.std.specs.Prelude.{IsSome, Some}
use Rattle.esm_hlock.specs.Makers.{Continues}
use Rattle.esm_hlock.specs.Closing.{ClosedWith}
use Rattle.esm_hlock.proofs.Keeps.Ends.{closed, behind, closes, none_out}
use Rattle.esm_hlock.proofs.lock.Hlock.close.Goals as goal

pub unwrap-requires : goal.unwrap-requires
unwrap-requires g c = let h = closes g.T.Story.story g.T.Story.maker _ _ _ _ _ _ _ c.close_with-closed.ensures.values.2 c.take-slot.ensures.value c.word-ticket.ensures c.word-serving.ensures c.if-ticket-serving.false in
    subst IsSome (sym h.1) (search rules)

pub returns-clause-seen : goal.returns-clause-seen
returns-clause-seen g c = let h = closes g.T.Story.story g.T.Story.maker _ _ _ _ _ _ _ c.close_with-closed.ensures.values.2 c.take-slot.ensures.value c.word-ticket.ensures c.word-serving.ensures c.if-ticket-serving.false in
    let same : Some h.0 ≡ Some c.unwrap.result = sym h.1 ∙ c.unwrap.ensures in let is : h.0 ≡ c.unwrap.result = cc in
    subst (λ x. Continues g.T.Story.maker (g.T.Story.story x) c.args.pass.seat.me.0.seen c.args.pass.seat.me.0.numbers) is h.2

pub returns-clause-legal : goal.returns-clause-legal
returns-clause-legal g c = (g.met.T.Story.lawful _, g.met.T.Story.whole _)

pub returns-clause-exact : goal.returns-clause-exact
returns-clause-exact g c = let e = closed g.T.Story.story g.T.Story.maker _ _ _ _ _ _ c.close_with-closed.ensures.values.2 c.word-ticket.ensures c.word-serving.ensures in
    (c.word-ticket.result, subst (λ n. ClosedWith g.T.Story.story g.T.Story.maker c.args.pass.seat.id c.args.pass.seat.me.0 c.word-ticket.result n) (sym c.if-ticket-serving.false) e)

pub returns-then-ticket-serving-clause-exact : goal.returns-then-ticket-serving-clause-exact
returns-then-ticket-serving-clause-exact g c = let e = closed g.T.Story.story g.T.Story.maker _ _ _ _ _ _ c.close_with-closed.ensures.values.2 c.word-ticket.ensures c.word-serving.ensures in
    (behind g.T.Story.story g.T.Story.maker _ _ _ _ e c.if-ticket-serving.true, e)

pub returns-then-ticket-serving-clause-whole : goal.returns-then-ticket-serving-clause-whole
returns-then-ticket-serving-clause-whole g c = λ all. absurd (c.if-ticket-serving.true (none_out g.T.Story.story g.T.Story.maker _ _ _ _ _ _ c.close_with-closed.ensures.values.2 c.args.pass.idle.1 all c.word-ticket.ensures c.word-serving.ensures))
