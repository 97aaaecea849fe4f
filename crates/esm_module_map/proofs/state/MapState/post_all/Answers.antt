use Rattle.std.proofs.Common.{◌≡◌, refl, sym, ap, ◌∙◌, arith, length}
use Rattle.std.specs.Vec.Iter.{into_iter_items, into_iter_len}
use Rattle.esm_module_map.specs.Replay.{replay}
use Rattle.esm_module_map.proofs.Posting.{posting_begins, posting_on, posting_done, posting_order, posting_fits}
use Rattle.esm_module_map.proofs.state.MapState.post_all.Goals as goal

pub loop-one-init : goal.loop-one-init
loop-one-init g c = let given = c.into_iter-one-iterator.ensures.into_iter_gives in record {
  len = given.1 ∙ (c.args.filled.ok.0 ∙ ap length (sym given.0));
  posting = posting_begins g.P.Payload.weight g.P.Payload.fits c.args.caller c.args.self.now.events.items c.args.filled.items _ given.0 c.requires.filled;
  callers = refl;
}

pub post-requires-clause-is_in : goal.post-requires-clause-is_in
post-requires-clause-is_in g c = let it = c.args.self.now in let now = c.loop-one.self in let W = g.P.Payload.weight in
    let e1 : it.callers ≡ (replay W it.events.items).callers = ap (λ r. r.callers) it.replayed in let e2 = c.loop-one.invariant.callers in
    let e3 : now.callers ≡ (replay W now.events.items).callers = ap (λ r. r.callers) now.replayed in let h = c.requires.is_in in omega (arith, e1, e2, e3, h)

pub post-requires-clause-order : goal.post-requires-clause-order
post-requires-clause-order g c = posting_order g.P.Payload.weight g.P.Payload.fits c.args.caller c.args.self.now.events.items c.args.filled.items c.loop-one.self.events.items _ _ c.in-Some.one c.loop-one.invariant.posting c.in-Some.ensures.steps.0

pub post-requires-clause-fits : goal.post-requires-clause-fits
post-requires-clause-fits g c = let it = c.args.self.now in let now = c.loop-one.self in let W = g.P.Payload.weight in
    let e1 : it.callers ≡ (replay W it.events.items).callers = ap (λ r. r.callers) it.replayed in let e2 = c.loop-one.invariant.callers in
    let e3 : now.callers ≡ (replay W now.events.items).callers = ap (λ r. r.callers) now.replayed in let h = c.requires.is_in in
    posting_fits W g.P.Payload.fits c.args.caller it.events.items c.args.filled.items now.events.items _ _ c.in-Some.one now.legal (omega (arith, e1, e2, e3, h)) c.loop-one.invariant.posting c.in-Some.ensures.steps.0

pub loop-one-preserved : goal.loop-one-preserved
loop-one-preserved g c = let steps = c.in-Some.ensures.steps in let inv = c.loop-one.invariant in
    let n : into_iter_len c.loop-one.one-iterator ≡ length (into_iter_items c.loop-one.one-iterator) = inv.len in
    let e = ap length steps.0 in record {
      len = omega (arith, e);
      posting = posting_on g.P.Payload.weight g.P.Payload.fits c.args.caller c.args.self.now.events.items c.args.filled.items c.loop-one.self.events.items c.post.new.self.events.items _ _ c.in-Some.one inv.posting steps.0 c.post.ensures.reply;
      callers = c.post.ensures.callers ∙ inv.callers;
    }

pub returns-clause-reply : goal.returns-clause-reply
returns-clause-reply g c = posting_done g.P.Payload.weight g.P.Payload.fits c.args.caller c.args.self.now.events.items c.args.filled.items c.loop-one.self.events.items (into_iter_items c.loop-one.one-iterator) (sym c.loop-one.invariant.len ∙ c.in-None.ensures.steps.0) c.loop-one.invariant.posting
