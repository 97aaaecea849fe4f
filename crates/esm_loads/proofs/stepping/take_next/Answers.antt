-- The queue of the URL that was fetched last.
use Rattle.std.proofs.Common.{◌≡◌, ◌<◌, ◌∙◌, ap, sym, length, arith, rules, true, Some, []}
use Rattle.esm_loads.specs.Inner.Requests.{QueuesView}
use Rattle.esm_loads.proofs.Places.{get_within, get_at, some_is, closed_by}
use Rattle.esm_loads.proofs.stepping.take_next.Goals as goal

pub returns-in-Some-clause-some : goal.returns-in-Some-clause-some
returns-in-Some-clause-some c =
    let t = c.args.loads.now in
    let inside : t.delivered < length t.urls.slots = omega (arith, c.if-place-len.false, c.len.ensures) in
    let s = get_within t.urls.slots t.delivered inside in
    let fetched : c.is_fetched.result ≡ true = search rules in
    let x = c.in-Some.ensures in
    record {
      slot = s.0;
      at = s.1;
      fetched = closed_by _ (sym fetched ∙ c.is_fetched.ensures s.0 s.1);
      rest = x.0;
      queue = get_at t.queues.queues t.delivered [] (omega (arith, inside, c.requires)) ∙ ap (λ q. Some q) x.1;
      load = x.3;
      new_is = ap (λ (q : QueuesView). record t { queues = q }) x.2;
    }

pub returns-in-None-clause-none : goal.returns-in-None-clause-none
returns-in-None-clause-none c none s q f g closed =
    let t = c.args.loads.now in
    let inside : t.delivered < length t.urls.slots = omega (arith, c.if-place-len.false, c.len.ensures) in
    some_is (sym g ∙ get_at t.queues.queues t.delivered [] (omega (arith, inside, c.requires))) ∙ c.in-None.ensures.0
