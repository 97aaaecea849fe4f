use Rattle.std.proofs.Common.{◌≡◌, ◌<◌, ◌+◌, ◌-◌, length, map, Some, refl, ap, sym, subst, ◌∙◌, arith}
use Rattle.std.specs.Prelude.{slice_set}
use Rattle.std.proofs.lemmas.List.{length-set}
use Rattle.esm_loads.specs.declared.data.Waiting.{Waiting}
use Rattle.esm_loads.specs.Inner.Requests.{QueuesView, queue_items, queue_at}
use Rattle.esm_loads.proofs.Places.{index_get, map_long, set_map}
use Rattle.esm_loads.proofs.Counts.{counted_same, counted_pop, count_first, queue_is, set_queue}
use Rattle.std.specs.Prelude.{All}
use Rattle.std.proofs.lemmas.List.Elements.{All-head}
use Rattle.esm_loads.specs.Inner.Counts.{AreOfLoads}
use Rattle.esm_loads.proofs.Places.{all_get}
use Rattle.esm_loads.proofs.queues.Queues.pop.Goals as goal

pub overflow_sub-index_mut : goal.overflow_sub-index_mut
overflow_sub-index_mut c =
    let qs = c.self.inside.queues.items in
    let k = c.args.place in
    let q = c.index_mut.result.now in
    let inside : k < length qs = omega (arith, c.requires, map_long queue_items qs, ap (λ (v : QueuesView). length v.queues) c.self.view_is) in
    let at = index_get qs k q inside c.index_mut.ensures.value in
    let w = c.in-Some.waiting in
    let counts = c.self.inside.counts.items in
    let within : w.load < length counts = All-head (λ (w : Waiting). w.load < length counts) w c.take_first.new.queue.items (subst (All (λ (w : Waiting). w.load < length counts)) c.in-Some.ensures.some (all_get (AreOfLoads (length counts)) qs k q c.self.invariant.within at)) in
    let here = index_get counts w.load c.index_mut-in-Some.result.now within c.index_mut-in-Some.ensures.value in
    let first = count_first qs k q w c.take_first.new.queue.items at c.in-Some.ensures.some in
    let is = c.self.invariant.counted w.load c.index_mut-in-Some.result.now here in
    omega (arith, first, is)

pub invariant_of-self : goal.invariant_of-self
invariant_of-self c =
    let qs = c.self.inside.queues.items in
    let k = c.args.place in
    let q = c.index_mut.result.now in
    let inside : k < length qs = omega (arith, c.requires, map_long queue_items qs, ap (λ (v : QueuesView). length v.queues) c.self.view_is) in
    let at = index_get qs k q inside c.index_mut.ensures.value in
    let w = c.in-Some.waiting in
    let counts = c.self.inside.counts.items in
    let within : w.load < length counts = All-head (λ (w : Waiting). w.load < length counts) w c.take_first.new.queue.items (subst (All (λ (w : Waiting). w.load < length counts)) c.in-Some.ensures.some (all_get (AreOfLoads (length counts)) qs k q c.self.invariant.within at)) in
    let here = index_get counts w.load c.index_mut-in-Some.result.now within c.index_mut-in-Some.ensures.value in
    let first = count_first qs k q w c.take_first.new.queue.items at c.in-Some.ensures.some in
    let is = c.self.invariant.counted w.load c.index_mut-in-Some.result.now here in
    let less : c.index_mut-in-Some.result.now ≡ (c.index_mut-in-Some.result.now - 1) + 1 = omega (arith, first, is) in
    counted_pop qs counts k q c.take_first.new.queue w (c.index_mut-in-Some.result.now - 1) c.self.invariant at c.in-Some.ensures.some (here ∙ ap (λ n. Some n) less)

pub invariant_of-self-in-None : goal.invariant_of-self-in-None
invariant_of-self-in-None c =
    let qs = c.self.inside.queues.items in
    let k = c.args.place in
    let q = c.index_mut.result.now in
    let inside : k < length qs = omega (arith, c.requires, map_long queue_items qs, ap (λ (v : QueuesView). length v.queues) c.self.view_is) in
    let at = index_get qs k q inside c.index_mut.ensures.value in
    let none = c.in-None.ensures.none refl in
    counted_same qs c.self.inside.counts.items k q c.take_first.new.queue c.self.invariant at (none.1 ∙ sym none.0)

pub returns-in-Some : goal.returns-in-Some
returns-in-Some c =
    let qs = c.self.inside.queues.items in
    let k = c.args.place in
    let q = c.index_mut.result.now in
    let inside : k < length qs = omega (arith, c.requires, map_long queue_items qs, ap (λ (v : QueuesView). length v.queues) c.self.view_is) in
    let at = index_get qs k q inside c.index_mut.ensures.value in
    let w = c.in-Some.waiting in
    let counts = c.self.inside.counts.items in
    let within : w.load < length counts = All-head (λ (w : Waiting). w.load < length counts) w c.take_first.new.queue.items (subst (All (λ (w : Waiting). w.load < length counts)) c.in-Some.ensures.some (all_get (AreOfLoads (length counts)) qs k q c.self.invariant.within at)) in
    let rest = c.take_first.new.queue.items in
    let queues : map queue_items (slice_set qs k c.take_first.new.queue) ≡ slice_set c.args.self.now.queues k rest =
    set_map queue_items qs k c.take_first.new.queue ∙ ap (λ (v : QueuesView). slice_set v.queues k rest) c.self.view_is in
    let loads : length (slice_set c.self.inside.counts.items w.load (c.index_mut-in-Some.result.now - 1)) ≡ c.args.self.now.loads = length-set c.self.inside.counts.items w.load (c.index_mut-in-Some.result.now - 1) ∙ ap (λ (v : QueuesView). v.loads) c.self.view_is in
    (rest, ap (λ (v : QueuesView). queue_at v.queues k) (sym c.self.view_is) ∙ (queue_is qs k q at ∙ c.in-Some.ensures.some), (λ i. record { queues = queues i; loads = loads i }), omega (arith, within, ap (λ (v : QueuesView). v.loads) c.self.view_is))

pub returns-in-None : goal.returns-in-None
returns-in-None c =
    let qs = c.self.inside.queues.items in
    let k = c.args.place in
    let q = c.index_mut.result.now in
    let inside : k < length qs = omega (arith, c.requires, map_long queue_items qs, ap (λ (v : QueuesView). length v.queues) c.self.view_is) in
    let at = index_get qs k q inside c.index_mut.ensures.value in
    let none = c.in-None.ensures.none refl in
    let queues : map queue_items (slice_set qs k c.take_first.new.queue) ≡ c.args.self.now.queues =
    set_map queue_items qs k c.take_first.new.queue ∙ (ap (slice_set (map queue_items qs) k) (none.1 ∙ (sym none.0 ∙ sym (queue_is qs k q at))) ∙ (set_queue (map queue_items qs) k ∙ ap (λ (v : QueuesView). v.queues) c.self.view_is)) in
    (ap (λ (v : QueuesView). queue_at v.queues k) (sym c.self.view_is) ∙ (queue_is qs k q at ∙ none.0), λ i. record { queues = queues i; loads = ap (λ (v : QueuesView). v.loads) c.self.view_is i })

pub index_mut-requires-in-Some : goal.index_mut-requires-in-Some
index_mut-requires-in-Some c =
    let qs = c.self.inside.queues.items in
    let k = c.args.place in
    let q = c.index_mut.result.now in
    let inside : k < length qs = omega (arith, c.requires, map_long queue_items qs, ap (λ (v : QueuesView). length v.queues) c.self.view_is) in
    let at = index_get qs k q inside c.index_mut.ensures.value in
    let w = c.in-Some.waiting in
    let counts = c.self.inside.counts.items in
    let within : w.load < length counts = All-head (λ (w : Waiting). w.load < length counts) w c.take_first.new.queue.items (subst (All (λ (w : Waiting). w.load < length counts)) c.in-Some.ensures.some (all_get (AreOfLoads (length counts)) qs k q c.self.invariant.within at)) in
    omega (arith, within, c.self.inside.counts.ok.0)
