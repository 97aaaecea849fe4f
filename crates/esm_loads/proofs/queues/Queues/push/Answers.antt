use Rattle.std.proofs.Common.{◌≡◌, ◌<◌, ◌+◌, ◌++◌, [], ◌∷◌, length, map, ap, sym, ◌∙◌, arith}
use Rattle.std.specs.Prelude.{slice_set}
use Rattle.std.proofs.lemmas.List.{length-set}
use Rattle.esm_loads.specs.Inner.Requests.{QueuesView, queue_items, push_at}
use Rattle.esm_loads.proofs.Places.{index_get, map_long, set_map}
use Rattle.esm_loads.proofs.Counts.{counted_same, counted_push, count_fits, queue_is}
use Rattle.esm_loads.proofs.queues.Queues.push.Goals as goal

pub invariant_of-self : goal.invariant_of-self
invariant_of-self c =
    let qs = c.self.inside.queues.items in
    let inside : c.args.place < length qs = omega (arith, c.requires.place, map_long queue_items qs, ap (λ (v : QueuesView). length v.queues) c.self.view_is) in
    let at = index_get qs c.args.place c.index_mut.result.now inside c.index_mut.ensures.value in
    counted_same qs c.self.inside.counts.items c.args.place c.index_mut.result.now c.push_back.new.self c.self.invariant at c.in_err-push_back.ensures.items

pub overflow_add-index_mut : goal.overflow_add-index_mut
overflow_add-index_mut c =
    let qs = c.self.inside.queues.items in
    let inside : c.args.waiting.load < length c.self.inside.counts.items = omega (arith, c.requires.load, ap (λ (v : QueuesView). v.loads) c.self.view_is) in
    let here = index_get c.self.inside.counts.items c.args.waiting.load c.index_mut-2.result.now inside c.index_mut-2.ensures.value in
    let is = c.self.invariant.counted c.args.waiting.load c.index_mut-2.result.now here in
    let fits = count_fits c.args.waiting.load qs in
    omega (arith, is, fits, c.self.inside.queues.ok.0, c.self.inside.queues.small)

pub invariant_of-self-2 : goal.invariant_of-self-2
invariant_of-self-2 c =
    let qs = c.self.inside.queues.items in
    let inside : c.args.place < length qs = omega (arith, c.requires.place, map_long queue_items qs, ap (λ (v : QueuesView). length v.queues) c.self.view_is) in
    let at = index_get qs c.args.place c.index_mut.result.now inside c.index_mut.ensures.value in
    let within : c.args.waiting.load < length c.self.inside.counts.items = omega (arith, c.requires.load, ap (λ (v : QueuesView). v.loads) c.self.view_is) in
    let here = index_get c.self.inside.counts.items c.args.waiting.load c.index_mut-2.result.now within c.index_mut-2.ensures.value in
    counted_push qs c.self.inside.counts.items c.args.place c.index_mut.result.now c.push_back.new.self c.args.waiting c.index_mut-2.result.now c.self.invariant at c.in_ok-push_back.ensures.items here within

pub returns : goal.returns
returns c =
    let qs = c.self.inside.queues.items in
    let k = c.args.place in
    let w = c.args.waiting in
    let q = c.index_mut.result.now in
    let inside : k < length qs = omega (arith, c.requires.place, map_long queue_items qs, ap (λ (v : QueuesView). length v.queues) c.self.view_is) in
    let at = index_get qs k q inside c.index_mut.ensures.value in
    let queues : map queue_items (slice_set qs k c.push_back.new.self) ≡ push_at c.args.self.now.queues k w =
    set_map queue_items qs k c.push_back.new.self ∙ (ap (slice_set (map queue_items qs) k) (c.in_ok-push_back.ensures.items ∙ ap (λ ws. ws ++ w ∷ []) (sym (queue_is qs k q at))) ∙ ap (λ (v : QueuesView). push_at v.queues k w) c.self.view_is) in
    let loads : length (slice_set c.self.inside.counts.items w.load (c.index_mut-2.result.now + 1)) ≡ c.args.self.now.loads = length-set c.self.inside.counts.items w.load (c.index_mut-2.result.now + 1) ∙ ap (λ (v : QueuesView). v.loads) c.self.view_is in
    λ i. record { queues = queues i; loads = loads i }
