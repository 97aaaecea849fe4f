use Rattle.std.proofs.Common.{◌≡◌, ◌∙◌, Some, ap, sym, subst, arith, length, drop, ◌++◌, []}
use Rattle.std.specs.Prelude.{All}
use Rattle.std.proofs.lemmas.List.{length-map, take-append-drop}
use Rattle.std.proofs.lemmas.List.Elements.{All-take, All-drop}
use Rattle.esm_module_map.specs.Views.{view_in}
use Rattle.esm_record.specs.Delivered.{deliveries_of}
use Rattle.esm_run.specs.Inner.Leading.{IsShared}
use Rattle.esm_run.proofs.ReportLemmas.{graph_none, graph_of}
use Rattle.esm_run.proofs.workers.run_graph.Goals as goal

pub returns-in_default : goal.returns-in_default
returns-in_default g c = graph_none g.S.Source.asked g.S.Source.holds _ _ _ _ c.unrun.result.machine _ c.args.sources.items c.unrun.result.sources.items c.requires.fresh c.unrun.ensures.machine (ap deliveries_of c.unrun.ensures.taken) (ap (λ v. v.items) c.unrun.ensures.sources)

pub returns-in_default-split_off : goal.returns-in_default-split_off
returns-in_default-split_off g c = graph_none g.S.Source.asked g.S.Source.holds _ _ _ _ c.unrun-in_default-split_off.result.machine _ c.args.sources.items c.unrun-in_default-split_off.result.sources.items c.requires.fresh c.unrun-in_default-split_off.ensures.machine (ap deliveries_of c.unrun-in_default-split_off.ensures.taken) (ap (λ v. v.items) (c.unrun-in_default-split_off.ensures.sources ∙ c.in_default-split_off.ensures.err))

pub with_workers-led-requires-clause-many : goal.with_workers-led-requires-clause-many
with_workers-led-requires-clause-many g c = let a = c.in-Ok-split_off.ensures.len in let b = c.split_off.new.self.ok.0 in let d = c.in-Ok.ensures.many in let e = c.requires.some in omega (arith, a, b, d, e)

pub with_workers-led-requires-clause-fresh : goal.with_workers-led-requires-clause-fresh
with_workers-led-requires-clause-fresh g c = λ κs lives. subst (All (λ s. g.S.Source.asked s ≡ [])) (sym c.in-Ok-split_off.ensures.items) (All-take (λ s. g.S.Source.asked s ≡ []) c.args.workers c.args.sources.items c.requires.fresh)

pub with_workers-led-requires-clause-guide : goal.with_workers-led-requires-clause-guide
with_workers-led-requires-clause-guide g c = λ κs lives. c.in-Ok.ensures.guide ∙ ap Some (sym c.in-Ok.ensures.map)

pub with_workers-led-requires-clause-guides : goal.with_workers-led-requires-clause-guides
with_workers-led-requires-clause-guides g c = λ κs lives. rw (← c.in-Ok.ensures.map) at c.in-Ok.ensures.guides

pub returns : goal.returns
returns g c =
    let led = c.with_workers-led.result in
    let v = view_in led.caller.pass in
    let cut = c.in-Ok-split_off in
    let shares : v.shares ≡ 1024 = (let a = c.with_workers-led.ensures.shares in let b = c.in-Ok.ensures.shares in let d = c.in-Ok.ensures.many in omega (arith, a, b, d)) in
    let many : length c.split_off.new.self.items ≡ c.args.workers = (let a = cut.ensures.len in let b = c.split_off.new.self.ok.0 in omega (arith, a, b)) in
    let given : c.args.sources.items ≡ c.split_off.new.self.items ++ cut.rest.items = sym (take-append-drop c.args.workers c.args.sources.items) ∙ ap (λ l. l ++ drop c.args.workers c.args.sources.items) (sym cut.ensures.items) ∙ ap (λ l. c.split_off.new.self.items ++ l) (sym cut.ensures.tail) in
    graph_of g.S.Source.asked g.S.Source.holds c.has_standard_run.ensures c.deliveries.ensures.once c.callers.ensures.posts c.callers.ensures.takes c.callers.ensures.once c.args.map c.args.entry.now c.args.trace c.args.workers v led.machine (deliveries_of led.taken.items)
    c.split_off.new.self.items cut.rest.items led.sources.items c.args.sources.items c.append.new.self.items
    led.caller.legal shares c.with_workers-led.ensures.makers
    (subst (λ m. IsShared g.S.Source.holds g.S.Source.asked m c.args.entry.now c.args.trace v led.machine (deliveries_of led.taken.items) led.sources.items) c.in-Ok.ensures.map c.with_workers-led.ensures.led)
    given (rw c.in-Ok-append.is at c.append.ensures.items) many
    (subst (All (λ s. g.S.Source.asked s ≡ [])) (sym cut.ensures.tail) (All-drop (λ s. g.S.Source.asked s ≡ []) c.args.workers c.args.sources.items c.requires.fresh))
    c.with_workers-led.ensures.kept

pub unreachable-requires : goal.unreachable-requires
unreachable-requires g c =
    let kept = ap length c.with_workers-led.ensures.kept in
    let a = length-map c.with_workers-led.result.sources.items g.S.Source.holds in
    let b = length-map c.split_off.new.self.items g.S.Source.holds in
    let full = c.in_default-append.ensures.full in let room = c.with_workers-led.ensures.room in let cap = c.in-Ok-split_off.ensures.capacity in
    let tail = c.in-Ok-split_off.ensures.tail_len in let len = c.in-Ok-split_off.ensures.len in
    let led = c.with_workers-led.result.sources.ok in let cut = c.split_off.new.self.ok in let given = c.args.sources.ok in
    omega (arith, kept, a, b, full, room, cap, tail, len, led, cut, given)
