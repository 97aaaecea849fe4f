use Rattle.std.proofs.Common.{◌∙◌, subst, arith}
use Rattle.esm_module_map.specs.Views.{view_in}
use Rattle.esm_module_map.specs.Saying.{ShutSays}
use Rattle.esm_fetch.specs.Serving.{weight}
use Rattle.esm_run.proofs.SharedLemmas.{serves_nothing, led_alone, first_fresh, kept_alone}
use Rattle.esm_run.proofs.lead.lead.Goals as goal

pub drive-driven-requires-clause-served : goal.drive-driven-requires-clause-served
drive-driven-requires-clause-served g c = serves_nothing (g.S.Source.holds c.index_mut.result.now) (g.S.Source.asked c.index_mut.result.now) c.args.caller.number (view_in c.args.caller.pass) c.requires.new (first_fresh g.S.Source.asked c.args.sources.items c.index_mut.result.now c.requires.one c.index_mut.ensures.value c.requires.fresh)

pub drive-driven-requires-clause-unasked : goal.drive-driven-requires-clause-unasked
drive-driven-requires-clause-unasked g c = c.requires.new.unasked

pub returns-clause-kept : goal.returns-clause-kept
returns-clause-kept g c = kept_alone g.S.Source.holds c.args.sources.items c.index_mut.result.now c.drive-driven.new.source c.requires.one c.index_mut.ensures.value c.drive-driven.ensures.holds

pub returns-clause-shares : goal.returns-clause-shares
returns-clause-shares g c = c.shut.ensures.same.0.1 ∙ c.drive-driven.ensures.same.0.1

pub returns-clause-led : goal.returns-clause-led
returns-clause-led g c =
    let n = c.args.caller.number in
    let says = subst (λ m. ShutSays weight m (view_in c.drive-driven.new.caller.pass).seen (view_in c.shut.new.caller.pass).seen) c.drive-driven.ensures.same.1 c.shut.ensures.says in
    led_alone g.S.Source.holds g.S.Source.asked c.urls_stay.ensures c.posts_stay.ensures _ _ _ (view_in c.drive-driven.new.caller.pass) (view_in c.shut.new.caller.pass) c.drive-driven.result c.ok.result _ n c.args.sources.items c.index_mut.result.now c.drive-driven.new.source
    (c.shut.ensures.same.0.2 ∙ c.drive-driven.ensures.same.0.2 ∙ c.requires.new.own) says c.requires.one c.index_mut.ensures.value c.drive-driven.ensures.served c.drive-driven.ensures.holds c.drive-driven.ensures.ends c.ok.ensures.value

pub index_mut-requires : goal.index_mut-requires
index_mut-requires g c = let a = c.requires.one in let b = c.args.sources.ok.0 in omega (arith, a, b)
