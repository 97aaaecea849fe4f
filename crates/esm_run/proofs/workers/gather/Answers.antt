use Rattle.std.proofs.Common.{◌∙◌, ap, map, [], ◌∷◌}
use Rattle.std.proofs.lemmas.List.{map-append}
use Rattle.esm_module_map.specs.Views.{view_in}
use Rattle.esm_run.proofs.SharedLemmas.{gathered}
use Rattle.esm_run.proofs.workers.gather.Goals as goal

pub returns-clause-kept : goal.returns-clause-kept
returns-clause-kept g c = ap (map g.S.Source.holds) c.push_reserved.ensures.items ∙ map-append g.S.Source.holds c.args.led.sources.items (c.args.end.source ∷ [])

pub returns-clause-led : goal.returns-clause-led
returns-clause-led g c = λ maps entry trace shared.
    gathered g.S.Source.holds g.S.Source.asked c.urls_stay.ensures c.posts_stay.ensures maps entry trace (view_in c.args.led.caller.pass) (view_in c.args.end.caller.pass) (view_in c.meet-caller.result.pass) c.args.led.machine _ _ c.args.led.sources.items c.push_reserved.new.self.items c.args.end.caller.number c.args.end.source c.args.end.short
    (c.meet-caller.ensures.one.0, c.meet-caller.ensures.one.1) c.meet-caller.ensures.says_one c.meet-caller.ensures.says_other c.meet-caller.ensures.numbers c.requires.numbers c.requires.end c.requires.unasked c.push_reserved.ensures.items c.unless_short.ensures shared
