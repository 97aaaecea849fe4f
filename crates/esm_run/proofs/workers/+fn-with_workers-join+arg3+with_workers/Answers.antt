use Rattle.std.proofs.Common.{ap, ◌∙◌, map, ◌++◌, ◌∷◌, []}
use Rattle.esm_run.proofs.SharedLemmas.{kept_on}
use Rattle.esm_run.proofs.workers.+fn-with_workers-join+arg3+with_workers.Goals as goal

pub returns-in-Some-pop-clause-led : goal.returns-in-Some-pop-clause-led
returns-in-Some-pop-clause-led g t c = c.gather.ensures.led _ _ _ c.join-end.ensures.second.1

pub returns-in-Some-pop-clause-kept : goal.returns-in-Some-pop-clause-kept
returns-in-Some-pop-clause-kept g t c = kept_on g.S.Source.holds c.args.sources.items c.pop-in-Some.new.self.items c.in-Some-pop.source c.join-end.result.0.source (map g.S.Source.holds c.gather.result.sources.items) c.in-Some-pop.ensures.items c.join-end.ensures.first.5
    (c.gather.ensures.kept ∙ ap (λ l. l ++ g.S.Source.holds c.join-end.result.0.source ∷ []) c.join-end.ensures.second.0.2)
