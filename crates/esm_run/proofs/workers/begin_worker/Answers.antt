use Rattle.std.proofs.Common.{◌≡◌, ◌∙◌, Some, ap, sym, subst, ℕ, [], ◌∷◌}
use Rattle.esm_module_map.specs.Views.{view_in}
use Rattle.esm_module_map.specs.Histories.{asks_by}
use Rattle.esm_fetch.specs.Serving.{weight}
use Rattle.esm_run.proofs.SharedLemmas.{serves_nothing, served_if_next}
use Rattle.esm_run.proofs.workers.begin_worker.Goals as goal

pub worker-requires-clause-served : goal.worker-requires-clause-served
worker-requires-clause-served g c = serves_nothing (g.S.Source.holds c.args.source) (g.S.Source.asked c.args.source) c.args.caller.number (view_in c.args.caller.pass) c.requires.new c.requires.fresh

pub worker-requires-clause-guide : goal.worker-requires-clause-guide
worker-requires-clause-guide g c = c.requires.guide ∙ ap Some (sym c.deref.ensures)

pub returns-clause-numbers : goal.returns-clause-numbers
returns-clause-numbers g c = c.worker.ensures.same.0.2 ∙ c.requires.new.own ∙ ap (λ (n : ℕ). n ∷ []) (sym c.worker.ensures.same.1)

pub returns-clause-end : goal.returns-clause-end
returns-clause-end g c = served_if_next c.worker.result.short (g.S.Source.holds c.args.source) (g.S.Source.holds c.worker.result.source) (g.S.Source.asked c.worker.result.source) c.args.caller.number c.worker.result.caller.number (view_in c.worker.result.caller.pass).seen
    c.worker.ensures.holds c.worker.ensures.same.1 c.worker.ensures.served

pub returns-clause-unasked : goal.returns-clause-unasked
returns-clause-unasked g c = subst (λ n. asks_by weight n (view_in c.worker.result.caller.pass).seen ≡ []) (sym c.worker.ensures.same.1) (c.worker.ensures.asks ∙ c.requires.new.unasked)
