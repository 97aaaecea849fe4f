use Rattle.std.proofs.Common.{ap, ◌∙◌, inr}
use Rattle.esm_ports.specs.Asks.{asks_with}
use Rattle.esm_fetch.specs.Answered.{kind_of}
use Rattle.esm_ast.specs.Outcome.{outcome_view}
use Rattle.esm_fetch.proofs.ServingLemmas.{with_kind}
use Rattle.esm_fetch.proofs.working.fetch_order.Goals as goal

pub returns-in_default-clause-memory : goal.returns-in_default-clause-memory
returns-in_default-clause-memory g c = with_kind (g.S.Source.asked c.args.source.now) (g.S.Source.asked c.fetch_outcome.new.source) c.args.order.now.url c.url.result.now c.url.ensures c.in_default.ensures.memory

pub returns-in_default-resolve_ahead-clause-memory : goal.returns-in_default-resolve_ahead-clause-memory
returns-in_default-resolve_ahead-clause-memory g c = inr (kind_of (outcome_view c.in-Ok.outcome), c.in-Ok.ensures.asked ∙ ap (λ u. asks_with (g.S.Source.asked c.args.source.now) u (kind_of (outcome_view c.in-Ok.outcome))) c.url.ensures)

pub returns-in_default-new-clause-memory : goal.returns-in_default-new-clause-memory
returns-in_default-new-clause-memory g c = inr (kind_of (outcome_view c.in-Ok.outcome), c.in-Ok.ensures.asked ∙ ap (λ u. asks_with (g.S.Source.asked c.args.source.now) u (kind_of (outcome_view c.in-Ok.outcome))) c.url.ensures)
