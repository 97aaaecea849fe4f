use Rattle.std.proofs.Common.{ap, sym, ◌∙◌}
use Rattle.esm_ast.specs.Outcome.{outcome_view}
use Rattle.esm_ast.specs.Entries.{requests_of}
use Rattle.esm_ast.specs.Script.{ScriptParts}
use Rattle.esm_fetch.specs.Answered.{requests_in}
use Rattle.esm_fetch.proofs.ServingLemmas.{ahead_as, requests_are}
use Rattle.esm_fetch.proofs.fetch.resolve_ahead.Goals as goal

pub returns-in-Script : goal.returns-in-Script
returns-in-Script c = ahead_as c.args.guide.now c.args.url.now c.requests.result.now (requests_in (outcome_view c.args.outcome.now)) c.resolve_few.result
    (c.requests.ensures ∙ requests_are _ _ (c.entries.ensures.entries ∙ c.entries.ensures.of_tree) ∙ ap (λ (s : ScriptParts). requests_of s.tree.items) c.deref.ensures ∙ sym (ap (λ o. requests_in (outcome_view o)) c.in-Script.is)) c.resolve_few.ensures
