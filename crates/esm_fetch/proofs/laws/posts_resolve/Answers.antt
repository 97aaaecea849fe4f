use Rattle.esm_ast.specs.Outcome.{outcome_view}
use Rattle.esm_fetch.specs.Answered.{requests_in}
use Rattle.esm_fetch.proofs.ServingLemmas.{resolved_ahead}
use Rattle.esm_fetch.proofs.laws.posts_resolve.Goals as goal

pub returns : goal.returns
returns c = λ maps n u p h fit guide at posted. resolved_ahead c.targets_are_tested.ensures maps u (requests_in (outcome_view p.outcome)) p.targets (c.posts_fit.ensures n u p h fit at posted maps guide)
