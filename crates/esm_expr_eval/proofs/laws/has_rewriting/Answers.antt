use Rattle.esm_expr_eval.proofs.SomeRewriting.{has_rewriting}
use Rattle.esm_expr_eval.proofs.laws.has_rewriting.Goals as goal

pub returns : goal.returns
returns g c = has_rewriting g.W.World.url_of g.W.World.acts
