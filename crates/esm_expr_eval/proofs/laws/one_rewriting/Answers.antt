use Rattle.esm_expr_eval.proofs.OneEnd.{rewrites_once}
use Rattle.esm_expr_eval.proofs.laws.one_rewriting.Goals as goal

pub returns : goal.returns
returns g c = rewrites_once g.W.World.url_of g.W.World.acts
