use Rattle.esm_body.proofs.Shown.{weaker}
use Rattle.esm_body.proofs.going.begun.Goals as goal

pub returns : goal.returns
returns c = weaker _ _ (λ a h. (c.in-Some.scope.now, c.in-Some.ensures, h)) c.body.result c.body.ensures
