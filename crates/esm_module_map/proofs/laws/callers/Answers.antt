use Rattle.esm_module_map.proofs.Traces.{posts_are_answers, takes_were_asked, taken_once_by_makers}
use Rattle.esm_module_map.proofs.laws.callers.Goals as goal

pub returns-clause-posts : goal.returns-clause-posts
returns-clause-posts g c = posts_are_answers g.P.Payload.weight

pub returns-clause-takes : goal.returns-clause-takes
returns-clause-takes g c = takes_were_asked g.P.Payload.weight

pub returns-clause-once : goal.returns-clause-once
returns-clause-once g c = taken_once_by_makers g.P.Payload.weight
