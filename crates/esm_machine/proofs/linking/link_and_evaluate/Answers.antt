use Rattle.std.proofs.Common.{ap}
use Rattle.std.specs.Prelude.{Ok}
use Rattle.esm_machine.proofs.RootJobs.{comes}
use Rattle.esm_machine.proofs.linking.link_and_evaluate.Goals as goal

pub root_of_load-requires : goal.root_of_load-requires
root_of_load-requires c = record { whole = c.requires.ready.order.whole }

pub evaluate_unless-requires-clause-linked : goal.evaluate_unless-requires-clause-linked
evaluate_unless-requires-clause-linked c e = c.in-Ok.ensures.linked (ap (λ x. Ok x) e)

pub returns-in-Ok-clause-comes : goal.returns-in-Ok-clause-comes
returns-in-Ok-clause-comes c w live =
    comes c.args.parts.now c.link_root.new.parts c.evaluate_unless.new.parts c.args.load c.in-Some.root.0 c.in-Some.ensures.root c.in-Ok.ensures.urls c.in-Ok.error c.evaluate_unless.result c.in-Ok.ensures.links c.evaluate_unless.ensures.comes w live
