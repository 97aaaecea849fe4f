use Rattle.std.proofs.Common.{subst, sym}
use Rattle.std.specs.Prelude.{Ok, Err}
use Rattle.esm_machine.specs.Inner.Leads.{EvaluatesModule}
use Rattle.esm_machine.specs.Inner.Parts.{url_in}
use Rattle.esm_machine.proofs.BodyEnds.{with_host}
use Rattle.esm_machine.proofs.EvaluateJobs.{evaluates_ok, evaluates_stop, target_linked}
use Rattle.esm_machine.proofs.HostOrder.{evaluated_in_order}
use Rattle.esm_machine.proofs.ReadyHost.{host_fits}
use Rattle.esm_machine.proofs.linking.evaluate_root.Goals as goal

pub evaluate-requires-clause-whole : goal.evaluate-requires-clause-whole
evaluate-requires-clause-whole c =
    let p = c.args.parts.now in
    c.hosts_may_evaluate.ensures p.host c.args.root.0 (host_fits p c.requires.ready) (target_linked p c.requires.ready) c.requires.linked

pub evaluate-requires-clause-between : goal.evaluate-requires-clause-between
evaluate-requires-clause-between c = c.requires.ready.order.between

pub evaluate-requires-clause-fits : goal.evaluate-requires-clause-fits
evaluate-requires-clause-fits c = host_fits c.args.parts.now c.requires.ready

pub returns-in-Ok-clause-evaluates : goal.returns-in-Ok-clause-evaluates
returns-in-Ok-clause-evaluates c w live =
    evaluates_ok c.args.parts.now c.requires.ready c.evaluate.new.desk c.args.root.0 c.requires.linked c.in-Ok.promise c.in-Ok.ensures.evaluates w live

pub returns-in-Ok-clause-order : goal.returns-in-Ok-clause-order
returns-in-Ok-clause-order c =
    evaluated_in_order c.args.parts.now c.evaluate.new.desk c.requires.ready.order c.evaluate.ensures.size c.in-Ok.ensures.between c.in-Ok.ensures.fits c.args.root.0 (Ok c.in-Ok.promise.0) c.in-Ok.ensures.evaluates

pub returns-in-Err-clause-evaluates : goal.returns-in-Err-clause-evaluates
returns-in-Err-clause-evaluates c w live =
    subst (λ e. EvaluatesModule w (url_in c.args.parts.now c.args.root.0) (Err e) (with_host c.args.parts.now c.evaluate.new.desk)) (sym c.turn_end.ensures)
    (evaluates_stop c.args.parts.now c.requires.ready c.evaluate.new.desk c.args.root.0 c.requires.linked c.in-Err.end c.in-Err.ensures.evaluates w live)
