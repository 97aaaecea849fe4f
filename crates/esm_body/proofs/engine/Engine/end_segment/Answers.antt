use Rattle.esm_values.specs.Code.{value_of}
use Rattle.esm_values.specs.Value.{Undefined}
use Rattle.esm_promise.specs.Promises.Settled.{Fulfilled, Rejected}
use Rattle.esm_body.specs.declared.engine.Event.TheVariants as events
use Rattle.esm_body.proofs.EndLemmas.{ends_normal, ends_thrown, ends_waiting, stays_settled}
use Rattle.esm_body.proofs.engine.Engine.end_segment.Goals as goal

pub returns-in-Normal-clause-ends : goal.returns-in-Normal-clause-ends
returns-in-Normal-clause-ends g c = λ sc es.
    rw c.in-Normal.is (ends_normal c.args.self.now c.settle_end.new.self sc c.args.promises.now c.settle_end.new.promises es (g.I.Importer.seen c.args.imports.now) (g.I.Importer.urls c.args.imports.now) c.args.m c.args.done c.args.halt.body c.settle_end.result (rw c.url.ensures at c.settle_end.ensures))

pub returns-in-Normal-clause-stands : goal.returns-in-Normal-clause-stands
returns-in-Normal-clause-stands g c =
    rw c.in-Normal.is (stays_settled c.args.self.now c.settle_end.new.self c.args.promises.now c.settle_end.new.promises (events.Ends c.args.m) c.url.result.now c.args.done.0 (Fulfilled Undefined) c.settle_end.result c.settle_end.ensures)

pub returns-in-Thrown-clause-ends : goal.returns-in-Thrown-clause-ends
returns-in-Thrown-clause-ends g c = λ sc es.
    rw c.in-Thrown.is (ends_thrown c.args.self.now c.settle_end-in-Thrown.new.self sc c.args.promises.now c.settle_end-in-Thrown.new.promises es (g.I.Importer.seen c.args.imports.now) (g.I.Importer.urls c.args.imports.now) c.args.m c.args.done c.in-Thrown.value c.args.halt.body c.settle_end-in-Thrown.result (rw c.url-in-Thrown.ensures at c.settle_end-in-Thrown.ensures))

pub returns-in-Thrown-clause-stands : goal.returns-in-Thrown-clause-stands
returns-in-Thrown-clause-stands g c =
    rw c.in-Thrown.is (stays_settled c.args.self.now c.settle_end-in-Thrown.new.self c.args.promises.now c.settle_end-in-Thrown.new.promises (events.Throws c.args.m) c.url-in-Thrown.result.now c.args.done.0 (Rejected (value_of c.in-Thrown.value)) c.settle_end-in-Thrown.result c.settle_end-in-Thrown.ensures)

pub returns-in-Ok-clause-ends : goal.returns-in-Ok-clause-ends
returns-in-Ok-clause-ends g c = λ sc es.
    rw c.in-Awaits.is (ends_waiting c.args.self.now c.stand.new.self sc c.args.promises.now c.stand.new.promises es (g.I.Importer.seen c.args.imports.now) (g.I.Importer.urls c.args.imports.now) c.args.m c.args.done c.in-Awaits.value c.in-Awaits.purpose c.args.halt.body c.requires c.in-Ok.ensures)

pub returns-in-Ok-clause-stands : goal.returns-in-Ok-clause-stands
returns-in-Ok-clause-stands g c = rw c.in-Awaits.is c.in-Ok.ensures.items
