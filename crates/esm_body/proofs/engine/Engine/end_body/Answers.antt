use Rattle.esm_values.specs.declared.value.Ran.TheVariants as r
use Rattle.esm_body.specs.declared.engine.Event.TheVariants as events
use Rattle.esm_body.proofs.EndLemmas.{runs_normal, runs_thrown, stays_ran}
use Rattle.esm_body.proofs.engine.Engine.end_body.Goals as goal

pub returns-in-Normal-clause-ends : goal.returns-in-Normal-clause-ends
returns-in-Normal-clause-ends g c = λ now sc ps es.
    rw c.in-Normal.is (runs_normal c.args.self.now c.note_ran.new.self sc ps es (g.I.Importer.seen c.args.imports.now) (g.I.Importer.urls c.args.imports.now) c.args.m now c.note_ran.result (rw c.url.ensures at c.note_ran.ensures))

pub returns-in-Normal-clause-stands : goal.returns-in-Normal-clause-stands
returns-in-Normal-clause-stands g c = stays_ran c.args.self.now c.note_ran.new.self (events.Ends c.args.m) c.url.result.now r.Normal c.note_ran.result c.note_ran.ensures

pub returns-in-Thrown-clause-ends : goal.returns-in-Thrown-clause-ends
returns-in-Thrown-clause-ends g c = λ now sc ps es.
    rw c.in-Thrown.is (runs_thrown c.args.self.now c.note_ran-in-Thrown.new.self sc ps es (g.I.Importer.seen c.args.imports.now) (g.I.Importer.urls c.args.imports.now) c.args.m c.in-Thrown.value now c.note_ran-in-Thrown.result (rw c.url-in-Thrown.ensures at c.note_ran-in-Thrown.ensures))

pub returns-in-Thrown-clause-stands : goal.returns-in-Thrown-clause-stands
returns-in-Thrown-clause-stands g c = stays_ran c.args.self.now c.note_ran-in-Thrown.new.self (events.Throws c.args.m) c.url-in-Thrown.result.now (r.Thrown c.in-Thrown.value) c.note_ran-in-Thrown.result c.note_ran-in-Thrown.ensures
