use Rattle.std.proofs.Common.{ap, refl, sym, subst}
use Rattle.std.specs.Prelude.{Some}
use Rattle.esm_base.specs.declared.status.Status.TheVariants.{Usage}
use Rattle.esm_record.specs.Delivered.{deliveries_of}
use Rattle.esm_run.specs.Written.{EndsWith, change_of, usage_text}
use Rattle.esm_run.specs.Report.{WordsUnread, UsageShown, GeneratedRun}
use Rattle.esm_run.proofs.top.run_other_words.Goals as goal

pub run_generated-requires-clause-some : goal.run_generated-requires-clause-some
run_generated-requires-clause-some g c = λ κs lives. let found = rw c.in-Ok-Some.field-0-is at c.in-Ok-Some.ensures.workers in found.0

pub run_generated-requires-clause-few : goal.run_generated-requires-clause-few
run_generated-requires-clause-few g c = λ κs lives. let found = rw c.in-Ok-Some.field-0-is at c.in-Ok-Some.ensures.workers in found.1

pub returns-in-Ok-Some : goal.returns-in-Ok-Some
returns-in-Ok-Some g c = λ desk unasked.
    GeneratedRun c.in-Ok-Some.generation c.requires.none (sym (rw c.in-Ok-Some.field-0-is at c.in-Ok-Some.ensures.told)) unasked (ap (λ v. v.items) c.run_generated.ensures.sources) c.run_generated.ensures.run

pub returns-in-Ok-None : goal.returns-in-Ok-None
returns-in-Ok-None g c = λ desk unasked. UsageShown c.requires.none (sym (rw c.in-Ok-None.field-0-is at c.in-Ok-None.ensures.told))
    (record {
      unasked = unasked;
      taken_none = ap deliveries_of c.unasked.ensures.taken;
      untouched = ap (λ v. v.items) c.unasked.ensures.sources;
      ends = subst (λ s. EndsWith (Some Usage) usage_text s (change_of g.K.Sink.written g.K.Sink.faults c.args.out.now c.finish.new.out)) (sym c.unasked.ensures.status) c.finish.ensures;
    })

pub returns-in-Err : goal.returns-in-Err
returns-in-Err g c = λ desk unasked. WordsUnread unasked
    (record { status_is = c.unasked-in-Err.ensures.status; taken_none = ap deliveries_of c.unasked-in-Err.ensures.taken; untouched = ap (λ v. v.items) c.unasked-in-Err.ensures.sources; unwritten = (refl, refl) })
