use Rattle.std.proofs.Common.{ap, refl, sym, subst}
use Rattle.std.specs.Prelude.{Some}
use Rattle.esm_base.specs.declared.status.Status.TheVariants.{MapRefused}
use Rattle.esm_record.specs.Delivered.{deliveries_of}
use Rattle.esm_run.specs.CommandMap.{desk_change, refusal_text}
use Rattle.esm_run.specs.Inner.MapReading.{bytes_of}
use Rattle.esm_run.specs.Recorded.{front_text}
use Rattle.esm_run.specs.Written.{EndsWith, change_of}
use Rattle.esm_run.specs.Report.{MapUnread, MapShown, EntryRun}
use Rattle.esm_run.proofs.MapLemmas.{refused_map}
use Rattle.esm_run.proofs.top.run_command.Goals as goal

pub returns-in-Ok : goal.returns-in-Ok
returns-in-Ok g c = EntryRun (record {
  maps = c.in-Ok.given.map;
  map_is = c.in-Ok.ensures.comes.0;
  front = front_text c.args.command.now (bytes_of c.in-Ok.given) (deliveries_of c.run_entry.result.taken.items);
  front_is = record { bytes = bytes_of c.in-Ok.given; given = c.in-Ok.ensures.comes.1; text = refl };
  run = c.run_entry.ensures;
})

pub returns-in-Some : goal.returns-in-Some
returns-in-Some g c =
    MapShown c.in-Some.url c.in-Err-Fault.refusal c.in-Some.is
    (refused_map c.args.command.now.map c.in-Some.url (desk_change g.S.Source.asked g.S.Source.holds c.args.desk.now c.map_of.new.desk) c.args.command.now.base c.in-Err-Fault.refusal c.in-Some.is
    (rw c.in-Err-Fault.field-0-is at c.in-Err-Fault.ensures.comes))
    (record {
      taken_none = ap deliveries_of c.unasked.ensures.taken;
      untouched = ap (λ v. v.items) c.unasked.ensures.sources;
      ends = subst (λ s. EndsWith (Some MapRefused) (refusal_text c.in-Some.url c.in-Err-Fault.refusal) s (change_of g.K.Sink.written g.K.Sink.faults c.args.out.now c.show_refusal.new.out)) (sym c.unasked.ensures.status) c.show_refusal.ensures;
    })

pub returns-in-Err-Memory : goal.returns-in-Err-Memory
returns-in-Err-Memory g c = MapUnread (rw c.in-Err-Memory.field-0-is at c.in-Err-Memory.ensures.comes)
    (record { status_is = c.unasked-in-Err-Memory.ensures.status; taken_none = ap deliveries_of c.unasked-in-Err-Memory.ensures.taken; untouched = ap (λ v. v.items) c.unasked-in-Err-Memory.ensures.sources; unwritten = (refl, refl) })
