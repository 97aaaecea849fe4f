use Rattle.esm_body.proofs.Lawful.{begins_some, begins_one}
use Rattle.esm_body.proofs.Stepping.{midway_begins, midway_goes_on, midway_less, midway_steps, midway_ends, midway_stops}
use Rattle.esm_body.proofs.segment.up_to_step.Goals as goal

pub loop-next-init : goal.loop-next-init
loop-next-init g c = record {
  agrees = c.shared_set.ensures.agrees;
  ends = c.shared_set.ensures.ends;
  rows = c.requires.rows;
  midway = midway_begins g.I.Importer.seen g.I.Importer.modules g.I.Importer.linked g.I.Importer.fits g.I.Importer.begins c.args.inside.now c.args.place c.requires.code c.requires.place c.requires.fits;
}

pub go_on-requires-clause-code : goal.go_on-requires-clause-code
go_on-requires-clause-code g c = c.loop-next.invariant.midway.here.code

pub go_on-requires-clause-place : goal.go_on-requires-clause-place
go_on-requires-clause-place g c = c.loop-next.invariant.midway.here.place

pub go_on-requires-clause-rows : goal.go_on-requires-clause-rows
go_on-requires-clause-rows g c = c.loop-next.invariant.rows

pub go_on-requires-clause-fits : goal.go_on-requires-clause-fits
go_on-requires-clause-fits g c = c.loop-next.invariant.midway.here.run

pub loop-next-preserved : goal.loop-next-preserved
loop-next-preserved g c = record {
  agrees = c.loop-next.invariant.agrees;
  ends = c.loop-next.invariant.ends;
  rows = c.in-Ok.ensures.rows;
  midway = midway_goes_on g.I.Importer.seen g.I.Importer.modules g.I.Importer.linked g.I.Importer.fits g.I.Importer.begins (begins_some g.I.Importer.modules g.I.Importer.linked g.I.Importer.fits g.I.Importer.begins g.met.I.Importer.lawful c.loop-next.invariant.agrees c.loop-next.invariant.ends) (begins_one g.I.Importer.modules g.I.Importer.linked g.I.Importer.fits g.I.Importer.begins g.met.I.Importer.lawful) c.args.inside.now c.loop-next.inside c.go_on.new.inside c.args.place c.loop-next.here c.loop-next.invariant.midway c.in-Goes.on (rw c.in-Goes.is at c.in-Ok.ensures.went) c.if-inside-steps.false;
}

pub loop-next-smaller : goal.loop-next-smaller
loop-next-smaller g c = midway_less g.I.Importer.seen g.I.Importer.modules g.I.Importer.linked g.I.Importer.fits g.I.Importer.begins (begins_some g.I.Importer.modules g.I.Importer.linked g.I.Importer.fits g.I.Importer.begins g.met.I.Importer.lawful c.loop-next.invariant.agrees c.loop-next.invariant.ends) (begins_one g.I.Importer.modules g.I.Importer.linked g.I.Importer.fits g.I.Importer.begins g.met.I.Importer.lawful) c.args.inside.now c.loop-next.inside c.go_on.new.inside c.args.place c.loop-next.here c.loop-next.invariant.midway c.in-Goes.on (rw c.in-Goes.is at c.in-Ok.ensures.went) c.if-inside-steps.false

pub returns-then-inside-steps-clause-steps : goal.returns-then-inside-steps-clause-steps
returns-then-inside-steps-clause-steps g c = midway_steps g.I.Importer.seen g.I.Importer.modules g.I.Importer.linked g.I.Importer.fits g.I.Importer.begins (begins_some g.I.Importer.modules g.I.Importer.linked g.I.Importer.fits g.I.Importer.begins g.met.I.Importer.lawful c.loop-next.invariant.agrees c.loop-next.invariant.ends) (begins_one g.I.Importer.modules g.I.Importer.linked g.I.Importer.fits g.I.Importer.begins g.met.I.Importer.lawful) c.args.inside.now c.loop-next.inside c.go_on.new.inside c.args.place c.loop-next.here c.loop-next.invariant.midway c.in-Goes.on (rw c.in-Goes.is at c.in-Ok.ensures.went) c.if-inside-steps.true

pub returns-in-Over-clause-steps : goal.returns-in-Over-clause-steps
returns-in-Over-clause-steps g c = midway_ends g.I.Importer.seen g.I.Importer.modules g.I.Importer.linked g.I.Importer.fits g.I.Importer.begins (begins_some g.I.Importer.modules g.I.Importer.linked g.I.Importer.fits g.I.Importer.begins g.met.I.Importer.lawful c.loop-next.invariant.agrees c.loop-next.invariant.ends) (begins_one g.I.Importer.modules g.I.Importer.linked g.I.Importer.fits g.I.Importer.begins g.met.I.Importer.lawful) c.args.inside.now c.loop-next.inside c.go_on.new.inside c.args.place c.loop-next.here c.loop-next.invariant.midway c.in-Over.ended (rw c.in-Over.is at c.in-Ok.ensures.went)

pub returns-in-Err-clause-steps : goal.returns-in-Err-clause-steps
returns-in-Err-clause-steps g c = midway_stops g.I.Importer.seen g.I.Importer.modules g.I.Importer.linked g.I.Importer.fits g.I.Importer.begins (begins_some g.I.Importer.modules g.I.Importer.linked g.I.Importer.fits g.I.Importer.begins g.met.I.Importer.lawful c.loop-next.invariant.agrees c.loop-next.invariant.ends) (begins_one g.I.Importer.modules g.I.Importer.linked g.I.Importer.fits g.I.Importer.begins g.met.I.Importer.lawful) c.args.inside.now c.loop-next.inside c.go_on.new.inside c.args.place c.loop-next.here c.loop-next.invariant.midway c.in-Err.stop c.in-Err.ensures.went
