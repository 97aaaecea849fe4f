use Rattle.esm_body.proofs.Stepping.{onway_begins, onway_goes_on, onway_less, onway_ends, onway_stops}
use Rattle.esm_body.proofs.segment.run_from.Goals as goal

pub loop-next-init : goal.loop-next-init
loop-next-init g c = record {
  rows = c.requires.rows;
  onway = onway_begins g.I.Importer.seen g.I.Importer.modules g.I.Importer.linked g.I.Importer.fits g.I.Importer.begins c.args.inside.now c.args.place c.requires.code c.requires.place c.requires.fits;
}

pub up_to_step-requires-clause-code : goal.up_to_step-requires-clause-code
up_to_step-requires-clause-code g c = c.loop-next.invariant.onway.here.code

pub up_to_step-requires-clause-place : goal.up_to_step-requires-clause-place
up_to_step-requires-clause-place g c = c.loop-next.invariant.onway.here.place

pub up_to_step-requires-clause-rows : goal.up_to_step-requires-clause-rows
up_to_step-requires-clause-rows g c = c.loop-next.invariant.rows

pub up_to_step-requires-clause-fits : goal.up_to_step-requires-clause-fits
up_to_step-requires-clause-fits g c = c.loop-next.invariant.onway.here.run

pub loop-next-preserved : goal.loop-next-preserved
loop-next-preserved g c = record {
  rows = c.in-Ok.ensures.rows;
  onway = onway_goes_on g.I.Importer.seen g.I.Importer.modules g.I.Importer.linked g.I.Importer.fits g.I.Importer.begins c.args.inside.now c.loop-next.inside c.up_to_step.new.inside c.args.place c.loop-next.here c.in-Goes.on c.loop-next.invariant.onway (rw c.in-Goes.is at c.in-Ok.ensures.steps);
}

pub loop-next-smaller : goal.loop-next-smaller
loop-next-smaller g c = onway_less g.I.Importer.seen g.I.Importer.modules g.I.Importer.linked g.I.Importer.fits g.I.Importer.begins c.args.inside.now c.loop-next.inside c.up_to_step.new.inside c.args.place c.loop-next.here c.in-Goes.on (rw c.in-Goes.is at c.in-Ok.ensures.steps)

pub returns-in-Over : goal.returns-in-Over
returns-in-Over g c = onway_ends g.I.Importer.seen g.I.Importer.modules g.I.Importer.linked g.I.Importer.fits g.I.Importer.begins c.args.inside.now c.loop-next.inside c.up_to_step.new.inside c.args.place c.loop-next.here c.in-Over.ended c.loop-next.invariant.onway (rw c.in-Over.is at c.in-Ok.ensures.steps)

pub returns-in-Err : goal.returns-in-Err
returns-in-Err g c = onway_stops g.I.Importer.seen g.I.Importer.modules g.I.Importer.linked g.I.Importer.fits g.I.Importer.begins c.args.inside.now c.loop-next.inside c.up_to_step.new.inside c.args.place c.loop-next.here c.in-Err.stop c.loop-next.invariant.onway c.in-Err.ensures.steps
