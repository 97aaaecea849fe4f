use Rattle.esm_body.proofs.Stepping.{ran_behind, stopped_behind}
use Rattle.esm_body.proofs.segment.run_behind.Goals as goal

pub run_from-requires-clause-code : goal.run_from-requires-clause-code
run_from-requires-clause-code g c = (rw c.in-Goes.is at c.in-Ok.ensures.follows).2.code

pub run_from-requires-clause-place : goal.run_from-requires-clause-place
run_from-requires-clause-place g c = (rw c.in-Goes.is at c.in-Ok.ensures.follows).2.place

pub run_from-requires-clause-rows : goal.run_from-requires-clause-rows
run_from-requires-clause-rows g c = c.in-Ok.ensures.rows

pub run_from-requires-clause-fits : goal.run_from-requires-clause-fits
run_from-requires-clause-fits g c = (rw c.in-Goes.is at c.in-Ok.ensures.follows).2.run

pub returns-in-Goes : goal.returns-in-Goes
returns-in-Goes g c =
    ran_behind g.I.Importer.seen g.I.Importer.modules g.I.Importer.linked g.I.Importer.fits g.I.Importer.begins c.args.inside.now c.follow.new.inside c.run_from.new.inside c.args.outcome c.in-Goes.place (rw c.in-Goes.is at c.in-Ok.ensures.follows) c.run_from.result c.run_from.ensures

pub returns-in-Over : goal.returns-in-Over
returns-in-Over g c = rw c.in-Over.is at c.in-Ok.ensures.follows

pub returns-in-Err : goal.returns-in-Err
returns-in-Err g c = stopped_behind g.I.Importer.seen g.I.Importer.modules g.I.Importer.linked g.I.Importer.fits g.I.Importer.begins c.args.inside.now c.follow.new.inside c.args.outcome c.in-Err.stop c.in-Err.ensures.follows
