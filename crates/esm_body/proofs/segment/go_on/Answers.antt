use Rattle.std.specs.Prelude.{Ok}
use Rattle.esm_body.proofs.Lawful.{begins_some, begins_one}
use Rattle.esm_body.specs.declared.turn.Outcome.TheVariants.{On}
use Rattle.esm_body.specs.declared.segment.Next.TheVariants.{Goes}
use Rattle.esm_body.specs.declared.segment.Place.TheVariants as place
use Rattle.esm_body.proofs.Followed.{on_followed}
use Rattle.esm_body.proofs.TurnsOn.{may_turn, may_follow, rows_behind, went, halted_went}
use Rattle.esm_body.proofs.segment.go_on.Goals as goal

pub turn_at-requires-clause-fits : goal.turn_at-requires-clause-fits
turn_at-requires-clause-fits g c = may_turn g.I.Importer.seen g.I.Importer.modules g.I.Importer.linked g.I.Importer.fits g.I.Importer.begins c.args.inside.now _ c.requires.fits

pub follow-requires-clause-code : goal.follow-requires-clause-code
follow-requires-clause-code g c = c.in-Ok.ensures.same.code

pub follow-requires-clause-outcome : goal.follow-requires-clause-outcome
follow-requires-clause-outcome g c = c.in-Ok.ensures.same.outcome

pub follow-requires-clause-rows : goal.follow-requires-clause-rows
follow-requires-clause-rows g c = rows_behind g.I.Importer.seen g.I.Importer.modules g.I.Importer.linked g.I.Importer.fits g.I.Importer.begins (begins_some g.I.Importer.modules g.I.Importer.linked g.I.Importer.fits g.I.Importer.begins g.met.I.Importer.lawful c.shared_set.ensures.agrees c.shared_set.ensures.ends) (begins_one g.I.Importer.modules g.I.Importer.linked g.I.Importer.fits g.I.Importer.begins g.met.I.Importer.lawful) c.args.inside.now c.turn_at.new.inside _ c.in-Ok.outcome c.args.functions.now.rows c.requires.fits c.in-Ok.ensures c.requires.rows

pub follow-requires-clause-fits : goal.follow-requires-clause-fits
follow-requires-clause-fits g c = may_follow g.I.Importer.seen g.I.Importer.modules g.I.Importer.linked g.I.Importer.fits g.I.Importer.begins (begins_some g.I.Importer.modules g.I.Importer.linked g.I.Importer.fits g.I.Importer.begins g.met.I.Importer.lawful c.shared_set.ensures.agrees c.shared_set.ensures.ends) (begins_one g.I.Importer.modules g.I.Importer.linked g.I.Importer.fits g.I.Importer.begins g.met.I.Importer.lawful) c.args.inside.now c.turn_at.new.inside _ c.in-Ok.outcome c.requires.fits c.in-Ok.ensures

pub returns-in-Ok-On-clause-went : goal.returns-in-Ok-On-clause-went
returns-in-Ok-On-clause-went g c =
    let w = c.args.inside.now in
    let mid = c.turn_at.new.inside in
    let came = rw c.in-Ok-On.field-0-is at c.in-Ok-On.ensures in
    let fit = may_follow g.I.Importer.seen g.I.Importer.modules g.I.Importer.linked g.I.Importer.fits g.I.Importer.begins (begins_some g.I.Importer.modules g.I.Importer.linked g.I.Importer.fits g.I.Importer.begins g.met.I.Importer.lawful c.shared_set.ensures.agrees c.shared_set.ensures.ends) (begins_one g.I.Importer.modules g.I.Importer.linked g.I.Importer.fits g.I.Importer.begins g.met.I.Importer.lawful) w mid _ On c.requires.fits came in
    went g.I.Importer.seen g.I.Importer.modules g.I.Importer.linked g.I.Importer.fits g.I.Importer.begins (begins_some g.I.Importer.modules g.I.Importer.linked g.I.Importer.fits g.I.Importer.begins g.met.I.Importer.lawful c.shared_set.ensures.agrees c.shared_set.ensures.ends) (begins_one g.I.Importer.modules g.I.Importer.linked g.I.Importer.fits g.I.Importer.begins g.met.I.Importer.lawful) w mid mid _ On (Ok (Goes place.Turn)) c.requires.fits came (on_followed g.I.Importer.seen g.I.Importer.modules g.I.Importer.linked g.I.Importer.fits g.I.Importer.begins mid fit.0 came.same.code fit.1)

pub returns-in-Ok-On-clause-rows : goal.returns-in-Ok-On-clause-rows
returns-in-Ok-On-clause-rows g c =
    let came = rw c.in-Ok-On.field-0-is at c.in-Ok-On.ensures in
    rows_behind g.I.Importer.seen g.I.Importer.modules g.I.Importer.linked g.I.Importer.fits g.I.Importer.begins (begins_some g.I.Importer.modules g.I.Importer.linked g.I.Importer.fits g.I.Importer.begins g.met.I.Importer.lawful c.shared_set.ensures.agrees c.shared_set.ensures.ends) (begins_one g.I.Importer.modules g.I.Importer.linked g.I.Importer.fits g.I.Importer.begins g.met.I.Importer.lawful) c.args.inside.now c.turn_at.new.inside _ On c.args.functions.now.rows c.requires.fits came c.requires.rows

pub returns-in-Ok-clause-went : goal.returns-in-Ok-clause-went
returns-in-Ok-clause-went g c =
    went g.I.Importer.seen g.I.Importer.modules g.I.Importer.linked g.I.Importer.fits g.I.Importer.begins (begins_some g.I.Importer.modules g.I.Importer.linked g.I.Importer.fits g.I.Importer.begins g.met.I.Importer.lawful c.shared_set.ensures.agrees c.shared_set.ensures.ends) (begins_one g.I.Importer.modules g.I.Importer.linked g.I.Importer.fits g.I.Importer.begins g.met.I.Importer.lawful) c.args.inside.now c.turn_at.new.inside c.follow.new.inside _ c.in-Ok.outcome c.follow.result c.requires.fits c.in-Ok.ensures c.follow.ensures.follows

pub returns-in-Err-clause-went : goal.returns-in-Err-clause-went
returns-in-Err-clause-went g c = halted_went g.I.Importer.seen g.I.Importer.modules g.I.Importer.linked g.I.Importer.fits g.I.Importer.begins c.args.inside.now c.turn_at.new.inside _ c.in-Err.stop c.in-Err.ensures
