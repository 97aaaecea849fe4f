use Rattle.std.proofs.Common.{refl}
use Rattle.esm_body.proofs.Advanced.{found_code, found_use, awaited_came, used_may, used_turned, failed_code, failed_turned, called_boxed, stopped_turned}
use Rattle.esm_body.proofs.turn.advance.Goals as goal

pub returns-then-doing : goal.returns-then-doing
returns-then-doing g c =
    awaited_came g.I.Importer.seen g.I.Importer.modules g.I.Importer.linked g.I.Importer.fits g.I.Importer.begins g.met.I.Importer.lawful c.shared_set.ensures.agrees c.shared_set.ensures.ends g.I.ExportGraph.graph g.I.Importer.urls g.met.I.Importer.has_linked c.args.inside.now c.args.doing c.args.given c.advance.new.world c.requires.fits.0 c.in-Ok-Value.value c.if-doing.true c.requires.code c.requires.purpose c.requires.fits.1 (rw c.in-Ok-Value.field-0-is at c.in-Ok-Value.ensures.moves)

pub finish-requires-clause-code : goal.finish-requires-clause-code
finish-requires-clause-code g c = found_code g.I.Importer.seen g.I.Importer.modules g.I.Importer.linked g.I.Importer.fits g.I.Importer.begins g.met.I.Importer.lawful c.shared_set.ensures.agrees c.shared_set.ensures.ends g.I.ExportGraph.graph g.I.Importer.urls g.met.I.Importer.has_linked c.args.inside.now c.args.doing c.args.given c.advance.new.world c.requires.fits.0 c.in-Ok-Value.value c.requires.code c.requires.fits.1 (rw c.in-Ok-Value.field-0-is at c.in-Ok-Value.ensures.moves)

pub finish-requires-clause-purpose : goal.finish-requires-clause-purpose
finish-requires-clause-purpose g c = found_use g.I.Importer.seen g.I.Importer.modules g.I.Importer.linked g.I.Importer.fits g.I.Importer.begins g.met.I.Importer.lawful c.shared_set.ensures.agrees c.shared_set.ensures.ends g.I.ExportGraph.graph g.I.Importer.urls g.met.I.Importer.has_linked c.args.inside.now c.args.doing c.args.given c.advance.new.world c.requires.fits.0 c.in-Ok-Value.value c.requires.purpose c.requires.fits.1 (rw c.in-Ok-Value.field-0-is at c.in-Ok-Value.ensures.moves)

pub finish-requires-clause-fits : goal.finish-requires-clause-fits
finish-requires-clause-fits g c = used_may g.I.Importer.seen g.I.Importer.modules g.I.Importer.linked g.I.Importer.fits g.I.Importer.begins g.met.I.Importer.lawful c.shared_set.ensures.agrees c.shared_set.ensures.ends g.I.ExportGraph.graph g.I.Importer.urls g.met.I.Importer.has_linked c.args.inside.now c.args.doing c.args.given c.advance.new.world c.requires.fits.0 c.in-Ok-Value.value c.if-doing.false c.requires.fits.1 (rw c.in-Ok-Value.field-0-is at c.in-Ok-Value.ensures.moves)

pub returns-in-Ok-Value : goal.returns-in-Ok-Value
returns-in-Ok-Value g c =
    used_turned g.I.Importer.seen g.I.Importer.modules g.I.Importer.linked g.I.Importer.fits g.I.Importer.begins g.met.I.Importer.lawful c.shared_set.ensures.agrees c.shared_set.ensures.ends g.I.ExportGraph.graph g.I.Importer.urls g.met.I.Importer.has_linked c.args.inside.now c.args.doing c.args.given c.advance.new.world c.finish.new.inside c.requires.fits.0 c.in-Ok-Value.value c.finish.result c.if-doing.false c.requires.fits.1 (rw c.in-Ok-Value.field-0-is at c.in-Ok-Value.ensures.moves) c.finish.ensures

pub throw-requires : goal.throw-requires
throw-requires g c = record { code = failed_code g.I.Importer.seen g.I.Importer.modules g.I.Importer.linked g.I.Importer.fits g.I.Importer.begins g.met.I.Importer.lawful c.shared_set.ensures.agrees c.shared_set.ensures.ends g.I.ExportGraph.graph g.I.Importer.urls g.met.I.Importer.has_linked c.args.inside.now c.args.doing c.args.given c.advance.new.world c.requires.fits.0 c.in-Ok-Thrown.value c.requires.code c.requires.fits.1 (rw c.in-Ok-Thrown.field-0-is at c.in-Ok-Thrown.ensures.moves) }

pub returns-in-Ok-Thrown : goal.returns-in-Ok-Thrown
returns-in-Ok-Thrown g c =
    failed_turned g.I.Importer.seen g.I.Importer.modules g.I.Importer.linked g.I.Importer.fits g.I.Importer.begins g.met.I.Importer.lawful c.shared_set.ensures.agrees c.shared_set.ensures.ends g.I.ExportGraph.graph g.I.Importer.urls g.met.I.Importer.has_linked c.args.inside.now c.args.doing c.args.given c.advance.new.world c.throw.new.inside c.requires.fits.0 c.in-Ok-Thrown.value c.throw.result c.requires.fits.1 (rw c.in-Ok-Thrown.field-0-is at c.in-Ok-Thrown.ensures.moves) c.throw.ensures

pub returns-in-Ok : goal.returns-in-Ok
returns-in-Ok g c =
    let sound = rw c.in-Ok-Call.field-0-is at c.in-Ok-Call.ensures.sound in
    called_boxed g.I.Importer.seen g.I.Importer.modules g.I.Importer.linked g.I.Importer.fits g.I.Importer.begins g.met.I.Importer.lawful c.shared_set.ensures.agrees c.shared_set.ensures.ends g.I.ExportGraph.graph g.I.Importer.urls g.met.I.Importer.has_linked c.args.inside.now c.args.doing c.args.given c.advance.new.world c.requires.fits.0 c.in-Ok-Call.function c.in-Ok-Call.values (record c.args.doing { frame = c.advance.new.self }) c.in-Ok.doing c.in-Ok.ensures.ok refl refl c.requires.code c.requires.purpose sound.0 sound.1 c.requires.fits.1 (rw c.in-Ok-Call.field-0-is at c.in-Ok-Call.ensures.moves)

pub returns-in-Err-Stopped : goal.returns-in-Err-Stopped
returns-in-Err-Stopped g c = stopped_turned g.I.Importer.seen g.I.Importer.modules g.I.Importer.linked g.I.Importer.fits g.I.Importer.begins g.met.I.Importer.lawful c.shared_set.ensures.agrees c.shared_set.ensures.ends g.I.ExportGraph.graph g.I.Importer.urls g.met.I.Importer.has_linked c.args.inside.now c.args.doing c.args.given c.advance.new.world c.requires.fits.0 c.in-Err-Stopped.stop c.requires.fits.1 (rw c.in-Err-Stopped.field-0-is at c.in-Err-Stopped.ensures.moves)
