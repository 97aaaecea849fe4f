use Rattle.std.proofs.Common.{Some, ap, refl, ◌∙◌}
use Rattle.std.specs.Prelude.{Ok}
use Rattle.esm_body.specs.declared.work.Work.TheVariants as w
use Rattle.esm_body.proofs.TurnTakes.{taken_code, taken_work, taken_may, taken_turned, untaken_code, untaken_ends, untaken_may, untaken_turned}
use Rattle.esm_body.proofs.turn.turn.Goals as goal

pub begin_statement-requires-clause-code : goal.begin_statement-requires-clause-code
begin_statement-requires-clause-code g c = taken_code c.args.inside.now.code.now (record c.args.inside.now.code.now { levels = c.take_next.new.levels }) c.take_next.result refl c.take_next.ensures (w.Whole c.in-Some-Whole.id) (c.in-Some-Whole.is ∙ ap Some c.in-Some-Whole.field-0-is) c.requires.code

pub begin_statement-requires-clause-id : goal.begin_statement-requires-clause-id
begin_statement-requires-clause-id g c = taken_work c.args.inside.now.code.now (record c.args.inside.now.code.now { levels = c.take_next.new.levels }) c.take_next.result refl c.take_next.ensures (w.Whole c.in-Some-Whole.id) (c.in-Some-Whole.is ∙ ap Some c.in-Some-Whole.field-0-is) c.requires.code

pub begin_statement-requires-clause-fits : goal.begin_statement-requires-clause-fits
begin_statement-requires-clause-fits g c = taken_may g.I.Importer.seen g.I.Importer.modules g.I.Importer.linked g.I.Importer.fits g.I.Importer.begins c.args.inside.now (record c.args.inside.now.code.now { levels = c.take_next.new.levels }) c.take_next.result refl refl c.take_next.ensures (w.Whole c.in-Some-Whole.id) (c.in-Some-Whole.is ∙ ap Some c.in-Some-Whole.field-0-is) c.requires.fits

pub returns-in-Some-Whole : goal.returns-in-Some-Whole
returns-in-Some-Whole g c = taken_turned g.I.Importer.seen g.I.Importer.modules g.I.Importer.linked g.I.Importer.fits g.I.Importer.begins c.args.inside.now (record c.args.inside.now.code.now { levels = c.take_next.new.levels }) c.take_next.result refl refl c.take_next.ensures c.begin_statement.new.inside (w.Whole c.in-Some-Whole.id) c.begin_statement.result (c.in-Some-Whole.is ∙ ap Some c.in-Some-Whole.field-0-is) c.begin_statement.ensures

pub advance-requires-clause-code : goal.advance-requires-clause-code
advance-requires-clause-code g c = taken_code c.args.inside.now.code.now (record c.args.inside.now.code.now { levels = c.take_next.new.levels }) c.take_next.result refl c.take_next.ensures (w.Does c.in-Some-Does.doing) (c.in-Some-Does.is ∙ ap Some c.in-Some-Does.field-0-is) c.requires.code

pub advance-requires-clause-purpose : goal.advance-requires-clause-purpose
advance-requires-clause-purpose g c = (taken_work c.args.inside.now.code.now (record c.args.inside.now.code.now { levels = c.take_next.new.levels }) c.take_next.result refl c.take_next.ensures (w.Does c.in-Some-Does.doing) (c.in-Some-Does.is ∙ ap Some c.in-Some-Does.field-0-is) c.requires.code).0

pub advance-requires-clause-sound : goal.advance-requires-clause-sound
advance-requires-clause-sound g c = (taken_work c.args.inside.now.code.now (record c.args.inside.now.code.now { levels = c.take_next.new.levels }) c.take_next.result refl c.take_next.ensures (w.Does c.in-Some-Does.doing) (c.in-Some-Does.is ∙ ap Some c.in-Some-Does.field-0-is) c.requires.code).1

pub advance-requires-clause-given : goal.advance-requires-clause-given
advance-requires-clause-given g c = (taken_work c.args.inside.now.code.now (record c.args.inside.now.code.now { levels = c.take_next.new.levels }) c.take_next.result refl c.take_next.ensures (w.Does c.in-Some-Does.doing) (c.in-Some-Does.is ∙ ap Some c.in-Some-Does.field-0-is) c.requires.code).2

pub advance-requires-clause-fits : goal.advance-requires-clause-fits
advance-requires-clause-fits g c = taken_may g.I.Importer.seen g.I.Importer.modules g.I.Importer.linked g.I.Importer.fits g.I.Importer.begins c.args.inside.now (record c.args.inside.now.code.now { levels = c.take_next.new.levels }) c.take_next.result refl refl c.take_next.ensures (w.Does c.in-Some-Does.doing) (c.in-Some-Does.is ∙ ap Some c.in-Some-Does.field-0-is) c.requires.fits

pub returns-in-Some-Does : goal.returns-in-Some-Does
returns-in-Some-Does g c = taken_turned g.I.Importer.seen g.I.Importer.modules g.I.Importer.linked g.I.Importer.fits g.I.Importer.begins c.args.inside.now (record c.args.inside.now.code.now { levels = c.take_next.new.levels }) c.take_next.result refl refl c.take_next.ensures c.advance.new.inside (w.Does c.in-Some-Does.doing) c.advance.result (c.in-Some-Does.is ∙ ap Some c.in-Some-Does.field-0-is) c.advance.ensures

pub finish-requires-clause-code : goal.finish-requires-clause-code
finish-requires-clause-code g c = taken_code c.args.inside.now.code.now (record c.args.inside.now.code.now { levels = c.take_next.new.levels }) c.take_next.result refl c.take_next.ensures (w.Has c.in-Some-Has.purpose c.in-Some-Has.value) (c.in-Some-Has.is ∙ ap Some c.in-Some-Has.field-0-is) c.requires.code

pub finish-requires-clause-purpose : goal.finish-requires-clause-purpose
finish-requires-clause-purpose g c = taken_work c.args.inside.now.code.now (record c.args.inside.now.code.now { levels = c.take_next.new.levels }) c.take_next.result refl c.take_next.ensures (w.Has c.in-Some-Has.purpose c.in-Some-Has.value) (c.in-Some-Has.is ∙ ap Some c.in-Some-Has.field-0-is) c.requires.code

pub finish-requires-clause-fits : goal.finish-requires-clause-fits
finish-requires-clause-fits g c = taken_may g.I.Importer.seen g.I.Importer.modules g.I.Importer.linked g.I.Importer.fits g.I.Importer.begins c.args.inside.now (record c.args.inside.now.code.now { levels = c.take_next.new.levels }) c.take_next.result refl refl c.take_next.ensures (w.Has c.in-Some-Has.purpose c.in-Some-Has.value) (c.in-Some-Has.is ∙ ap Some c.in-Some-Has.field-0-is) c.requires.fits

pub returns-in-Some-Has : goal.returns-in-Some-Has
returns-in-Some-Has g c = taken_turned g.I.Importer.seen g.I.Importer.modules g.I.Importer.linked g.I.Importer.fits g.I.Importer.begins c.args.inside.now (record c.args.inside.now.code.now { levels = c.take_next.new.levels }) c.take_next.result refl refl c.take_next.ensures c.finish.new.inside (w.Has c.in-Some-Has.purpose c.in-Some-Has.value) c.finish.result (c.in-Some-Has.is ∙ ap Some c.in-Some-Has.field-0-is) c.finish.ensures

pub leave-requires-clause-code : goal.leave-requires-clause-code
leave-requires-clause-code g c = untaken_code c.args.inside.now.code.now (record c.args.inside.now.code.now { levels = c.take_next.new.levels }) c.take_next.result refl c.take_next.ensures c.in-None.is c.requires.code

pub leave-requires-clause-ends : goal.leave-requires-clause-ends
leave-requires-clause-ends g c = untaken_ends c.args.inside.now.code.now (record c.args.inside.now.code.now { levels = c.take_next.new.levels }) c.take_next.result refl c.take_next.ensures c.in-None.is

pub leave-requires-clause-fits : goal.leave-requires-clause-fits
leave-requires-clause-fits g c = untaken_may g.I.Importer.seen g.I.Importer.modules g.I.Importer.linked g.I.Importer.fits g.I.Importer.begins c.args.inside.now (record c.args.inside.now.code.now { levels = c.take_next.new.levels }) c.take_next.result refl refl c.take_next.ensures c.in-None.is c.requires.fits

pub returns-in-None : goal.returns-in-None
returns-in-None g c = untaken_turned g.I.Importer.seen g.I.Importer.modules g.I.Importer.linked g.I.Importer.fits g.I.Importer.begins c.args.inside.now (record c.args.inside.now.code.now { levels = c.take_next.new.levels }) c.take_next.result refl refl c.take_next.ensures c.leave.new.inside (Ok c.leave.result) c.in-None.is c.leave.ensures
