use Rattle.esm_row_machine.specs.declared.runs.Ending.TheVariants as ending
use Rattle.esm_body.proofs.Followed.{value_followed, throw_followed, stop_followed, rows_followed}
use Rattle.esm_body.proofs.segment.call.Goals as goal

pub returns-in-Ok-Value-clause-follows : goal.returns-in-Ok-Value-clause-follows
returns-in-Ok-Value-clause-follows g c = value_followed g.I.Importer.seen g.I.Importer.modules g.I.Importer.linked g.I.Importer.fits g.I.Importer.begins c.args.inside.now c.args.function c.args.values c.args.doing c.requires.fits.0 c.requires.code c.requires.calling c.requires.fits.1 c.args.functions.now.rows c.call.new.rows c.in-Ok-Value.value c.call.new.world c.requires.rows (rw c.in-Ok-Value.field-0-is at c.in-Ok-Value.ensures)

pub returns-in-Ok-Value-clause-rows : goal.returns-in-Ok-Value-clause-rows
returns-in-Ok-Value-clause-rows g c = rows_followed g.I.Importer.seen g.I.Importer.modules g.I.Importer.linked g.I.Importer.fits g.I.Importer.begins c.args.inside.now c.args.function c.args.values c.args.doing c.requires.fits.0 c.requires.code c.requires.calling c.requires.fits.1 c.args.functions.now.rows c.call.new.rows (ending.Value c.in-Ok-Value.value) c.call.new.world c.requires.rows (rw c.in-Ok-Value.field-0-is at c.in-Ok-Value.ensures)

pub returns-in-Ok-Thrown-clause-follows : goal.returns-in-Ok-Thrown-clause-follows
returns-in-Ok-Thrown-clause-follows g c = throw_followed g.I.Importer.seen g.I.Importer.modules g.I.Importer.linked g.I.Importer.fits g.I.Importer.begins c.args.inside.now c.args.function c.args.values c.args.doing c.requires.fits.0 c.requires.code c.requires.calling c.requires.fits.1 c.args.functions.now.rows c.call.new.rows c.in-Ok-Thrown.value c.call.new.world c.requires.rows (rw c.in-Ok-Thrown.field-0-is at c.in-Ok-Thrown.ensures)

pub returns-in-Ok-Thrown-clause-rows : goal.returns-in-Ok-Thrown-clause-rows
returns-in-Ok-Thrown-clause-rows g c = rows_followed g.I.Importer.seen g.I.Importer.modules g.I.Importer.linked g.I.Importer.fits g.I.Importer.begins c.args.inside.now c.args.function c.args.values c.args.doing c.requires.fits.0 c.requires.code c.requires.calling c.requires.fits.1 c.args.functions.now.rows c.call.new.rows (ending.Thrown c.in-Ok-Thrown.value) c.call.new.world c.requires.rows (rw c.in-Ok-Thrown.field-0-is at c.in-Ok-Thrown.ensures)

pub returns-in-Err-clause-follows : goal.returns-in-Err-clause-follows
returns-in-Err-clause-follows g c = stop_followed g.I.Importer.seen g.I.Importer.modules g.I.Importer.linked g.I.Importer.fits g.I.Importer.begins c.args.inside.now c.args.function c.args.values c.args.doing c.requires.fits.0 c.requires.code c.requires.calling c.requires.fits.1 c.args.functions.now.rows c.call.new.rows c.in-Err.stop c.call.new.world c.requires.rows c.in-Err.ensures
