use Rattle.esm_body.proofs.TurnSteps.{prints_came, print_stops, step_stops}
use Rattle.esm_body.proofs.turn.print_awaited.Goals as goal

pub returns-in-Ok-print_one : goal.returns-in-Ok-print_one
returns-in-Ok-print_one g c =
    prints_came g.I.Importer.seen g.I.Importer.modules g.I.Importer.linked g.I.Importer.fits g.I.Importer.begins c.args.inside.now c.step.new.self c.print_one.new.inside c.requires.fits.0 c.args.value c.requires.code c.requires.fits.1 c.in-Ok.ensures c.in-Ok-print_one.ensures

pub returns-in-Err-print_one : goal.returns-in-Err-print_one
returns-in-Err-print_one g c =
    print_stops g.I.Importer.seen g.I.Importer.modules g.I.Importer.linked g.I.Importer.fits g.I.Importer.begins c.args.inside.now c.step.new.self c.print_one.new.inside c.requires.fits.0 c.args.value c.in-Err-print_one.stop c.requires.fits.1 c.in-Ok.ensures c.in-Err-print_one.ensures

pub returns-in-Err : goal.returns-in-Err
returns-in-Err g c = step_stops g.I.Importer.seen g.I.Importer.modules g.I.Importer.linked g.I.Importer.fits g.I.Importer.begins c.args.inside.now c.step.new.self c.requires.fits.0 c.args.value c.in-Err.stop c.requires.fits.1 c.in-Err.ensures
