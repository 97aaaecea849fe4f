use Rattle.std.proofs.Common.{refl}
use Rattle.esm_body.proofs.TurnLemmas.{branch_came}
use Rattle.esm_body.proofs.turn.branch.Goals as goal

pub returns-in-Ok : goal.returns-in-Ok
returns-in-Ok g c =
    let sound = c.in-Ok.ensures.sound c.requires.code.levels in
    branch_came g.I.Importer.seen g.I.Importer.modules g.I.Importer.linked g.I.Importer.fits g.I.Importer.begins c.args.inside.now _ c.requires.fits.0 c.args.id c.args.value.now c.is_true-truth.result c.is_true-truth.ensures refl refl
    (record { levels = sound.0; some = sound.1 }) c.requires.fits.1 c.in-Ok.ensures.begun
