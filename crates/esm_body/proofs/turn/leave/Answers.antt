use Rattle.std.proofs.Common.{length, refl, arith}
use Rattle.std.specs.Arc.{arc_value}
use Rattle.esm_body.proofs.TurnTakes.{leaves_came, ends_came}
use Rattle.esm_body.proofs.turn.leave.Goals as goal

pub returns-then-len-gt1 : goal.returns-then-len-gt1
returns-then-len-gt1 g c =
    leaves_came g.I.Importer.seen g.I.Importer.modules g.I.Importer.linked g.I.Importer.fits g.I.Importer.begins c.args.inside.now _ c.requires.fits.0 c.pop_level.result c.requires.fits.1 c.requires.ends refl refl
    (c.pop_level.ensures.left (arc_value c.args.inside.now.code.now.tree).stmts) (c.pop_level.ensures.sound (length (arc_value c.args.inside.now.code.now.tree).stmts) c.requires.code.levels).1

pub returns-else-len-gt1 : goal.returns-else-len-gt1
returns-else-len-gt1 g c =
    let n = c.len.ensures in
    let f = c.if-len-gt1.false in
    let l = c.args.inside.now.code.now.levels.ok.0 in
    ends_came g.I.Importer.seen g.I.Importer.modules g.I.Importer.linked g.I.Importer.fits g.I.Importer.begins c.args.inside.now c.requires.fits.0 c.requires.code c.requires.fits.1 c.requires.ends (omega (arith, n, f, l))
