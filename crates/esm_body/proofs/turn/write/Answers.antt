use Rattle.std.proofs.Common.{◌≡◌}
use Rattle.std.specs.Arc.{arc_value}
use Rattle.esm_tree.specs.Flat.{stmt_part}
use Rattle.esm_body.specs.Code.{assigned}
use Rattle.esm_body.proofs.TurnLemmas.{like_code, writes_came, writes_turned}
use Rattle.esm_body.proofs.turn.write.Goals as goal

pub returns-in-Ok-None : goal.returns-in-Ok-None
returns-in-Ok-None g c =
    let name : c.assigned.result.now ≡ assigned (stmt_part (arc_value c.args.inside.now.code.now.tree).stmts c.args.id) = rw (c.deref.ensures, c.in-Ok.ensures.cases) at c.assigned.ensures in
    writes_came g.I.Importer.seen g.I.Importer.modules g.I.Importer.linked g.I.Importer.fits g.I.Importer.begins c.args.inside.now _ c.requires.fits.0 c.args.id c.args.value c.requires.code c.requires.fits.1 c.assigned.result.now name (rw c.in-Ok-None.field-0-is at c.in-Ok-None.ensures)

pub throw-requires : goal.throw-requires
throw-requires g c = record { code = like_code g.I.Importer.seen g.I.Importer.modules g.I.Importer.linked g.I.Importer.fits g.I.Importer.begins c.args.inside.now _ (rw c.in-Ok-Some.field-0-is at c.in-Ok-Some.ensures).0 c.requires.code }

pub returns-in-Ok-Some : goal.returns-in-Ok-Some
returns-in-Ok-Some g c =
    let name : c.assigned.result.now ≡ assigned (stmt_part (arc_value c.args.inside.now.code.now.tree).stmts c.args.id) = rw (c.deref.ensures, c.in-Ok.ensures.cases) at c.assigned.ensures in
    writes_turned g.I.Importer.seen g.I.Importer.modules g.I.Importer.linked g.I.Importer.fits g.I.Importer.begins c.args.inside.now c.write_name.new.inside c.throw.new.inside c.requires.fits.0 c.args.id c.args.value c.in-Ok-Some.error c.throw.result c.requires.fits.1 c.assigned.result.now name (rw c.in-Ok-Some.field-0-is at c.in-Ok-Some.ensures) c.throw.ensures
