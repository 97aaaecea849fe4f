use Rattle.std.proofs.Common.{ap, sym}
use Rattle.esm_rewriting.specs.Rest.{Use as uses}
use Rattle.esm_body.specs.declared.work.Use.TheVariants as u
use Rattle.esm_body.proofs.TurnLemmas.{sets_came}
use Rattle.esm_body.proofs.turn.set.Goals as goal

pub returns-in-Ok : goal.returns-in-Ok
returns-in-Ok g c =
    sets_came g.I.Importer.seen g.I.Importer.modules g.I.Importer.linked g.I.Importer.fits g.I.Importer.begins c.args.inside.now _ c.requires.fits.0 (u.Sets c.args.id c.args.place) c.bound_name.result.now c.args.value
    (ap uses.Sets (sym (rw (c.deref.ensures, c.in-Ok.ensures.cases) at c.bound_name.ensures))) c.requires.code c.requires.fits.1 c.set_name.ensures
