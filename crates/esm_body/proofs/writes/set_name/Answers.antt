use Rattle.std.proofs.Common.{refl}
use Rattle.esm_body.specs.Inner.Stack.{scopes_round}
use Rattle.esm_body.proofs.NamesWritten.{sets_name, sets_same}
use Rattle.esm_body.proofs.writes.set_name.Goals as goal

pub returns : goal.returns
returns g c =
    sets_name g.I.Importer.seen g.I.Importer.modules g.I.Importer.linked g.I.Importer.fits g.I.Importer.begins c.args.inside.now _ c.args.name.now c.args.value c.writes_right.ensures
    (record { at = refl; tree = refl; levels = c.set_to.ensures.0; alloc = refl; code = refl; engine = refl; errors = refl; envs = refl; promises = refl; imports = refl; scopes = sets_same (scopes_round c.args.inside.now.code.now.levels.items) _ _ _ _ c.args.name.now c.args.value c.writes_right.ensures c.set_to.ensures.1 })
    refl c.set_to.ensures
