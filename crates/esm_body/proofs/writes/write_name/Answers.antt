use Rattle.std.proofs.Common.{refl}
use Rattle.esm_rewriting.specs.Scopes.{in_scopes}
use Rattle.esm_body.specs.Inner.Stack.{scopes_round}
use Rattle.esm_body.proofs.NamesWritten.{writes_name, writes_same}
use Rattle.esm_body.proofs.writes.write_name.Goals as goal

pub returns : goal.returns
returns g c =
    writes_name g.I.Importer.seen g.I.Importer.modules g.I.Importer.linked g.I.Importer.fits g.I.Importer.begins c.args.inside.now _ c.args.name.now c.args.value c.write_to-wrote.result c.throw_wrote.result c.writes_right.ensures
    (record { at = refl; tree = refl; levels = c.write_to-wrote.ensures.0; alloc = refl; code = refl; engine = refl; errors = refl; envs = refl; promises = refl; imports = refl; scopes = writes_same (in_scopes (scopes_round c.args.inside.now.code.now.levels.items) c.args.name.now) _ _ _ _ _ c.args.name.now c.args.value c.write_to-wrote.result c.writes_right.ensures c.write_to-wrote.ensures.1 })
    c.write_to-wrote.ensures c.throw_wrote.ensures
