use Rattle.esm_env.specs.Calls.{scopes_of}
use Rattle.esm_body.proofs.Shown.{weaker}
use Rattle.esm_body.proofs.MemberRead.{member_is, member_not}
use Rattle.esm_body.specs.Inner.Names.{found_reading}
use Rattle.esm_body.proofs.members.read_member.Goals as goal

pub resolve_export-requires : goal.resolve_export-requires
resolve_export-requires g c = g.met.I.Importer.sound c.args.imports.now c.args.m.0 (rw c.size.ensures at c.if-at-size.true)

pub returns-in_ok-resolution : goal.returns-in_ok-resolution
returns-in_ok-resolution g c =
    let i = c.args.imports.now in
    weaker _ _ (λ found h. member_is (g.I.Importer.modules (g.I.Importer.seen i)) (g.I.ExportGraph.graph i) (g.I.Importer.urls i) (g.I.Importer.linked (g.I.Importer.seen i)) (scopes_of c.args.envs.now) (g.met.I.Importer.has_linked i) c.follows_numbers.ensures c.ends_right.ensures c.args.m.0 c.args.name.now c.in_ok-resolution.resolution (found_reading found) c.in_ok-resolution.ensures h) c.read_resolved.result c.read_resolved.ensures

pub returns-else-at-size : goal.returns-else-at-size
returns-else-at-size g c =
    let i = c.args.imports.now in
    member_not (g.I.Importer.modules (g.I.Importer.seen i)) (g.I.ExportGraph.graph i) (g.I.Importer.urls i) (g.I.Importer.linked (g.I.Importer.seen i)) (scopes_of c.args.envs.now) (g.met.I.Importer.has_linked i) c.args.m.0 c.args.name.now _ (rw c.size.ensures at c.if-at-size.false)
