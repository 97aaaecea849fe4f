use Rattle.esm_body.proofs.Shown.{keys_are, keys_not, weaker}
use Rattle.esm_body.proofs.displays.keys_of.Goals as goal

pub namespace_keys-requires : goal.namespace_keys-requires
namespace_keys-requires g c = g.met.I.Importer.sound c.args.imports.now c.args.m.0 (rw c.size.ensures at c.if-at-size.true)

pub returns-then-at-size : goal.returns-then-at-size
returns-then-at-size g c =
    let i = c.args.imports.now in
    weaker _ _ (λ keys k. keys_are (g.I.Importer.modules (g.I.Importer.seen i)) (g.I.ExportGraph.graph i) (g.I.Importer.urls i) (g.I.Importer.linked (g.I.Importer.seen i)) (g.met.I.Importer.has_linked i) c.args.m.0 keys.items c.follows_numbers.ensures k) c.namespace_keys.result c.namespace_keys.ensures

pub returns-else-at-size : goal.returns-else-at-size
returns-else-at-size g c =
    let i = c.args.imports.now in
    keys_not (g.I.Importer.modules (g.I.Importer.seen i)) (g.I.ExportGraph.graph i) (g.I.Importer.urls i) (g.I.Importer.linked (g.I.Importer.seen i)) (g.met.I.Importer.has_linked i) c.args.m.0 c.new.result.items (rw c.size.ensures at c.if-at-size.false)
